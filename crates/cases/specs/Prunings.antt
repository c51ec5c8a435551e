-- Section 16 of the rules: the pruned conversions, worked out from the rules. A case is one line: the number, whether
-- work room is lacking, the length, the nodes looked at and what is left in the room for symbols, and what they must
-- be.
use Rattle.std.specs.Prelude.{ℕ, ◌≡◌, cond, List, [], ◌∷◌, ◌++◌, map, ℤ, pos, replicate}
use Rattle.universe.specs.declared.Universe.{Universe}
use Rattle.csg.specs.Surfaces.{Surfaces, surfaces_of}
use Rattle.pruned.specs.Told.{ConversionAnswer}
use Rattle.pruned.specs.Answers.{raw_of_one_answer, raw_of_one_buffer, merged_of_one_answer, merged_of_one_buffer}
use Rattle.pruned.specs.Answers.{raw_of_two_answer, raw_of_two_buffer}
use Rattle.cases.specs.Cases.{minus, row, text}
use Rattle.cases.specs.FrameBits.{Asked, ◌is◌, universe_of}

abbrev pub told : ConversionAnswer → List ℕ → List ℕ
told a room = a.refusal ∷ cond a.short_of_work 1 0 ∷ a.length ∷ a.looked ∷ room

-- four frames and no place axis; rows: from frame 1 on, in every frame, from frame 3 on
abbrev pub frames : Universe
frames = universe_of 1 0 2

abbrev pub from_on : Surfaces
from_on =
    surfaces_of
    (row (minus 1) (pos 1) (pos 0)
    (row (pos 1) (pos 1) (pos 0)
    (row (minus 3) (pos 1) (pos 0) [])))
    []

-- rooms of so many numbers and of so many symbols
abbrev pub numbers : ℕ → List ℤ
numbers n = replicate n (pos 0)

abbrev pub lent : ℕ → List ℕ
lent n = replicate n 0

-- of one tree and of two, with so many numbers of work room and so many symbols lent
abbrev pub raw_one : List ℕ → ℕ → ℕ → List ℕ
raw_one words work room =
    told (raw_of_one_answer frames from_on words (numbers work) (lent room))
    (raw_of_one_buffer frames from_on words (numbers work) (lent room))

abbrev pub merged_one : List ℕ → ℕ → ℕ → List ℕ
merged_one words work room =
    told (merged_of_one_answer frames from_on words (numbers work) (lent room))
    (merged_of_one_buffer frames from_on words (numbers work) (lent room))

abbrev pub raw_two : List ℕ → List ℕ → ℕ → ℕ → List ℕ
raw_two first second work room =
    told (raw_of_two_answer frames from_on first second (numbers work) (lent room))
    (raw_of_two_buffer frames from_on first second (numbers work) (lent room))

-- a MINUS (b MINUS c), with a BLACK everywhere: black in frames 0 and 3
abbrev pub less_within : List ℕ
less_within = 257 ∷ 256 ∷ 258 ∷ 4 ∷ 4 ∷ []

abbrev pub pruning_cases : List Asked
pruning_cases =
    -- a tree that is decided at once is one symbol and one node, and so is a constant
    (raw_one (257 ∷ []) 9 1 is 0 ∷ 0 ∷ 1 ∷ 1 ∷ text "B")
    ∷ (raw_one (0 ∷ []) 9 1 is 0 ∷ 0 ∷ 1 ∷ 1 ∷ text "W")
    -- one halfspace: one node in the universe, in both halves, and in the two voxels of the half that is undecided
    ∷ (raw_one (256 ∷ []) 9 5 is 0 ∷ 0 ∷ 5 ∷ 5 ∷ text "((WBB")
    -- a tree that is BLACK over the universe is looked at there, and carried no more: 2 nodes, and then 4 times one
    ∷ (raw_two (257 ∷ []) (256 ∷ []) 18 5 is 0 ∷ 0 ∷ 5 ∷ 6 ∷ text "((WBB")
    ∷ (raw_two (256 ∷ []) (257 ∷ []) 18 5 is 0 ∷ 0 ∷ 5 ∷ 6 ∷ text "((WBB")
    -- a WHITE one decides both
    ∷ (raw_two (256 ∷ []) (0 ∷ []) 18 1 is 0 ∷ 0 ∷ 1 ∷ 2 ∷ text "W")
    -- MINUS within MINUS is a and (not b, or c), 5 nodes; a is BLACK, so 3 go into either half, and one of them into
    -- each half's voxels, not b into the first two and c into the others: 5 + 2 * 3 + 4 * 1
    ∷ (raw_one less_within 45 7 is 0 ∷ 0 ∷ 7 ∷ 15 ∷ text "((BW(WB")
    ∷ (merged_one less_within 45 7 is 0 ∷ 0 ∷ 7 ∷ 15 ∷ text "((BW(WB")
    -- 3 levels of 5 nodes are asked for, then 7 symbols; where either is lacking no node is told
    ∷ (raw_one less_within 44 7 is 6 ∷ 1 ∷ 15 ∷ 0 ∷ lent 7)
    ∷ (raw_one less_within 45 6 is 6 ∷ 0 ∷ 7 ∷ 0 ∷ lent 6)
    ∷ (raw_one less_within 45 8 is 0 ∷ 0 ∷ 7 ∷ 15 ∷ (text "((BW(WB" ++ lent 1))
    ∷ []

-- every one is answered as it must be
abbrev pub PruningCasesHold : Type 0
PruningCasesHold = map (λ c. c.answered) pruning_cases ≡ map (λ c. c.expected) pruning_cases
