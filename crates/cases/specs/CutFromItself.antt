-- Rules 3.4 and 3.7, as one list: a prop cut from itself, and the all-zero halfspace reversed. A case asks what the
-- contract of the merged conversion says of a call: its answer, and what it leaves of two places lent.
use Rattle.std.specs.Prelude.{ℕ, zero, suc, ◌≡◌, List, [], ◌∷◌, ◌++◌, map, ℤ, pos, replicate}
use Rattle.universe.specs.Refusals.{overfull_tree}
use Rattle.bintree.specs.Told.{WrittenAnswer}
use Rattle.bintree.specs.Answers.{refused_writing, done_writing}
use Rattle.csg.specs.Surfaces.{surfaces_of}
use Rattle.csg.specs.Words.{minus_itself}
use Rattle.convert.specs.Answers.{merged_of_one_answer, merged_of_one_buffer}
use Rattle.cases.specs.Cases.{square, text, row, minus}

-- a plane through centres, a slanted one through others, and the all-zero halfspace
abbrev pub planes : List ℤ
planes = row (minus 3) (pos 2) (pos 0) (row (pos 0) (pos 1) (minus 1) (row (pos 0) (pos 0) (pos 0) []))

-- a call: what it answered, and what it left in the room
pub record Called : Type 0 where
  pub answer : WrittenAnswer
  pub left : List ℕ

-- the merged conversion of words, and of A MINUS A
abbrev pub converted : List ℕ → Called
converted words =
    record {
      answer = merged_of_one_answer square (surfaces_of planes []) words (text "..");
      left = merged_of_one_buffer square (surfaces_of planes []) words (text "..");
    }

abbrev pub cut : List ℕ → Called
cut words = converted (minus_itself words)

-- one symbol was written; or the tree was refused, for a 256th word or a 33rd shape pending
abbrev pub white : Called
white = record { answer = done_writing 1; left = text "W." }

abbrev pub black : Called
black = record { answer = done_writing 1; left = text "B." }

abbrev pub overfull : Called
overfull = record { answer = refused_writing overfull_tree; left = text ".." }

-- so many times these words
abbrev pub times : ℕ → List ℕ → List ℕ
times zero words = []
times (suc n) words = words ++ times n words

-- 127 words: a halfspace, and 63 more joined to it by each operator in turn
abbrev pub long : List ℕ
long = 256 ∷ times 21 (257 ∷ 2 ∷ 256 ∷ 3 ∷ 257 ∷ 4 ∷ [])

-- one shape more than so many pending, and then joined
abbrev pub deep : ℕ → List ℕ
deep n = 258 ∷ (replicate n 258 ++ replicate n 3)

pub record Case : Type 0 where
  pub computed : Called
  pub expected : Called

abbrev pub ◌is◌ : Called → Called → Case
◌is◌ a b = record { computed = a; expected = b }

infix 4 ◌is◌
abbrev pub closed : List Case
closed =
    -- of one halfspace; by negated numbers it would come to `(((Wb(WBW`
    (cut (256 ∷ []) is white)
    ∷ (cut (257 ∷ []) is white)
    -- the all-zero halfspace, and BLACK less it, which would come to `B`
    ∷ (converted (258 ∷ []) is black)
    ∷ (converted (1 ∷ 258 ∷ 4 ∷ []) is white)
    ∷ (cut (258 ∷ []) is white)
    -- of trees with each operator
    ∷ (cut (256 ∷ 257 ∷ 2 ∷ []) is white)
    ∷ (cut (256 ∷ 257 ∷ 3 ∷ []) is white)
    ∷ (cut (256 ∷ 257 ∷ 4 ∷ []) is white)
    ∷ (cut (256 ∷ 257 ∷ 258 ∷ 4 ∷ 4 ∷ []) is white)
    -- with constants
    ∷ (cut (0 ∷ []) is white)
    ∷ (cut (1 ∷ []) is white)
    ∷ (cut (256 ∷ 0 ∷ 2 ∷ []) is white)
    ∷ (cut (1 ∷ 257 ∷ 4 ∷ []) is white)
    -- of 127 words, and of 129
    ∷ (cut long is white)
    ∷ (cut (long ++ (256 ∷ 2 ∷ [])) is overfull)
    -- 31 shapes pending, one more beneath; and 32, which are taken by themselves
    ∷ (cut (deep 30) is white)
    ∷ (converted (deep 31) is black)
    ∷ (cut (deep 31) is overfull)
    ∷ []

abbrev pub CutCases : Type 0
CutCases = map (λ c. c.computed) closed ≡ map (λ c. c.expected) closed
