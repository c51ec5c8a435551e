-- Rules 5.1, 5.2 and 5.4, both sides of their edges: what the question for the numbers of an expression answers, as one
-- list. A case is one line: what is asked, and what must be answered.
use Rattle.std.specs.Prelude.{ℕ, ◌≡◌, List, [], ◌∷◌, map}
use Prim.Native.String.{String}
use Rattle.bintree.specs.Told.{NumbersAnswer}
use Rattle.bintree.specs.declared.Verdict.TheVariants.{Clear, Hit}
use Rattle.bintree.specs.Verdicts.{refused_numbers, done_numbers, numbers_answer}
use Rattle.cases.specs.Cases.{universe, text}

pub record NumbersCase : Type 0 where
  pub answered : NumbersAnswer
  pub expected : NumbersAnswer

abbrev pub ◌gives◌ : NumbersAnswer → NumbersAnswer → NumbersCase
◌gives◌ a b = record { answered = a; expected = b }

infix 4 ◌gives◌
-- an expression in a universe of d axes and k bits, over frames first to last
abbrev pub asked : ℕ → ℕ → String → ℕ → ℕ → NumbersAnswer
asked d k s first last = numbers_answer (universe d k) (text s) first last

-- so many black voxels in all, and Clear; or a Hit with its frames and the black voxels in the window
abbrev pub clear : ℕ → NumbersAnswer
clear volume = done_numbers volume Clear

abbrev pub hit : ℕ → ℕ → ℕ → ℕ → NumbersAnswer
hit volume first last voxels = done_numbers volume (Hit (record { first = first; last = last; voxels = voxels }))

abbrev pub numbers_cases : List NumbersCase
numbers_cases =
    -- the expression of case 1, over all frames and over those at both ends
    (asked 2 2 "(((W(BWW(B((BWB" 0 3 gives hit 8 0 3 8)
    ∷ (asked 2 2 "(((W(BWW(B((BWB" 0 0 gives hit 8 0 0 3)
    ∷ (asked 2 2 "(((W(BWW(B((BWB" 3 3 gives hit 8 3 3 1)
    -- those of case 2, raw and merged
    ∷ (asked 2 2 "(W(W((BB(BW" 0 3 gives hit 3 2 3 3)
    ∷ (asked 2 2 "(W(W((BB(BW" 3 3 gives hit 3 3 3 1)
    ∷ (asked 2 2 "(W(W(B(BW" 0 3 gives hit 3 2 3 3)
    ∷ (asked 2 2 "(W(W(B(BW" 0 2 gives hit 3 2 2 2)
    -- no black voxel in the window, and some before or after it
    ∷ (asked 2 2 "(W(W(B(BW" 0 1 gives clear 3)
    ∷ (asked 1 2 "(BW" 2 3 gives clear 2)
    -- no bits: one voxel in one frame
    ∷ (asked 4 0 "B" 0 0 gives hit 1 0 0 1)
    ∷ (asked 4 0 "W" 0 0 gives clear 0)
    -- one axis: a voxel a frame
    ∷ (asked 1 2 "((WBB" 0 3 gives hit 3 1 3 3)
    ∷ (asked 1 2 "((WBB" 0 0 gives clear 3)
    ∷ (asked 1 2 "((WBB" 0 1 gives hit 3 1 1 1)
    -- each refusal comes before the faults behind it
    ∷ (asked 5 2 "(B" 2 1 gives refused_numbers 2)
    ∷ (asked 2 11 "B" 2 1 gives refused_numbers 2)
    ∷ (asked 2 2 "(B" 2 1 gives refused_numbers 7)
    ∷ (asked 2 2 "BB" 0 4 gives refused_numbers 7)
    ∷ (asked 2 2 "B" 2 1 gives refused_numbers 9)
    ∷ (asked 2 2 "B" 0 4 gives refused_numbers 9)
    ∷ (asked 4 0 "B" 0 1 gives refused_numbers 9)
    ∷ []

-- every one is answered as it must be
abbrev pub NumbersHold : Type 0
NumbersHold = map (λ c. c.answered) numbers_cases ≡ map (λ c. c.expected) numbers_cases
