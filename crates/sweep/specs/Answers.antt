-- Rules 12.1 and 12.3: what the call answers and what it leaves in lent room. The axis is counted from 1; it is refused
-- 2 where there is no universe without it, then 7, and 6 last.
use Rattle.std.specs.Prelude.{ℕ, ◌-◌, ◌≡◌, true, cond, List, [], ◌∷◌, eqb}
use Rattle.universe.specs.declared.Universe.{Universe}
use Rattle.universe.specs.Refusals.{first_refusal}
use Rattle.universe.specs.Universe.{universe_refusal, order}
use Rattle.universe.specs.Questions.{is_one_of, no_universe, without_answer}
use Rattle.bintree.specs.Told.{WrittenAnswer}
use Rattle.bintree.specs.Shape.{Shape, symbols}
use Rattle.bintree.specs.Reading.{read, expression, expression_refusal}
use Rattle.bintree.specs.Merging.{merged}
use Rattle.bintree.specs.Answers.{of_shape, written_answer, written_buffer}
use Rattle.sweep.specs.Told.{SweptAnswer}
use Rattle.sweep.specs.Sweeping.{swept}

-- rule 12.3: the checks before 6, in their order
abbrev pub swept_checks : Universe → List ℕ → ℕ → List ℕ
swept_checks u s axis = universe_refusal (without_answer u axis) ∷ expression_refusal u s ∷ []

abbrev pub swept_refusal : Universe → List ℕ → ℕ → ℕ
swept_refusal u s axis = first_refusal (swept_checks u s axis)

-- rule 12.2: the merged shape of a shape of the whole universe, swept along an axis counted from 1
abbrev pub swept_shape : Universe → ℕ → Shape → Shape
swept_shape u axis a = merged (swept (order u) (axis - 1) a)

-- and its symbols
abbrev pub swept_symbols : Universe → List ℕ → ℕ → List ℕ
swept_symbols u s axis = of_shape (expression u s) [] (λ a. symbols (swept_shape u axis a))

-- an expression that can be swept along this axis
pub record Ready (u : Universe) (s : List ℕ) (axis : ℕ) : Type 0 where
  pub one : is_one_of u axis ≡ true
  pub shape : Shape
  pub reads : expression u s ≡ read shape

-- what a call that writes answers, with the universe of what it has written; where it is refused three zeros stand for
-- that
abbrev pub of_universe : Universe → WrittenAnswer → SweptAnswer
of_universe result w =
    record { refusal = w.refusal; universe = cond (eqb w.refusal 0) result no_universe; length = w.length }

unfoldable pub swept_answer : Universe → List ℕ → ℕ → List ℕ → SweptAnswer
swept_answer u s axis out =
    of_universe (without_answer u axis) (written_answer (swept_refusal u s axis) out (swept_symbols u s axis))

unfoldable pub swept_buffer : Universe → List ℕ → ℕ → List ℕ → List ℕ
swept_buffer u s axis out = written_buffer (swept_refusal u s axis) out (swept_symbols u s axis)
