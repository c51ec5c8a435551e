-- Rule 1.1: what a universe answers where it is to be accepted, and what an accepted one answers of an axis that it may
-- lack.
use Rattle.std.specs.Prelude.{ℕ, cond, eqb, ltb, Option, Some, None, Result, Ok, Err}
use Rattle.universe.specs.declared.Universe.{Universe}
use Rattle.universe.specs.declared.accepted.Accepted.{Accepted}
use Rattle.universe.specs.declared.refusal.Refusal.{Refusal}
use Rattle.universe.specs.Told.{number_of}
use Rattle.universe.specs.Universe.{universe_refusal, side_along}
use Rattle.universe.specs.Questions.{no_universe}

-- 0 and the universe, or the universe's refusal and none
pub record AcceptedAnswer : Type 0 where
  pub refusal : ℕ
  pub universe : Universe

abbrev pub accepted_told : Result Accepted Refusal → AcceptedAnswer
accepted_told (Ok a) = record { refusal = 0; universe = a.universe }
accepted_told (Err r) = record { refusal = number_of r; universe = no_universe }

unfoldable pub accepted_answer : Universe → AcceptedAnswer
accepted_answer u =
    cond (eqb (universe_refusal u) 0)
    (record { refusal = 0; universe = u })
    (record { refusal = universe_refusal u; universe = no_universe })

-- how long it is along an axis, where it has such an axis
abbrev pub side_or_none : Universe → ℕ → Option ℕ
side_or_none u i = cond (ltb i u.axes) (Some (side_along u i)) None
