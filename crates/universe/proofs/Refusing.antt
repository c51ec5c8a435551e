-- Refusal numbers: a check that gives a number above 0 where its test fails gives 0 exactly where the test holds; a check that is alone is the answer.
use mathlib.Core.Path.{◌≡◌, refl}
use mathlib.Core.Bool.{Bool, true, false}
use mathlib.Core.List.{[], ◌∷◌}
use Prim.Native.Nat.{ℕ, zero, suc, ◌<◌}
use native.Mathlib.Omega.{arith}
use borrow.Author.Tests.{ne_eqb}
use Rattle.universe.specs.Refusals.{unless, first_refusal}

pub unless_holds : (good : Bool) (number : ℕ) → 0 < number → unless good number ≡ 0 → good ≡ true
unless_holds true n h e = refl
unless_holds false n h e = absurd (omega arith)

pub holds_unless : (good : Bool) (number : ℕ) → good ≡ true → unless good number ≡ 0
holds_unless good n e = rw e

-- where all before the last check accept, its number is the answer's
pub last_check : (n : ℕ) → first_refusal (n ∷ []) ≡ n
last_check zero = refl
last_check (suc n) = rw (ne_eqb (suc n) 0 (λ e. omega arith))
