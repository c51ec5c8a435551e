-- What answers tell (specs/Told.antt): no refusal has the number 0 or 6, no two have one number, and so an answer is known by what it tells.
use mathlib.Core.Path.{◌≡◌, refl, sym, ◌∙◌, ap}
use Prim.Native.Nat.{ℕ, ◌<◌}
use native.Mathlib.Omega.{arith}
use Rattle.std.specs.Prelude.{List, [], ◌∷◌, get_or, Result, Ok, Err}
use Rattle.universe.specs.declared.refusal.Refusal.{Refusal}
use Rattle.universe.specs.declared.refusal.Refusal.TheVariants.{BadFile, BadUniverse, BadRows, BadTree, OverfullTree}
use Rattle.universe.specs.declared.refusal.Refusal.TheVariants.{BadExpression, NotMerged, Outside, BadProxy, BadKeys, BadStep}
use Rattle.universe.specs.declared.refusal.Unwritten.{Unwritten}
use Rattle.universe.specs.declared.refusal.Unwritten.TheVariants.{Refused, NoRoom}
use Rattle.universe.specs.Refusals.{no_room}
use Rattle.universe.specs.Told.{number_of, number_unwritten, needed_by, number_told}

pub number-pos : (r : Refusal) → 0 < number_of r
number-pos BadFile = omega arith
number-pos BadUniverse = omega arith
number-pos BadRows = omega arith
number-pos BadTree = omega arith
number-pos OverfullTree = omega arith
number-pos BadExpression = omega arith
number-pos NotMerged = omega arith
number-pos Outside = omega arith
number-pos BadProxy = omega arith
number-pos BadKeys = omega arith
number-pos BadStep = omega arith

-- a refusal's number is no other number that a check could give in its place
pub number-not_zero : (r : Refusal) → number_of r ≡ 0 → ⊥
number-not_zero r e = absurd (omega (arith, number-pos r))

pub number-not_room : (r : Refusal) → number_of r ≡ no_room → ⊥
number-not_room BadFile e = absurd (omega arith)
number-not_room BadUniverse e = absurd (omega arith)
number-not_room BadRows e = absurd (omega arith)
number-not_room BadTree e = absurd (omega arith)
number-not_room OverfullTree e = absurd (omega arith)
number-not_room BadExpression e = absurd (omega arith)
number-not_room NotMerged e = absurd (omega arith)
number-not_room Outside e = absurd (omega arith)
number-not_room BadProxy e = absurd (omega arith)
number-not_room BadKeys e = absurd (omega arith)
number-not_room BadStep e = absurd (omega arith)

-- a check that tells 0 accepts
pub told_zero : (a : Result (Unit {0}) Refusal) → number_told a ≡ 0 → a ≡ Ok tt
told_zero (Ok a) e = refl
told_zero (Err r) e = absurd (number-not_zero r e)

-- the refusal of a number: a left inverse of number_of
abbrev by_number : List Refusal
by_number =
    BadStep ∷ BadFile ∷ BadUniverse ∷ BadRows ∷ BadTree ∷ OverfullTree ∷ BadStep
    ∷ BadExpression ∷ NotMerged ∷ Outside ∷ BadProxy ∷ BadKeys ∷ BadStep ∷ []

abbrev named : ℕ → Refusal
named n = get_or by_number n BadStep

named-number : (r : Refusal) → named (number_of r) ≡ r
named-number BadFile = refl
named-number BadUniverse = refl
named-number BadRows = refl
named-number BadTree = refl
named-number OverfullTree = refl
named-number BadExpression = refl
named-number NotMerged = refl
named-number Outside = refl
named-number BadProxy = refl
named-number BadKeys = refl
named-number BadStep = refl

pub number-injective : (r s : Refusal) → number_of r ≡ number_of s → r ≡ s
number-injective r s e = sym (named-number r) ∙ ap named e ∙ named-number s

-- two checks that tell one number are one answer
pub told-injective : (a b : Result (Unit {0}) Refusal) → number_told a ≡ number_told b → a ≡ b
told-injective (Ok a) (Ok b) e = refl
told-injective (Ok a) (Err s) e = absurd (number-not_zero s (sym e))
told-injective (Err r) (Ok b) e = absurd (number-not_zero r e)
told-injective (Err r) (Err s) e = ap Err (number-injective r s e)

-- and two calls that write nothing tell the same where they are the same
pub unwritten-injective : (a b : Unwritten) → number_unwritten a ≡ number_unwritten b → needed_by a ≡ needed_by b → a ≡ b
unwritten-injective (Refused r) (Refused s) e f = ap Refused (number-injective r s e)
unwritten-injective (Refused r) (NoRoom n) e f = absurd (number-not_room r e)
unwritten-injective (NoRoom n) (Refused s) e f = absurd (number-not_room s (sym e))
unwritten-injective (NoRoom n) (NoRoom m) e f = ap NoRoom f

-- a call that writes nothing has a number that is not 0
pub unwritten-not_zero : (a : Unwritten) → number_unwritten a ≡ 0 → ⊥
unwritten-not_zero (Refused r) e = number-not_zero r e
unwritten-not_zero (NoRoom n) e = absurd (omega arith)
