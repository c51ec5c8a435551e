-- Corners and steps in whole sixteenths, as the machine computes them: every number is small, so that nothing overflows.
use Prim.Native.Nat.{ℕ, ◌+◌, ◌/◌, ◌%◌, ◌≤◌, ◌<◌}
use native.Mathlib.Omega.{arith}
use native.Mathlib.Nat.{le_trans, div-le_self}
use mathlib.Core.Path.{◌≡◌, refl, sym, ap, ◌∙◌}
use mathlib.Core.Bool.{Bool, true, false}
use mathlib.Core.List.{List}
use borrow.Author.Tests.{ne_eqb}
use lib.Dec.{leb, eqb}
use lib.Ieee.{Float}
use lib.IntN.{ℤ, pos, nat_abs, ◌-ℤ◌}
use lib.Signed.{lt_z}
use mir.Syntax.{w64}
use mir.Val.{to_z}
use Rattle.lemmas.proofs.Machine.{Near, near, near_cast, near_sub, near_back}
use Rattle.lemmas.proofs.Sums.{all_every, one_not_every}
use Rattle.universe.specs.Refusals.{bad_step}
use Rattle.standin.specs.declared.Numbers.{Numbers}
use Rattle.standin.specs.Sixteenths.{corner_limit, normal_limit}
use Rattle.standin.specs.Held.{Limited}
use Rattle.standin.proofs.Sixteenths.{size_with_sign}
use Rattle.standin.proofs.Held.{back, reads, negated, triple_small}
use Rattle.mover.specs.Keys.{corner_at, key_corner, less_numbers}
use Rattle.mover.specs.Stretches.{stretches, frames_of, change_of, is_step, step_of, has_step, steps_refusal}
use Rattle.mover.specs.Ready.{change_limit, Changing, ChangingAll, HasCorner, HasStretch}

-- three numbers by three equations
pub numbers_eq : {a b c d e f : ℤ} → a ≡ d → b ≡ e → c ≡ f → ◌≡◌ {A = Numbers} (record { x = a; y = b; z = c }) (record { x = d; y = e; z = f })
numbers_eq p q r = λ i. record { x = p i; y = q i; z = r i }

-- ---- `less`
module _ {a b : ℤ} (h : Near (back a) a corner_limit) (k : Near (back b) b corner_limit) where
  less_near : Near (back a -ℤ back b) (a -ℤ b) change_limit
  less_near = near_sub h k

module _ {a b : Numbers} (h : Limited corner_limit a) (k : Limited corner_limit b) where
  pub less_is :
      ◌≡◌ {A = Numbers}
      (record { x = back (back a.x -ℤ back b.x); y = back (back a.y -ℤ back b.y); z = back (back a.z -ℤ back b.z) })
      (less_numbers a b)
  less_is =
      numbers_eq
      (near_back (less_near (reads h tt).x (reads k tt).x) tt).same
      (near_back (less_near (reads h tt).y (reads k tt).y) tt).same
      (near_back (less_near (reads h tt).z (reads k tt).z) tt).same

  pub less_small : Limited change_limit (less_numbers a b)
  less_small =
      record {
        x = (less_near (reads h tt).x (reads k tt).x).size;
        y = (less_near (reads h tt).y (reads k tt).y).size;
        z = (less_near (reads h tt).z (reads k tt).z).size;
      }

-- ---- `corner_at`, `change_of`
pub corner_small : {corners : List Float} {i : ℕ} → HasCorner corners i → {n : Numbers} → n ≡ key_corner corners i → Limited corner_limit n
corner_small {corners} {i} h e = rw e (triple_small corner_limit (corner_at corners i) h.taken)

pub change_small : {corners : List Float} {i : ℕ} → HasCorner corners i → HasCorner corners (i + 1) → Limited change_limit (change_of corners i)
change_small h k = less_small (corner_small k refl) (corner_small h refl)

-- ---- `is_step`, `step_of`
module _ (z : ℤ) (h : nat_abs z ≤ change_limit) where
  change_near : Near (back z) z change_limit
  change_near = near (record { most = h }) tt

  pub size_plain : nat_abs (back z) ≡ nat_abs z
  size_plain = ap nat_abs change_near.same

module _ (n : ℕ) (z : ℤ) (c : Changing n z) {size : ℕ} (f : size ≡ nat_abs (back z)) where
  e : size ≡ nat_abs z
  e = f ∙ size_plain z c.small

  pub step_off : (size % n ≡ 0 → ⊥) → eqb (size % n) 0 ≡ is_step n z
  unfolding is_step
  step_off h = let k : nat_abs z % n ≡ 0 → ⊥ = rw e at h in rw (e, ne_eqb (nat_abs z % n) 0 k)

  pub step_within : size % n ≡ 0 → leb (size / n) normal_limit ≡ is_step n z
  unfolding is_step
  step_within h = let f : nat_abs z % n ≡ 0 = rw e at h in rw (f, e)

  quotient_few : size / n ≤ change_limit
  quotient_few = rw e (le_trans (div-le_self (nat_abs z) n) c.small)

  step_near : Near (to_z w64 (size / n)) (pos (size / n)) change_limit
  step_near = near_cast (size / n) change_limit quotient_few tt

  pub step_turned : lt_z (back z) (pos 0) ≡ true → back (pos 0 -ℤ to_z w64 (size / n)) ≡ step_of n z
  unfolding step_of
  step_turned t = (near_back (negated step_near) tt).same ∙ rw (rw (change_near z c.small).same at t, e)

  pub step_plain : lt_z (back z) (pos 0) ≡ false → to_z w64 (size / n) ≡ step_of n z
  unfolding step_of
  step_plain t = step_near.same ∙ rw (rw (change_near z c.small).same at t, e)

pub step_size : (n : ℕ) (z : ℤ) → nat_abs (step_of n z) ≡ nat_abs z / n
unfolding step_of
step_size n z = size_with_sign (lt_z z (pos 0)) (nat_abs z / n)

-- ---- `has_step`, `check_steps`
module _ {moments : List ℕ} {corners : List Float} {i : ℕ} (h : HasStretch moments corners i) where
  pub stretch_asks : {n : ℕ} {d : Numbers} → n ≡ frames_of moments i → d ≡ change_of corners i → ChangingAll n d
  stretch_asks e f = record { some = omega (arith, e, h.rising); small = rw f (change_small h.from h.to) }

module _ (moments : List ℕ) (corners : List Float) where
  pub steps_off : {i : ℕ} {b : Bool} → i < stretches moments → b ≡ has_step moments corners i → b ≡ false → bad_step ≡ steps_refusal moments corners
  unfolding steps_refusal
  steps_off {i} h e f = rw (one_not_every (stretches moments) (has_step moments corners) i h (sym e ∙ f))

  pub steps_all : ((k : ℕ) → k < stretches moments → has_step moments corners k ≡ true) → 0 ≡ steps_refusal moments corners
  unfolding steps_refusal
  steps_all h = rw (all_every (stretches moments) (has_step moments corners) h)
