-- Even motion: a step is exactly the change over so many frames, so that a corner worked back to time 0 and displaced by a step each frame is, at every time,
-- where moving evenly from the one key's corner to the next one's puts it, and the far side with it: in fractions, with no rounding.
use Prim.Native.Nat.{ℕ, ◌+◌, ◌*◌, ◌/◌, ◌%◌, ◌<◌}
use native.Mathlib.Omega.{arith}
use native.Mathlib.Nat.{div-add-mod', mul-pos}
use mathlib.Core.Path.{◌≡◌, refl, ap, ◌∙◌}
use mathlib.Core.Bool.{Bool, true, false}
use borrow.Author.Tests.{eqb-true}
use lib.Dec.{eqb, leb}
use lib.IntN.{ℤ, pos, neg_ℤ, nat_abs, ◌+ℤ◌, ◌-ℤ◌, ◌*ℤ◌}
use mathlib.Core.Logic.Iff
use mathlib.Core.Logic.{◌↔◌}
use lib.Signed.{lt_z, ≤ℤ_refl}
use Rattle.lemmas.proofs.Sums.{and_left}
use Rattle.lemmas.proofs.Whole.{ι, ν, ⊝, ◌⊕◌ as ◌+ᴱ◌, ◌⊗◌ as ◌*ᴱ◌, eq_by, eq_of, negative_size, positive_size}
use Rattle.standin.specs.Sixteenths.{with_sign, normal_limit}
use Rattle.standin.specs.Points.{Fraction, whole, sixteenth, ◌⊕◌, ◌⊖◌, ◌⊗◌, ◌≼◌, Between}
use Rattle.standin.proofs.Points.{Worth, worth_whole, worth_add, worth_mul, worth_times, worth_scale, worth_grow, worth_le}
use Rattle.mover.specs.Stretches.{is_step, step_of}
use Rattle.mover.specs.Motion.{evenly, SameAs, Reaches}

-- ---- a step, as often as there are frames, is the change
module _ (n : ℕ) (d : ℤ) (t : is_step n d ≡ true) where
  whole_quotient : nat_abs d / n * n ≡ nat_abs d
  unfolding is_step
  whole_quotient =
      let z = eqb-true (nat_abs d % n) 0 (and_left (eqb (nat_abs d % n) 0) (leb (nat_abs d / n) normal_limit) t) in
      omega (arith, div-add-mod' (nat_abs d) n, z)

  -- THEOREM
  pub steps_add_up : step_of n d *ℤ pos n ≡ d
  unfolding step_of
  steps_add_up = go (lt_z d (pos 0)) refl
    where
      go : (b : Bool) → lt_z d (pos 0) ≡ b → with_sign b (nat_abs d / n) *ℤ pos n ≡ d
      go true s =
          eq_by (⊝ (ν (nat_abs d / n)) *ᴱ ν n) (ι d) (omega (arith, whole_quotient, eq_of (ν 0 +ᴱ ⊝ (ι d)) (ν (nat_abs d)) (negative_size d s)))
      go false s = eq_by (ν (nat_abs d / n) *ᴱ ν n) (ι d) (omega (arith, whole_quotient, eq_of (ι d) (ν (nat_abs d)) (positive_size d s)))

-- ---- fractions that are one number compare alike
pub same_worth : {f g : Fraction} {k : ℕ} {m : ℤ} → 0 < k → Worth f k m → Worth g k m → SameAs f g
same_worth {f} {g} {k} {m} p h i =
    record { least = (worth_le {f = f} {g = g} p h i).1 (≤ℤ_refl m); most = (worth_le {f = g} {g = f} p i h).1 (≤ℤ_refl m) }

module _ {f g : Fraction} {k : ℕ} {m : ℤ} (p : 0 < k) (h : Worth f k m) (i : Worth g k m) (x : Fraction) where
  wide : 0 < k * x.denominator
  wide = mul-pos p x.proper

  there : Worth x (k * x.denominator) (pos k *ℤ x.numerator)
  there = let own : Worth x x.denominator x.numerator = record { is = refl } in worth_scale k {f = x} own

  pub same_low : (f ≼ x) ↔ (g ≼ x)
  same_low =
      Iff.trans (worth_le {f = f} {g = x} wide (worth_grow x.denominator {f = f} h) there)
      (Iff.symm (worth_le {f = g} {g = x} wide (worth_grow x.denominator {f = g} i) there))

  pub same_high : (x ≼ f) ↔ (x ≼ g)
  same_high =
      Iff.trans (worth_le {f = x} {g = f} wide there (worth_grow x.denominator {f = f} h))
      (Iff.symm (worth_le {f = x} {g = g} wide there (worth_grow x.denominator {f = g} i)))

-- ---- along one axis: from one corner number at a moment to another n frames on, by a step
module _ (a n : ℕ) (some : 0 < n) (from to step : ℤ) (e : step *ℤ pos n ≡ to -ℤ from) {f g : Fraction} (f-is : Worth f 16 from) (g-is : Worth g 16 to) where
  abbrev at0 : ℤ
  at0 = from -ℤ pos a *ℤ step

  abbrev oneth : Fraction
  oneth = record { numerator = pos 1; denominator = n; proper = some }

  at16 : (z : ℤ) → Worth (sixteenth z) 16 z
  at16 z = record { is = refl }

  module _ (t : Fraction) where
    D : ℕ
    D = t.denominator

    P : ℤ
    P = t.numerator

    itself : Worth t D P
    unfolding D P
    itself = record { is = refl }

    -- what a number that is z at time 0 and displaced by the step is at time t
    abbrev displaced : ℤ → ℤ
    displaced z = (pos D *ℤ z +ℤ P *ℤ step) *ℤ pos n

    moved : (z : ℤ) → Worth (sixteenth z ⊕ t ⊗ sixteenth step) (D * 16 * n) (displaced z)
    moved z =
        worth_grow n {f = sixteenth z ⊕ t ⊗ sixteenth step}
        (worth_add {f = sixteenth z} {g = t ⊗ sixteenth step} (worth_scale D {f = sixteenth z} (at16 z))
        (worth_mul {f = t} {g = sixteenth step} itself (at16 step)))

    gone : Worth (t ⊖ whole (pos a)) D (P +ℤ neg_ℤ (pos 1) *ℤ (pos a *ℤ pos D))
    gone =
        worth_add {f = t} {g = whole (neg_ℤ (pos 1)) ⊗ whole (pos a)} itself
        (worth_times (neg_ℤ (pos 1)) {f = whole (pos a)} (worth_whole (pos a) D))

    part : Worth oneth n (pos 1)
    part = record { is = refl }

    change : Worth (g ⊖ f) 16 (to +ℤ neg_ℤ (pos 1) *ℤ from)
    change = worth_add {f = g} {g = whole (neg_ℤ (pos 1)) ⊗ f} g-is (worth_times (neg_ℤ (pos 1)) {f = f} f-is)

    same : displaced at0 ≡ pos (D * n) *ℤ from +ℤ (P +ℤ neg_ℤ (pos 1) *ℤ (pos a *ℤ pos D)) *ℤ pos 1 *ℤ (to +ℤ neg_ℤ (pos 1) *ℤ from)
    same =
        eq_by
        ((ν D *ᴱ (ι from +ᴱ ⊝ (ν a *ᴱ ι step)) +ᴱ ι P *ᴱ ι step) *ᴱ ν n)
        (ν (D * n) *ᴱ ι from +ᴱ (ι P +ᴱ ⊝ (ν (a * D))) *ᴱ (ι step *ᴱ ν n))
        (omega arith)
        ∙ ap (λ (x : ℤ). pos (D * n) *ℤ from +ℤ (P -ℤ pos (a * D)) *ℤ x) e
        ∙ eq_by
        (ν (D * n) *ᴱ ι from +ᴱ (ι P +ᴱ ⊝ (ν (a * D))) *ᴱ (ι to +ᴱ ⊝ (ι from)))
        (ν (D * n) *ᴱ ι from +ᴱ (ι P +ᴱ ⊝ (ν 1) *ᴱ (ν a *ᴱ ν D)) *ᴱ ν 1 *ᴱ (ι to +ᴱ ⊝ (ν 1) *ᴱ ι from))
        (omega arith)

    even : Worth (evenly a n some f g t) (D * 16 * n) (displaced at0)
    even =
        let k : D * n * 16 ≡ D * 16 * n = omega arith in
        rw (← k, same)
        (worth_add {f = f} {g = (t ⊖ whole (pos a)) ⊗ oneth ⊗ (g ⊖ f)}
        (worth_scale (D * n) {f = f} f-is)
        (worth_mul {f = (t ⊖ whole (pos a)) ⊗ oneth} {g = g ⊖ f}
        (worth_mul {f = t ⊖ whole (pos a)} {g = oneth} gone part) change))

    positive : 0 < D * 16 * n
    unfolding D
    positive = mul-pos (mul-pos t.proper (omega arith)) some

    -- the far side is as much further as the size
    module _ (size : ℤ) {s : Fraction} (s-is : Worth s 16 size) where
      even_far : Worth (evenly a n some f g t ⊕ s) (D * 16 * n) (displaced (at0 +ℤ size))
      even_far =
          let k : D * n * 16 ≡ D * 16 * n = omega arith in
          let far : displaced at0 +ℤ pos (D * n) *ℤ size ≡ displaced (at0 +ℤ size) =
          eq_by
          ((ν D *ᴱ ι at0 +ᴱ ι P *ᴱ ι step) *ᴱ ν n +ᴱ ν (D * n) *ᴱ ι size)
          ((ν D *ᴱ (ι at0 +ᴱ ι size) +ᴱ ι P *ᴱ ι step) *ᴱ ν n)
          (omega arith) in
          let reach : Worth s (D * 16 * n) (pos (D * n) *ℤ size) = rw (← k) (worth_scale (D * n) {f = s} s-is) in
          rw (← far) (worth_add {f = evenly a n some f g t} {g = s} even reach)

      -- THEOREM: the Box from a corner worked back, displaced by the step each frame, is the Box that moves evenly
      pub box_moves : (x : Fraction) → Between (sixteenth at0) (sixteenth (at0 +ℤ size)) (sixteenth step) x t ↔ Reaches (evenly a n some f g t) s x
      box_moves x =
          let low = same_low {f = sixteenth at0 ⊕ t ⊗ sixteenth step} {g = evenly a n some f g t} positive (moved at0) even x in
          let high =
          same_high {f = sixteenth (at0 +ℤ size) ⊕ t ⊗ sixteenth step} {g = evenly a n some f g t ⊕ s} positive (moved (at0 +ℤ size)) even_far x in
          (λ b. record { low = low.0 b.low; high = high.0 b.high }, λ r. record { low = low.1 r.low; high = high.1 r.high })

  -- THEOREM: at the one key's moment it is the one key's number, at the next one's the next one's
  pub at_first : SameAs (evenly a n some f g (whole (pos a))) f
  unfolding D P
  at_first =
      let k : 1 * 16 * n ≡ 16 * n = omega arith in
      let there : displaced (whole (pos a)) at0 ≡ from *ℤ pos n =
      eq_by ((ν 1 *ᴱ (ι from +ᴱ ⊝ (ν a *ᴱ ι step)) +ᴱ ν a *ᴱ ι step) *ᴱ ν n) (ι from *ᴱ ν n) (omega arith) in
      same_worth {f = evenly a n some f g (whole (pos a))} {g = f} (mul-pos (omega arith) some)
      (rw (k, there) at (even (whole (pos a)))) (worth_grow n {f = f} f-is)

  pub at_next : SameAs (evenly a n some f g (whole (pos (a + n)))) g
  unfolding D P
  at_next =
      let k : 1 * 16 * n ≡ 16 * n = omega arith in
      let there : displaced (whole (pos (a + n))) at0 ≡ to *ℤ pos n =
      eq_by ((ν 1 *ᴱ (ι from +ᴱ ⊝ (ν a *ᴱ ι step)) +ᴱ ν (a + n) *ᴱ ι step) *ᴱ ν n) ((ι from +ᴱ ι step *ᴱ ν n) *ᴱ ν n) (omega arith)
      ∙ ap (λ (x : ℤ). (from +ℤ x) *ℤ pos n) e
      ∙ eq_by ((ι from +ᴱ (ι to +ᴱ ⊝ (ι from))) *ᴱ ν n) (ι to *ᴱ ν n) (omega arith) in
      same_worth {f = evenly a n some f g (whole (pos (a + n)))} {g = g} (mul-pos (omega arith) some)
      (rw (k, there) at (even (whole (pos (a + n))))) (worth_grow n {f = g} g-is)
