-- How far a row's value goes over a block's voxels: each step falls by its negative part and rises by its positive part, so that every value lies between
-- that at the first voxel with all that falls and with all that rises. Where both are on one side of 0 the word is all ones or 0; where they are not and are
-- near each other, the value and its steps are small.
use mathlib.Core.Path.{◌≡◌, refl, sym, ap, ◌∙◌, subst}
use mathlib.Core.Bool.{Bool, true, false, cond}
use mathlib.Core.List.{List}
use Prim.Native.Nat.{ℕ, zero, suc, ◌+◌, ◌-◌, ◌*◌, ◌^◌, ◌≤◌, ◌<◌}
use native.Mathlib.Omega.{arith}
use native.Mathlib.Nat.{mul-le-mul_right}
use Rattle.std.specs.Int.{int_min}
use lib.IntN.{ℤ, pos, negsuc, nat_abs, ◌+ℤ◌, ◌-ℤ◌, ◌*ℤ◌}
use lib.Signed.{le_z, lt_z, ◌≤ℤ◌, ◌<ℤ◌}
use borrow.Author.Tests.{lt-ltb, le-leb}
use mir.Syntax.{w64}
use mir.Val.{SFits}
use Rattle.lemmas.specs.Sums.{sum, total}
use Rattle.lemmas.proofs.Sums.{sum_cong, sum_mono, sum_add, sum_zero, sum_same}
use Rattle.lemmas.proofs.Totals.{total_is}
use Rattle.lemmas.proofs.Whole.{up, dn, Is, one_part, is_nat, is_self, is_add, is_sub, is_scale, is_le, is_lt, is_eq, le_is, lt_is, le_out, lt_out}
use Rattle.lemmas.proofs.Whole.{le_z_true, le_z_false, lt_z_true, lt_z_false, le_le_z, lt_le_z, ι, ν, ◌⊕◌, eq_by}
use Rattle.lemmas.proofs.Machine.{nat_abs_parts, Near, near, near_add, near_sub, near_back, near_call, near_fits}
use Rattle.pruned.proofs.Moving.{held}
use Rattle.masks.specs.Mask.{digit_of, all_ones}
use Rattle.masks.specs.Leaves.{value_limit, step_limit, with_steps, row_mask}
use Rattle.masks.proofs.Mask.{mask_cong, nowhere_mask, everywhere_mask}
use Rattle.masks.proofs.Digits.{digit_few}
use Rattle.at_once.specs.Words.{word_levels, step_at, fall_of, rise_of, fall_at, rise_at, sizes_of, RowReady, SmallSteps, FewValues}

-- ---- one step
fall_by : (t : Bool) (s : ℤ) → le_z (pos 0) s ≡ t → Is (cond t (pos 0) s) 0 (dn s)
fall_by true s e =
    one_part s (Is (pos 0) 0 (dn s))
    (λ z. record { is = omega (arith, (is_nat 0).is) })
    (λ z. record { is = omega (arith, (is_nat 0).is, le_out (le_z_true (pos 0) s e)) })
fall_by false s e =
    one_part s (Is s 0 (dn s))
    (λ z. absurd (omega (arith, (is_nat 0).is, lt_out (le_z_false (pos 0) s e))))
    (λ z. record { is = omega arith })

pub fall_is : (s : ℤ) → Is (fall_of s) 0 (dn s)
fall_is s = fall_by (le_z (pos 0) s) s refl

rise_by : (t : Bool) (s : ℤ) → le_z (pos 0) s ≡ t → Is (cond t s (pos 0)) (up s) 0
rise_by true s e =
    one_part s (Is s (up s) 0)
    (λ z. record { is = omega arith })
    (λ z. record { is = omega (arith, (is_nat 0).is, le_out (le_z_true (pos 0) s e)) })
rise_by false s e =
    one_part s (Is (pos 0) (up s) 0)
    (λ z. absurd (omega (arith, (is_nat 0).is, lt_out (le_z_false (pos 0) s e))))
    (λ z. record { is = omega (arith, (is_nat 0).is) })

pub rise_is : (s : ℤ) → Is (rise_of s) (up s) 0
rise_is s = rise_by (le_z (pos 0) s) s refl

-- ---- some steps
module _ (n : ℕ) (step : ℕ → ℤ) where
  abbrev down : ℕ
  down = sum n (λ j. dn (step j))

  abbrev upward : ℕ
  upward = sum n (λ j. up (step j))

  nothing : sum n (λ j. 0) ≡ 0
  nothing = sum_zero n (λ j. 0) (λ j l. refl)

  pub falls_are : Is (total n (λ j. fall_of (step j))) 0 down
  falls_are =
      subst (λ (m : ℕ). Is (total n (λ j. fall_of (step j))) m down) nothing
      (total_is n (λ j. fall_of (step j)) (λ j. 0) (λ j. dn (step j)) (λ j l. fall_is (step j)))

  pub rises_are : Is (total n (λ j. rise_of (step j))) upward 0
  rises_are =
      subst (λ (m : ℕ). Is (total n (λ j. rise_of (step j))) upward m) nothing
      (total_is n (λ j. rise_of (step j)) (λ j. up (step j)) (λ j. 0) (λ j l. rise_is (step j)))

  pub sizes_are : sizes_of n step ≡ upward + down
  sizes_are = sum_cong n _ (λ j. up (step j) + dn (step j)) (λ j l. nat_abs_parts (step j)) ∙ sum_add n (λ j. up (step j)) (λ j. dn (step j))

  -- those of the digits that are 1
  module _ (i : ℕ) where
    digits_are : Is (total n (λ j. pos (digit_of i j) *ℤ step j)) (sum n (λ j. digit_of i j * up (step j))) (sum n (λ j. digit_of i j * dn (step j)))
    digits_are = total_is n _ (λ j. digit_of i j * up (step j)) (λ j. digit_of i j * dn (step j)) (λ j l. is_scale (digit_of i j) (is_self (step j)))

    part : (f : ℕ → ℕ) → sum n (λ j. digit_of i j * f j) ≤ sum n f
    part f = sum_mono n _ f (λ j l. let k : digit_of i j * f j ≤ 1 * f j = mul-le-mul_right (f j) (omega (arith, digit_few i j)) in omega arith)

    pub over_least : (v : ℤ) → pos 0 ≤ℤ (v +ℤ total n (λ j. fall_of (step j))) → le_z (pos 0) (with_steps v step n i) ≡ true
    unfolding with_steps
    over_least v h =
        le_le_z (is_le (is_nat 0) (is_add (is_self v) digits_are)
        (omega (arith, le_is (is_nat 0) (is_add (is_self v) falls_are) h, part (λ j. dn (step j)))))

    pub under_greatest : (v : ℤ) → (v +ℤ total n (λ j. rise_of (step j))) <ℤ pos 0 → le_z (pos 0) (with_steps v step n i) ≡ false
    unfolding with_steps
    under_greatest v h =
        lt_le_z (is_lt (is_add (is_self v) digits_are) (is_nat 0)
        (omega (arith, lt_is (is_add (is_self v) rises_are) (is_nat 0) h, part (λ j. up (step j)))))

  -- THEOREM: the word is all ones where the least value is 0 or more, and 0 where the greatest is less
  pub all_black : (v : ℤ) → pos 0 ≤ℤ (v +ℤ total n (λ j. fall_of (step j))) → row_mask v step n ≡ all_ones (2 ^ n)
  unfolding row_mask
  all_black v h = mask_cong (2 ^ n) _ (λ i. true) (λ i l. over_least i v h) ∙ everywhere_mask (2 ^ n)

  pub all_white : (v : ℤ) → (v +ℤ total n (λ j. rise_of (step j))) <ℤ pos 0 → row_mask v step n ≡ 0
  unfolding row_mask
  all_white v h = mask_cong (2 ^ n) _ (λ i. false) (λ i l. under_greatest i v h) ∙ nowhere_mask (2 ^ n)

  -- THEOREM: where neither is so and they are near each other, all is small
  pub all_near : (v : ℤ) (most : ℕ) → (v +ℤ total n (λ j. fall_of (step j))) <ℤ pos 0 → pos 0 ≤ℤ (v +ℤ total n (λ j. rise_of (step j))) →
      ((v +ℤ total n (λ j. rise_of (step j))) -ℤ (v +ℤ total n (λ j. fall_of (step j)))) <ℤ pos most → nat_abs v + sizes_of n step < 2 * most
  all_near v most h k l =
      let a = lt_is (is_add (is_self v) falls_are) (is_nat 0) h in
      let b = le_is (is_nat 0) (is_add (is_self v) rises_are) k in
      let d = lt_is (is_sub (is_add (is_self v) rises_are) (is_add (is_self v) falls_are)) (is_nat most) l in
      one_part v (nat_abs v + sizes_of n step < 2 * most)
      (λ z. omega (arith, a, b, d, nat_abs_parts v, sizes_are))
      (λ z. omega (arith, a, b, d, nat_abs_parts v, sizes_are))

-- ---- in code
pub min_falls : (s : ℤ) → int_min s (pos 0) ≡ fall_of s
min_falls (pos zero) = refl
min_falls (pos (suc n)) = rw (lt-ltb 0 (suc n) (omega arith), le-leb 0 (suc n) (omega arith))
min_falls (negsuc n) = refl

-- a part of each of six steps, added up
pub record PartOf (g : ℤ → ℤ) : Type 0 where
  pub less : (s : ℤ) → nat_abs (g s) ≤ nat_abs s

pub fall_part : PartOf fall_of
fall_part = record {
  less = λ s. one_part (fall_of s) (nat_abs (fall_of s) ≤ nat_abs s)
      (λ z. omega (arith, (fall_is s).is, nat_abs_parts (fall_of s), nat_abs_parts s))
      (λ z. omega (arith, (fall_is s).is, nat_abs_parts (fall_of s), nat_abs_parts s));
}

pub step_part : PartOf (λ s. s)
step_part = record { less = λ s. omega arith }

module _ {steps : List ℤ} (small : SmallSteps steps) {g : ℤ → ℤ} (part : PartOf g) where
  abbrev at : ℕ → ℤ
  at j = g (step_at steps j)

  each_near : (j : ℕ) {r : ℤ} → r ≡ g (held (step_at steps j)) → Near (held r) (at j) step_limit
  each_near j e =
      near_call {x = at j} (e ∙ ap g (near {x = step_at steps j} (record { most = small.step j }) tt).same)
      (record { same = refl; size = omega (arith, part.less (step_at steps j), small.step j) }) tt

  module _ {r₀ r₁ r₂ r₃ r₄ r₅ : ℤ} (e₀ : r₀ ≡ g (held (step_at steps 0))) (e₁ : r₁ ≡ g (held (step_at steps 1))) (e₂ : r₂ ≡ g (held (step_at steps 2)))
      (e₃ : r₃ ≡ g (held (step_at steps 3))) (e₄ : r₄ ≡ g (held (step_at steps 4))) (e₅ : r₅ ≡ g (held (step_at steps 5))) where
    abbrev two : ℤ
    two = at 0 +ℤ at 1

    abbrev three : ℤ
    three = two +ℤ at 2

    abbrev four : ℤ
    four = three +ℤ at 3

    abbrev five : ℤ
    five = four +ℤ at 4

    abbrev six : ℤ
    six = five +ℤ at 5

    two_near : Near (held r₀ +ℤ held r₁) two (2 * step_limit)
    two_near = near_add {x = at 0} {y = at 1} (each_near 0 e₀) (each_near 1 e₁)

    three_near : Near (held (held r₀ +ℤ held r₁) +ℤ held r₂) three (3 * step_limit)
    three_near = near_add {x = two} {y = at 2} (near_back {x = two} two_near tt) (each_near 2 e₂)

    four_near : Near (held (held (held r₀ +ℤ held r₁) +ℤ held r₂) +ℤ held r₃) four (4 * step_limit)
    four_near = near_add {x = three} {y = at 3} (near_back {x = three} three_near tt) (each_near 3 e₃)

    five_near : Near (held (held (held (held r₀ +ℤ held r₁) +ℤ held r₂) +ℤ held r₃) +ℤ held r₄) five (5 * step_limit)
    five_near = near_add {x = four} {y = at 4} (near_back {x = four} four_near tt) (each_near 4 e₄)

    six_near : Near (held (held (held (held (held r₀ +ℤ held r₁) +ℤ held r₂) +ℤ held r₃) +ℤ held r₄) +ℤ held r₅) six (6 * step_limit)
    six_near = near_add {x = five} {y = at 5} (near_back {x = five} five_near tt) (each_near 5 e₅)

    pub two_fits : SFits w64 (held r₀ +ℤ held r₁)
    two_fits = near_fits {x = two} two_near tt

    pub three_fits : SFits w64 (held (held r₀ +ℤ held r₁) +ℤ held r₂)
    three_fits = near_fits {x = three} three_near tt

    pub four_fits : SFits w64 (held (held (held r₀ +ℤ held r₁) +ℤ held r₂) +ℤ held r₃)
    four_fits = near_fits {x = four} four_near tt

    pub five_fits : SFits w64 (held (held (held (held r₀ +ℤ held r₁) +ℤ held r₂) +ℤ held r₃) +ℤ held r₄)
    five_fits = near_fits {x = five} five_near tt

    pub six_fits : SFits w64 (held (held (held (held (held r₀ +ℤ held r₁) +ℤ held r₂) +ℤ held r₃) +ℤ held r₄) +ℤ held r₅)
    six_fits = near_fits {x = six} six_near tt

    pub six_are : held (held (held (held (held (held r₀ +ℤ held r₁) +ℤ held r₂) +ℤ held r₃) +ℤ held r₄) +ℤ held r₅) ≡ total word_levels at
    unfolding total
    six_are = (near_back {x = six} six_near tt).same ∙ from (at 0) (at 1) (at 2) (at 3) (at 4) (at 5)
      where
        from : (a b c d e f : ℤ) → a +ℤ b +ℤ c +ℤ d +ℤ e +ℤ f ≡ pos 0 +ℤ a +ℤ b +ℤ c +ℤ d +ℤ e +ℤ f
        from a b c d e f = eq_by (ι a ⊕ ι b ⊕ ι c ⊕ ι d ⊕ ι e ⊕ ι f) (ν 0 ⊕ ι a ⊕ ι b ⊕ ι c ⊕ ι d ⊕ ι e ⊕ ι f) (omega arith)

-- what rises is all steps less what falls
module _ {steps : List ℤ} (small : SmallSteps steps) where
  pub step_same : (j : ℕ) → step_at steps j ≡ held (step_at steps j)
  step_same j = sym (near {x = step_at steps j} (record { most = small.step j }) tt).same

  abbrev all_steps : ℤ
  all_steps = total word_levels (step_at steps)

  abbrev all_falls : ℤ
  all_falls = total word_levels (fall_at steps)

  steps_are : Is all_steps (sum word_levels (λ j. up (step_at steps j))) (sum word_levels (λ j. dn (step_at steps j)))
  steps_are = total_is word_levels (step_at steps) (λ j. up (step_at steps j)) (λ j. dn (step_at steps j)) (λ j l. is_self (step_at steps j))

  sizes_few : sizes_of word_levels (step_at steps) ≤ 6 * step_limit
  sizes_few =
      let e = sum_mono word_levels (λ j. nat_abs (step_at steps j)) (λ j. step_limit) (λ j l. small.step j) in
      omega (arith, e, sum_same word_levels step_limit)

  all_near_steps : {x : ℤ} → x ≡ all_steps → Near x all_steps (6 * step_limit)
  all_near_steps e = record {
    same = e;
    size = one_part all_steps (nat_abs all_steps ≤ 6 * step_limit)
        (λ z. omega (arith, steps_are.is, nat_abs_parts all_steps, sizes_few, sizes_are word_levels (step_at steps)))
        (λ z. omega (arith, steps_are.is, nat_abs_parts all_steps, sizes_few, sizes_are word_levels (step_at steps)));
  }

  pub all_near_falls : {t : ℤ} → t ≡ all_falls → Near (held t) all_falls (6 * step_limit)
  all_near_falls e =
      near_call {x = all_falls} e (record {
        same = refl;
        size = one_part all_falls (nat_abs all_falls ≤ 6 * step_limit)
            (λ z. omega (arith, (falls_are word_levels (step_at steps)).is, nat_abs_parts all_falls, sizes_few, sizes_are word_levels (step_at steps)))
            (λ z. omega (arith, (falls_are word_levels (step_at steps)).is, nat_abs_parts all_falls, sizes_few, sizes_are word_levels (step_at steps)));
      }) tt

  module _ {x t : ℤ} (e : x ≡ all_steps) (f : t ≡ all_falls) where
    rest_near : Near (x -ℤ held t) (all_steps -ℤ all_falls) (12 * step_limit)
    rest_near = near_sub {x = all_steps} {y = all_falls} (all_near_steps e) (all_near_falls f)

    pub rest_fits : SFits w64 (x -ℤ held t)
    rest_fits = near_fits {x = all_steps -ℤ all_falls} rest_near tt

    pub rest_is : held (x -ℤ held t) ≡ total word_levels (rise_at steps)
    rest_is =
        (near_back {x = all_steps -ℤ all_falls} rest_near tt).same
        ∙ is_eq (is_sub steps_are (falls_are word_levels (step_at steps))) (rises_are word_levels (step_at steps)) (omega arith)

-- ---- a value and its steps
module _ {v : ℤ} {steps : List ℤ} (ready : RowReady 6 v steps) where
  abbrev down₆ : ℤ
  down₆ = total word_levels (fall_at steps)

  abbrev up₆ : ℤ
  up₆ = total word_levels (rise_at steps)

  pub small_steps : SmallSteps steps
  small_steps = record { step = ready.step }

  value_near : Near (held v) v value_limit
  value_near = near {x = v} (record { most = omega (arith, ready.value) }) tt

  down_near : {t : ℤ} → t ≡ down₆ → Near (held t) down₆ (6 * step_limit)
  down_near = all_near_falls small_steps

  up_near : {t : ℤ} → t ≡ up₆ → Near (held t) up₆ (6 * step_limit)
  up_near e =
      near_call {x = up₆} e (record {
        same = refl;
        size = one_part up₆ (nat_abs up₆ ≤ 6 * step_limit)
            (λ z. omega (arith, (rises_are word_levels (step_at steps)).is, nat_abs_parts up₆, sizes_few small_steps, sizes_are word_levels (step_at steps)))
            (λ z. omega (arith, (rises_are word_levels (step_at steps)).is, nat_abs_parts up₆, sizes_few small_steps, sizes_are word_levels (step_at steps)));
      }) tt

  pub same_ready : RowReady 6 (held v) steps
  same_ready = rw value_near.same ready

  pub as_held : {r : ℕ} → r ≡ row_mask (held v) (step_at steps) 6 → r ≡ row_mask v (step_at steps) 6
  as_held e = e ∙ ap (λ (z : ℤ). row_mask z (step_at steps) 6) value_near.same

  module _ {t : ℤ} (e : t ≡ down₆) where
    pub least_near : Near (held v +ℤ held t) (v +ℤ down₆) (value_limit + 6 * step_limit)
    least_near = near_add {x = v} {y = down₆} value_near (down_near e)

    pub least_fits : SFits w64 (held v +ℤ held t)
    least_fits = near_fits {x = v +ℤ down₆} least_near tt

    least_is : held (held v +ℤ held t) ≡ v +ℤ down₆
    least_is = (near_back {x = v +ℤ down₆} least_near tt).same

    pub ones_are : le_z (pos 0) (held (held v +ℤ held t)) ≡ true → 2 ^ 64 - 1 ≡ row_mask v (step_at steps) 6
    ones_are k = sym (all_black 6 (step_at steps) v (le_z_true (pos 0) _ (ap (le_z (pos 0)) (sym least_is) ∙ k)))

    module _ {r : ℤ} (f : r ≡ up₆) where
      pub greatest_near : Near (held v +ℤ held r) (v +ℤ up₆) (value_limit + 6 * step_limit)
      greatest_near = near_add {x = v} {y = up₆} value_near (up_near f)

      pub greatest_fits : SFits w64 (held v +ℤ held r)
      greatest_fits = near_fits {x = v +ℤ up₆} greatest_near tt

      greatest_is : held (held v +ℤ held r) ≡ v +ℤ up₆
      greatest_is = (near_back {x = v +ℤ up₆} greatest_near tt).same

      pub none_are : lt_z (held (held v +ℤ held r)) (pos 0) ≡ true → 0 ≡ row_mask v (step_at steps) 6
      none_are k = sym (all_white 6 (step_at steps) v (lt_z_true _ (pos 0) (ap (λ (z : ℤ). lt_z z (pos 0)) (sym greatest_is) ∙ k)))

      apart_near : Near (held (held v +ℤ held r) -ℤ held (held v +ℤ held t)) ((v +ℤ up₆) -ℤ (v +ℤ down₆)) (2 * (value_limit + 6 * step_limit))
      apart_near =
          near_sub {x = v +ℤ up₆} {y = v +ℤ down₆} (near_back {x = v +ℤ up₆} greatest_near tt) (near_back {x = v +ℤ down₆} least_near tt)

      pub apart_fits : SFits w64 (held (held v +ℤ held r) -ℤ held (held v +ℤ held t))
      apart_fits = near_fits {x = (v +ℤ up₆) -ℤ (v +ℤ down₆)} apart_near tt

      apart_is : held (held (held v +ℤ held r) -ℤ held (held v +ℤ held t)) ≡ (v +ℤ up₆) -ℤ (v +ℤ down₆)
      apart_is = (near_back {x = (v +ℤ up₆) -ℤ (v +ℤ down₆)} apart_near tt).same

      pub few_values : le_z (pos 0) (held (held v +ℤ held t)) ≡ false → lt_z (held (held v +ℤ held r)) (pos 0) ≡ false →
          lt_z (held (held (held v +ℤ held r) -ℤ held (held v +ℤ held t))) (pos (2 ^ 29)) ≡ true → FewValues (held v) steps
      few_values h k l =
          rw value_near.same (record {
            few = all_near 6 (step_at steps) v (2 ^ 29)
                (le_z_false (pos 0) _ (ap (le_z (pos 0)) (sym least_is) ∙ h))
                (lt_z_false _ (pos 0) (ap (λ (z : ℤ). lt_z z (pos 0)) (sym greatest_is) ∙ k))
                (lt_z_true _ (pos (2 ^ 29)) (ap (λ (z : ℤ). lt_z z (pos (2 ^ 29))) (sym apart_is) ∙ l));
          })
