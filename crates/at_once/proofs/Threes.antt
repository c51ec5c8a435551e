-- The three words of a row, from three values in their order and the same steps: where the least of the lowest value is 0 or more all three are all ones, and
-- where the greatest of the highest is less than 0 they are 0; where neither is so and both are near each other, all three values are small.
use mathlib.Core.Path.{◌≡◌, sym, ap, ◌∙◌}
use mathlib.Core.Bool.{true, false}
use mathlib.Core.List.{List}
use Prim.Native.Nat.{ℕ, zero, suc, ◌+◌, ◌-◌, ◌*◌, ◌^◌, ◌≤◌, ◌<◌}
use native.Mathlib.Omega.{arith}
use lib.IntN.{ℤ, pos, nat_abs, ◌+ℤ◌, ◌-ℤ◌}
use lib.Signed.{le_z, lt_z, ◌≤ℤ◌, ◌<ℤ◌}
use mir.Syntax.{w64}
use mir.Val.{SFits}
use mir.ValLaws.{to_z-of_z}
use Rattle.lemmas.specs.Sums.{sum, total}
use Rattle.lemmas.proofs.Whole.{up, dn, one_part, is_nat, is_self, is_add, is_sub, is_le, is_lt, le_is, lt_is, le_in, le_out}
use Rattle.lemmas.proofs.Whole.{le_z_true, le_z_false, lt_z_true, lt_z_false}
use Rattle.lemmas.proofs.Machine.{nat_abs_parts, Near, near_sub, near_back, near_fits}
use Rattle.pruned.proofs.Moving.{held}
use Rattle.masks.specs.Mask.{all_ones}
use Rattle.masks.specs.Leaves.{value_limit, step_limit, row_mask}
use Rattle.at_once.specs.declared.three.Three.{Three}
use Rattle.at_once.specs.Words.{word_levels, step_at, fall_of, rise_of, fall_at, rise_at, sizes_of, FewValues}
use Rattle.at_once.specs.Own.{alike_words, ThreeReady, ThreeMasks}
use Rattle.at_once.proofs.Falling.{falls_are, rises_are, sizes_are, all_black, all_white, least_near, greatest_near}

-- ---- fewer steps fall and rise by no more
sum_longer : (n k : ℕ) (f : ℕ → ℕ) → sum n f ≤ sum (n + k) f
unfolding sum
sum_longer n zero f =
    let e : n + 0 ≡ n = omega arith in
    omega (arith, ap (λ (m : ℕ). sum m f) e)
sum_longer n (suc k) f =
    let e : n + suc k ≡ suc (n + k) = omega arith in
    let g : sum (n + suc k) f ≡ sum (n + k) f + f (n + k) = ap (λ (m : ℕ). sum m f) e in
    omega (arith, g, sum_longer n k f)

module _ (left : ℕ) (few : left ≤ word_levels) (step : ℕ → ℤ) where
  fewer : (f : ℕ → ℕ) → sum left f ≤ sum word_levels f
  fewer f =
      let e : left + (word_levels - left) ≡ word_levels = omega arith in
      omega (arith, sum_longer left (word_levels - left) f, ap (λ (m : ℕ). sum m f) e)

  -- THEOREM: what the least of a lower value says, and the greatest of a higher one
  ones_left : {x y : ℤ} → pos 0 ≤ℤ (x +ℤ total word_levels (λ j. fall_of (step j))) → x ≤ℤ y → row_mask y step left ≡ all_ones (2 ^ left)
  ones_left {x} {y} h l =
      all_black left step y (is_le (is_nat 0) (is_add (is_self y) (falls_are left step))
      (omega (arith, le_is (is_nat 0) (is_add (is_self x) (falls_are word_levels step)) h, le_out l, fewer (λ j. dn (step j)))))

  none_left : {x y : ℤ} → (y +ℤ total word_levels (λ j. rise_of (step j))) <ℤ pos 0 → x ≤ℤ y → row_mask x step left ≡ 0
  none_left {x} {y} h l =
      all_white left step x (is_lt (is_add (is_self x) (rises_are left step)) (is_nat 0)
      (omega (arith, lt_is (is_add (is_self y) (rises_are word_levels step)) (is_nat 0) h, le_out l, fewer (λ j. up (step j)))))

-- THEOREM: a value between two that are near each other with all steps, and on both sides of 0, is small
all_between : (step : ℕ → ℤ) (most : ℕ) {x y z : ℤ} → x ≤ℤ y → y ≤ℤ z → (x +ℤ total word_levels (λ j. fall_of (step j))) <ℤ pos 0 →
    pos 0 ≤ℤ (z +ℤ total word_levels (λ j. rise_of (step j))) →
    ((z +ℤ total word_levels (λ j. rise_of (step j))) -ℤ (x +ℤ total word_levels (λ j. fall_of (step j)))) <ℤ pos most →
    nat_abs y + sizes_of word_levels step < 2 * most
all_between step most {x} {y} {z} p q h k l =
    let falls = falls_are word_levels step in
    let rises = rises_are word_levels step in
    let a = lt_is (is_add (is_self x) falls) (is_nat 0) h in
    let b = le_is (is_nat 0) (is_add (is_self z) rises) k in
    let d = lt_is (is_sub (is_add (is_self z) rises) (is_add (is_self x) falls)) (is_nat most) l in
    one_part y (nat_abs y + sizes_of word_levels step < 2 * most)
    (λ t. omega (arith, a, b, d, le_out p, le_out q, nat_abs_parts y, sizes_are word_levels step))
    (λ t. omega (arith, a, b, d, le_out p, le_out q, nat_abs_parts y, sizes_are word_levels step))

-- ---- in code
module _ {below v above : ℤ} {steps : List ℤ} (ready : ThreeReady below v above steps) where
  same : (x : ℤ) → x ≤ℤ x
  same x = le_in (omega arith)

  wide : below ≤ℤ above
  wide = le_in (omega (arith, le_out ready.under, le_out ready.over))

  module _ {t : ℤ} (e : t ≡ total word_levels (fall_at steps)) where
    abbrev least : ℤ
    least = below +ℤ total word_levels (fall_at steps)

    least_is : held (held below +ℤ held t) ≡ least
    least_is = (near_back {x = least} (least_near ready.sure e) tt).same

    pub three_ones : le_z (pos 0) (held (held below +ℤ held t)) ≡ true → {left : ℕ} → left ≤ word_levels → {ones : ℕ} → ones ≡ all_ones (2 ^ left) →
        {r : Three} → r ≡ alike_words ones → ThreeMasks below v above steps left r
    three_ones k {left} few f q =
        let h = le_z_true (pos 0) least (ap (le_z (pos 0)) (sym least_is) ∙ k) in
        rw q (record {
          sure = f ∙ sym (ones_left left few (step_at steps) h (same below));
          centre = f ∙ sym (ones_left left few (step_at steps) h ready.under);
          possible = f ∙ sym (ones_left left few (step_at steps) h wide);
        })

    module _ {r : ℤ} (f : r ≡ total word_levels (rise_at steps)) where
      abbrev greatest : ℤ
      greatest = above +ℤ total word_levels (rise_at steps)

      greatest_is : held (held above +ℤ held r) ≡ greatest
      greatest_is = (near_back {x = greatest} (greatest_near ready.possible e f) tt).same

      pub three_none : lt_z (held (held above +ℤ held r)) (pos 0) ≡ true → {left : ℕ} → left ≤ word_levels → {words : Three} → words ≡ alike_words 0 →
          ThreeMasks below v above steps left words
      three_none k {left} few q =
          let h = lt_z_true greatest (pos 0) (ap (λ (z : ℤ). lt_z z (pos 0)) (sym greatest_is) ∙ k) in
          rw q (record {
            sure = sym (none_left left few (step_at steps) h wide);
            centre = sym (none_left left few (step_at steps) h ready.over);
            possible = sym (none_left left few (step_at steps) h (same above));
          })

      apart_near : Near (held (held above +ℤ held r) -ℤ held (held below +ℤ held t)) (greatest -ℤ least) (2 * (value_limit + 6 * step_limit))
      apart_near =
          near_sub {x = greatest} {y = least} (near_back {x = greatest} (greatest_near ready.possible e f) tt)
          (near_back {x = least} (least_near ready.sure e) tt)

      pub three_fits : SFits w64 (held (held above +ℤ held r) -ℤ held (held below +ℤ held t))
      three_fits = near_fits {x = greatest -ℤ least} apart_near tt

      module _ (h : le_z (pos 0) (held (held below +ℤ held t)) ≡ false) (k : lt_z (held (held above +ℤ held r)) (pos 0) ≡ false)
          (l : lt_z (held (held (held above +ℤ held r) -ℤ held (held below +ℤ held t))) (pos (2 ^ 29)) ≡ true) where
        few_between : {x : ℤ} → SFits w64 x → below ≤ℤ x → x ≤ℤ above → FewValues (held x) steps
        few_between {x} fits p q =
            rw (to_z-of_z w64 x fits) (record {
              few = all_between (step_at steps) (2 ^ 29) p q
                  (le_z_false (pos 0) least (ap (le_z (pos 0)) (sym least_is) ∙ h))
                  (lt_z_false greatest (pos 0) (ap (λ (z : ℤ). lt_z z (pos 0)) (sym greatest_is) ∙ k))
                  (lt_z_true (greatest -ℤ least) (pos (2 ^ 29))
                  (ap (λ (z : ℤ). lt_z z (pos (2 ^ 29))) (sym (near_back {x = greatest -ℤ least} apart_near tt).same) ∙ l));
            })

        pub few_below : SFits w64 below → FewValues (held below) steps
        few_below fits = few_between fits (same below) wide

        pub few_centre : SFits w64 v → FewValues (held v) steps
        few_centre fits = few_between fits ready.under ready.over

        pub few_above : SFits w64 above → FewValues (held above) steps
        few_above fits = few_between fits wide (same above)

-- a word of a value as the machine holds it
pub held_mask : {x : ℤ} → SFits w64 x → (steps : List ℤ) (left : ℕ) {r : ℕ} → r ≡ row_mask (held x) (step_at steps) left → r ≡ row_mask x (step_at steps) left
held_mask {x} fits steps left e = e ∙ ap (λ (z : ℤ). row_mask z (step_at steps) left) (to_z-of_z w64 x fits)
