-- The word of a halfspace, as the machine computes it. The values on the way are those of the first voxel and some steps more, so that no sum overflows.
use mathlib.Core.Path.{◌≡◌, sym, ap, ap₂, ◌∙◌}
use mathlib.Core.List.{List}
use Prim.Native.Nat.{ℕ, suc, ◌+◌, ◌-◌, ◌*◌, ◌%◌, ◌^◌, ◌≤◌, ◌<◌}
use native.Mathlib.Omega.{arith}
use lib.Pow.{pow_mono}
use lib.Bits.{bit_and, bit_or, and_mask}
use lib.IntN.{ℤ, pos, ◌+ℤ◌}
use lib.Signed.{le_z}
use mir.Syntax.{w64}
use mir.Val.{SFits}
use mir.ValLaws.{to_z-of_z}
use Rattle.lemmas.specs.Grid.{count}
use Rattle.lemmas.proofs.Machine.{size_add, Near, near, near_add, near_back, near_fits}
use Rattle.pruned.proofs.Moving.{held}
use Rattle.masks.specs.Mask.{all_ones}
use Rattle.masks.specs.Leaves.{value_limit, step_limit, row_mask}
use Rattle.masks.proofs.Digits.{side_by_side}
use Rattle.masks.proofs.Leaves.{row_mask_halves, row_mask_fits, row_mask_part, row_mask_voxel}
use Rattle.at_once.specs.Words.{word_levels, step_at, RowReady}

-- of one voxel
-- of twice as many
module _ (n : ℕ) (few : n < word_levels) {v : ℤ} {steps : List ℤ} (ready : RowReady (suc n) v steps) where
  value_near : Near (held v) v (value_limit + word_levels * step_limit)
  value_near = near (record { most = omega (arith, ready.value) }) tt

  step_near : Near (held (step_at steps n)) (step_at steps n) step_limit
  step_near = near (record { most = ready.step n }) tt

  further : Near (held v +ℤ held (step_at steps n)) (v +ℤ step_at steps n) (value_limit + word_levels * step_limit + step_limit)
  further = near_add {x = v} {y = step_at steps n} value_near step_near

  pub step_fits : SFits w64 (held v +ℤ held (step_at steps n))
  step_fits = near_fits {x = v +ℤ step_at steps n} further tt

  pub low_ready : RowReady n (held v) steps
  low_ready = rw value_near.same (record { value = omega (arith, ready.value); step = ready.step })

  pub high_ready : RowReady n (held (held v +ℤ held (step_at steps n))) steps
  high_ready =
      rw (near_back {x = v +ℤ step_at steps n} further tt).same
      (record { value = omega (arith, size_add v (step_at steps n), ready.value, ready.step n); step = ready.step })

  pub both_halves : {lo hi : ℕ} → lo ≡ row_mask (held v) (step_at steps) n → hi ≡ row_mask (held (held v +ℤ held (step_at steps n))) (step_at steps) n →
      bit_or lo ((hi * 2 ^ 2 ^ n) % 2 ^ 64) ≡ row_mask v (step_at steps) (suc n)
  both_halves p q =
      ap₂ (λ (x y : ℕ). bit_or x ((y * 2 ^ 2 ^ n) % 2 ^ 64))
      (p ∙ ap (λ (z : ℤ). row_mask z (step_at steps) n) value_near.same)
      (q ∙ ap (λ (z : ℤ). row_mask z (step_at steps) n) (near_back {x = v +ℤ step_at steps n} further tt).same)
      ∙ side_by_side n 64 (row_mask v (step_at steps) n) (row_mask (v +ℤ step_at steps n) (step_at steps) n) (pow_mono {j = 6} few)
      (row_mask_fits v (step_at steps) n) (row_mask_fits (v +ℤ step_at steps n) (step_at steps) n)
      ∙ sym (row_mask_halves v (step_at steps) n)

pub as_row : (v : ℤ) (steps : List ℤ) {r : ℕ} → r ≡ count (le_z (pos 0) v) → r ≡ row_mask v (step_at steps) 0
as_row v steps e = e ∙ sym (row_mask_voxel v (step_at steps))

-- of six levels
pub all_digits : (v : ℤ) (steps : List ℤ) {left : ℕ} → left ≡ 6 → SFits w64 v → {word : ℕ} → word ≡ row_mask (held v) (step_at steps) 6 →
    word ≡ row_mask v (step_at steps) left
all_digits v steps e f p = p ∙ ap (λ (z : ℤ). row_mask z (step_at steps) 6) (to_z-of_z w64 v f) ∙ ap (row_mask v (step_at steps)) (sym e)

-- of fewer levels
pub fewer_digits : (v : ℤ) (steps : List ℤ) (left : ℕ) → left ≤ word_levels → SFits w64 v → {word ones : ℕ} → word ≡ row_mask (held v) (step_at steps) 6 →
    ones ≡ all_ones (2 ^ left) → bit_and word ones ≡ row_mask v (step_at steps) left
fewer_digits v steps left few f p q =
    let e : 6 ≡ (6 - left) + left = omega arith in
    ap₂ bit_and (p ∙ ap (λ (z : ℤ). row_mask z (step_at steps) 6) (to_z-of_z w64 v f) ∙ ap (row_mask v (step_at steps)) e) q
    ∙ and_mask (row_mask v (step_at steps) ((6 - left) + left)) (2 ^ left)
    ∙ row_mask_part v (step_at steps) (6 - left) left
