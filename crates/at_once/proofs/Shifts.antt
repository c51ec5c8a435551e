-- Words as the machine shifts them: a shift of 1 by n places is 2^n, so that all ones, the lower and the upper digits and two words side by side are powers,
-- remainders, quotients and sums.
use mathlib.Core.Path.{◌≡◌, sym, ap, ◌∙◌, subst}
use Prim.Native.Nat.{ℕ, ◌+◌, ◌-◌, ◌*◌, ◌/◌, ◌%◌, ◌^◌, ◌≤◌, ◌<◌}
use native.Mathlib.Omega.{arith}
use lib.Pow.{pow_pos, pow_mono, high, ones_split, ones_lt}
use lib.Bits.{bit_and, bit_or, and_mask}
use Rattle.lemmas.proofs.Machine.{shifted_one}
use Rattle.masks.specs.Mask.{all_ones}
use Rattle.masks.proofs.Digits.{side_by_side}
use Rattle.at_once.specs.Words.{word_levels}

module _ (n : ℕ) (few : n ≤ word_levels) where
  shifted : (1 * 2 ^ n) % 2 ^ 64 ≡ 2 ^ n
  shifted = shifted_one n (omega arith)

  voxels_most : 2 ^ n ≤ 64
  voxels_most = pow_mono {j = 6} few

  pub voxels_fit : (1 * 2 ^ n) % 2 ^ 64 ≤ 64
  voxels_fit = rw shifted voxels_most

  pub voxels_some : 64 - (1 * 2 ^ n) % 2 ^ 64 < 64
  voxels_some = rw shifted (omega (arith, pow_pos n))

  pub ones_shifted : (2 ^ 64 - 1) / 2 ^ (64 - (1 * 2 ^ n) % 2 ^ 64) ≡ all_ones (2 ^ n)
  ones_shifted =
      let e : 64 ≡ 2 ^ n + (64 - 2 ^ n) = omega (arith, voxels_most) in
      ap (λ (x : ℕ). (2 ^ 64 - 1) / 2 ^ (64 - x)) shifted
      ∙ ap (λ (x : ℕ). (2 ^ x - 1) / 2 ^ (64 - 2 ^ n)) e
      ∙ ap (λ (x : ℕ). x / 2 ^ (64 - 2 ^ n)) (ones_split (2 ^ n) (64 - 2 ^ n))
      ∙ high (all_ones (2 ^ n)) (64 - 2 ^ n) (ones_lt (64 - 2 ^ n))

module _ (n : ℕ) (few : n < word_levels) where
  half_shifted : (1 * 2 ^ n) % 2 ^ 64 ≡ 2 ^ n
  half_shifted = shifted n (omega arith)

  half_most : 2 ^ n ≤ 32
  half_most = pow_mono {j = 5} (omega arith)

  pub half_fits : (1 * 2 ^ n) % 2 ^ 64 < 64
  half_fits = rw half_shifted (omega (arith, half_most))

  one_shifted : (1 * 2 ^ ((1 * 2 ^ n) % 2 ^ 64)) % 2 ^ 64 ≡ 2 ^ 2 ^ n
  one_shifted = ap (λ (x : ℕ). (1 * 2 ^ x) % 2 ^ 64) half_shifted ∙ shifted_one (2 ^ n) (omega (arith, half_most))

  pub one_some : 1 ≤ (1 * 2 ^ ((1 * 2 ^ n) % 2 ^ 64)) % 2 ^ 64
  one_some = subst (λ (x : ℕ). 1 ≤ x) (sym one_shifted) (pow_pos (2 ^ n))

  pub lower_is : (word : ℕ) → bit_and word ((1 * 2 ^ ((1 * 2 ^ n) % 2 ^ 64)) % 2 ^ 64 - 1) ≡ word % 2 ^ 2 ^ n
  lower_is word = ap (λ (x : ℕ). bit_and word (x - 1)) one_shifted ∙ and_mask word (2 ^ n)

  pub upper_is : (word : ℕ) → word / 2 ^ ((1 * 2 ^ n) % 2 ^ 64) ≡ word / 2 ^ 2 ^ n
  upper_is word = ap (λ (x : ℕ). word / 2 ^ x) half_shifted

  pub joined_is : (lo hi : ℕ) → lo < 2 ^ 2 ^ n → hi < 2 ^ 2 ^ n → bit_or lo ((hi * 2 ^ ((1 * 2 ^ n) % 2 ^ 64)) % 2 ^ 64) ≡ hi * 2 ^ 2 ^ n + lo
  joined_is lo hi l h =
      ap (λ (x : ℕ). bit_or lo ((hi * 2 ^ x) % 2 ^ 64)) half_shifted ∙ side_by_side n 64 lo hi (pow_mono {j = 6} few) l h
