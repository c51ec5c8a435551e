-- Two values in one number, 32 digits apart, each with 2^30 more. As long as both are below 2^30 in size, the number is not negative and digit 30 of either
-- is its test; a step in both places moves both values; and two numbers of digits side by side in both halves are the masks of twice as many values.
use mathlib.Core.Path.{◌≡◌, refl, sym, ap, ap₂, ◌∙◌, subst}
use mathlib.Core.Bool.{Bool, true, false}
use mathlib.Core.List.{List, ◌∷◌}
use Prim.Native.Nat.{ℕ, zero, suc, ◌+◌, ◌-◌, ◌*◌, ◌/◌, ◌%◌, ◌^◌, ◌≤◌, ◌<◌}
use native.Mathlib.Omega.{arith}
use native.Mathlib.Nat.{mul-le-mul, mod-eq_of_lt}
use lib.Dec.{T, lit<}
use lib.Pow.{pow_mono}
use lib.Bits.{bit_and, bit_or, and_mask, and_block, or_block, or_shifted_r}
use lib.IntN.{ℤ, pos, nat_abs, ◌+ℤ◌, ◌*ℤ◌}
use lib.Signed.{le_z, non_neg}
use mir.Syntax.{w64}
use mir.Val.{Fits, SFits}
use Rattle.lemmas.specs.Sums.{sum}
use Rattle.lemmas.specs.Grid.{count}
use Rattle.lemmas.proofs.Sums.{sum_part}
use Rattle.lemmas.proofs.Machine.{nat_abs_parts, size_add, size_mul, Near, near, near_lit, near_add, near_mul, near_back, near_fits, near_unsigned}
use Rattle.lemmas.proofs.Whole.{up, dn, one_part, is_nat, is_self, is_add, is_mul, is_eq, le_in, le_out, lt_out, le_z_true, le_z_false, ι, ν, ◌⊕◌, ◌⊗◌, eq_by}
use Rattle.pruned.proofs.Moving.{held}
use Rattle.masks.specs.Leaves.{row_mask}
use Rattle.masks.proofs.Leaves.{row_mask_halves, row_mask_fits, row_mask_voxel}
use Rattle.at_once.specs.Words.{word_levels, step_at, paired, in_both, sizes_of, OnePair, PairReady, FewSteps, TwiceSteps, FewValues}

-- ---- one value with 2^30 more
abbrev lane : ℤ → ℕ
lane x = up x + 2 ^ 30 - dn x

module _ (x : ℤ) (few : nat_abs x < 2 ^ 30) where
  lane_few : lane x < 2 ^ 31
  lane_few = omega (arith, nat_abs_parts x)

  lane_digit : lane x / 2 ^ 30 ≡ count (le_z (pos 0) x)
  lane_digit = by (le_z (pos 0) x) refl
    where
      by : (t : Bool) → le_z (pos 0) x ≡ t → lane x / 2 ^ 30 ≡ count t
      by true e = one_part x (lane x / 2 ^ 30 ≡ 1)
          (λ z. omega (arith, nat_abs_parts x))
          (λ z. omega (arith, nat_abs_parts x, (is_nat 0).is, le_out (le_z_true (pos 0) x e)))
      by false e = one_part x (lane x / 2 ^ 30 ≡ 0)
          (λ z. absurd (omega (arith, (is_nat 0).is, lt_out (le_z_false (pos 0) x e))))
          (λ z. omega (arith, nat_abs_parts x, (is_nat 0).is, lt_out (le_z_false (pos 0) x e)))

-- ---- two
abbrev pair_limit : ℕ
pair_limit = 2 ^ 63 - 1

module _ (x y : ℤ) (few-x : nat_abs x < 2 ^ 30) (few-y : nat_abs y < 2 ^ 30) where
  abbrev number : ℕ
  number = lane y * 2 ^ 32 + lane x

  pair_is : paired x y ≡ pos number
  pair_is =
      is_eq (is_add (is_mul (is_add (is_self y) (is_nat (2 ^ 30))) (2 ^ 32)) (is_add (is_self x) (is_nat (2 ^ 30)))) (is_nat number)
      (omega (arith, nat_abs_parts x, nat_abs_parts y))

  pair_size : nat_abs (paired x y) ≤ pair_limit
  pair_size = rw pair_is (omega (arith, lane_few x few-x, lane_few y few-y))

  apart : number / 2 ^ 30 ≡ lane y / 2 ^ 30 * 2 ^ 32 + (lane y % 2 ^ 30 * 4 + lane x / 2 ^ 30)
  apart = omega arith

  digits : bit_and (number / 2 ^ 30) (2 ^ 32 + 1) ≡ count (le_z (pos 0) y) * 2 ^ 32 + count (le_z (pos 0) x)
  digits =
      let q = lane y / 2 ^ 30 in
      let r = lane y % 2 ^ 30 * 4 + lane x / 2 ^ 30 in
      ap (λ (m : ℕ). bit_and m (2 ^ 32 + 1)) apart
      ∙ and_block 32 q 1 r 1 (omega (arith, lane_few x few-x)) (lit< tt)
      ∙ ap₂ (λ (a b : ℕ). a * 2 ^ 32 + b)
      (and_mask q 1 ∙ omega (arith, lane_few y few-y) ∙ lane_digit y few-y)
      (and_mask r 1 ∙ omega (arith, lane_few x few-x) ∙ lane_digit x few-x)

  moved : (s : ℤ) → paired x y +ℤ in_both s ≡ paired (x +ℤ s) (y +ℤ s)
  moved s =
      eq_by ((ι y ⊕ ν (2 ^ 30)) ⊗ ν (2 ^ 32) ⊕ (ι x ⊕ ν (2 ^ 30)) ⊕ ι s ⊗ ν (2 ^ 32 + 1))
      ((ι y ⊕ ι s ⊕ ν (2 ^ 30)) ⊗ ν (2 ^ 32) ⊕ (ι x ⊕ ι s ⊕ ν (2 ^ 30))) (omega arith)

-- ---- the digits of two values, in code
module _ {pair : ℤ} (job : OnePair pair) where
  abbrev x : ℤ
  x = job.first

  abbrev y : ℤ
  y = job.second

  one_near : Near (held pair) (paired x y) pair_limit
  one_near =
      let n = near {x = paired x y} (record { most = pair_size x y job.few_first job.few_second }) tt in
      subst (λ (z : ℤ). Near (held z) (paired x y) pair_limit) (sym job.pair_is) n

  pub one_cast : T (non_neg (held pair)) × Fits w64 (nat_abs (held pair))
  one_cast = near_unsigned {x = paired x y} one_near tt
      (le_in (omega (
        arith,
        (is_nat 0).is,
        (is_nat (number x y job.few_first job.few_second)).is,
        ap up (pair_is x y job.few_first job.few_second),
        ap dn (pair_is x y job.few_first job.few_second),
      )))

  pub one_digits : bit_and (nat_abs (held pair) / 2 ^ 30) (2 ^ 32 + 1) ≡ count (le_z (pos 0) y) * 2 ^ 32 + count (le_z (pos 0) x)
  one_digits =
      ap (λ (z : ℤ). bit_and (nat_abs z / 2 ^ 30) (2 ^ 32 + 1)) (one_near.same ∙ pair_is x y job.few_first job.few_second)
      ∙ digits x y job.few_first job.few_second

-- ---- twice as many
-- four numbers of 2^n digits, two and two side by side in both halves
module _ (n : ℕ) (few : n < 5) {a b c d : ℕ} (fa : a < 2 ^ 2 ^ n) (fb : b < 2 ^ 2 ^ n) (fc : c < 2 ^ 2 ^ n) (fd : d < 2 ^ 2 ^ n) where
  abbrev K : ℕ
  K = 2 ^ 2 ^ n

  K_few : K ≤ 2 ^ 16
  K_few = pow_mono {i = 2 ^ n} {j = 16} (pow_mono {i = n} {j = 4} (omega arith))

  c_few : c * K ≤ 65535 * 65536
  c_few =
      let e : c ≤ 65535 = omega (arith, K_few) in
      mul-le-mul e K_few

  d_few : d * K ≤ 65535 * 65536
  d_few =
      let e : d ≤ 65535 = omega (arith, K_few) in
      mul-le-mul e K_few

  shifted : ((d * 2 ^ 32 + c) * K) % 2 ^ 64 ≡ d * K * 2 ^ 32 + c * K
  shifted =
      let e : (d * 2 ^ 32 + c) * K ≡ d * K * 2 ^ 32 + c * K = omega arith in
      ap (λ (m : ℕ). m % 2 ^ 64) e ∙ mod-eq_of_lt (omega (arith, c_few, d_few))

  four_parts : bit_or (b * 2 ^ 32 + a) (((d * 2 ^ 32 + c) * K) % 2 ^ 64) ≡ (d * K + b) * 2 ^ 32 + (c * K + a)
  four_parts =
      ap (bit_or (b * 2 ^ 32 + a)) shifted
      ∙ or_block 32 b (d * K) a (c * K) (omega (arith, K_few)) (omega (arith, c_few))
      ∙ ap₂ (λ (p q : ℕ). p * 2 ^ 32 + q) (or_shifted_r d (2 ^ n) b fb) (or_shifted_r c (2 ^ n) a fa)

module _ (n : ℕ) (few : n < 5) {pair : ℤ} {steps : List ℤ} (job : PairReady (suc n) pair steps) where
  abbrev x₁ : ℤ
  x₁ = job.first

  abbrev y₁ : ℤ
  y₁ = job.second

  abbrev s : ℤ
  s = job.step n

  pub first_few : nat_abs x₁ + nat_abs s + sizes_of n job.step < 2 ^ 30
  unfolding sum
  first_few = omega (arith, job.few_first)

  pub second_few : nat_abs y₁ + nat_abs s + sizes_of n job.step < 2 ^ 30
  unfolding sum
  second_few = omega (arith, job.few_second)

  pub pair_near : Near (held pair) (paired x₁ y₁) pair_limit
  pair_near =
      one_near (record {
        first = x₁;
        second = y₁;
        pair_is = job.pair_is;
        few_first = omega (arith, first_few);
        few_second = omega (arith, second_few);
      })

  both_size : nat_abs (in_both s) ≤ 2 ^ 62 + 2 ^ 30
  both_size = rw (size_mul s (pos (2 ^ 32 + 1))) (omega (arith, first_few))

  step_near : Near (held (step_at steps n)) (in_both s) (2 ^ 62 + 2 ^ 30)
  step_near =
      let m = near {x = in_both s} (record { most = both_size }) tt in
      subst (λ (z : ℤ). Near (held z) (in_both s) (2 ^ 62 + 2 ^ 30)) (sym (job.steps_are n (omega arith))) m

  pub further : Near (held pair +ℤ held (step_at steps n)) (paired (x₁ +ℤ s) (y₁ +ℤ s)) pair_limit
  further = record {
    same = ap₂ ◌+ℤ◌ pair_near.same step_near.same ∙ moved x₁ y₁ (omega (arith, first_few)) (omega (arith, second_few)) s;
    size = pair_size (x₁ +ℤ s) (y₁ +ℤ s) (omega (arith, size_add x₁ s, first_few)) (omega (arith, size_add y₁ s, second_few));
  }

  pub pair_fits : SFits w64 (held pair +ℤ held (step_at steps n))
  pair_fits = near_fits {x = paired (x₁ +ℤ s) (y₁ +ℤ s)} further tt

  unfoldable pub low_pair : PairReady n (held pair) steps
  low_pair = record {
    first = x₁;
    second = y₁;
    step = job.step;
    pair_is = pair_near.same;
    steps_are = λ j l. job.steps_are j (omega arith);
    few_first = omega (arith, first_few);
    few_second = omega (arith, second_few);
  }

  unfoldable pub high_pair : PairReady n (held (held pair +ℤ held (step_at steps n))) steps
  high_pair = record {
    first = x₁ +ℤ s;
    second = y₁ +ℤ s;
    step = job.step;
    pair_is = (near_back {x = paired (x₁ +ℤ s) (y₁ +ℤ s)} further tt).same;
    steps_are = λ j l. job.steps_are j (omega arith);
    few_first = omega (arith, size_add x₁ s, first_few);
    few_second = omega (arith, size_add y₁ s, second_few);
  }

  pub both_pairs : {lo hi : ℕ} →
      ((j : PairReady n (held pair) steps) → lo ≡ row_mask j.second j.step n * 2 ^ 32 + row_mask j.first j.step n) →
      ((j : PairReady n (held (held pair +ℤ held (step_at steps n))) steps) →
      hi ≡ row_mask j.second j.step n * 2 ^ 32 + row_mask j.first j.step n) →
      bit_or lo ((hi * 2 ^ 2 ^ n) % 2 ^ 64) ≡ row_mask y₁ job.step (suc n) * 2 ^ 32 + row_mask x₁ job.step (suc n)
  unfolding low_pair high_pair
  both_pairs p q =
      ap₂ (λ (l h : ℕ). bit_or l ((h * 2 ^ 2 ^ n) % 2 ^ 64)) (p low_pair) (q high_pair)
      ∙ four_parts n few (row_mask_fits x₁ job.step n) (row_mask_fits y₁ job.step n)
      (row_mask_fits (x₁ +ℤ s) job.step n) (row_mask_fits (y₁ +ℤ s) job.step n)
      ∙ ap₂ (λ (a b : ℕ). a * 2 ^ 32 + b) (sym (row_mask_halves y₁ job.step n)) (sym (row_mask_halves x₁ job.step n))

-- of one digit each
unfoldable pub as_one : {pair : ℤ} {steps : List ℤ} → PairReady 0 pair steps → OnePair pair
unfolding sum
as_one job = record {
  first = job.first;
  second = job.second;
  pair_is = job.pair_is;
  few_first = omega (arith, job.few_first);
  few_second = omega (arith, job.few_second);
}

pub from_one : {pair : ℤ} {r : ℕ} → ((j : OnePair pair) → r ≡ count (le_z (pos 0) j.second) * 2 ^ 32 + count (le_z (pos 0) j.first)) →
    {steps : List ℤ} (j : PairReady 0 pair steps) → r ≡ row_mask j.second j.step 0 * 2 ^ 32 + row_mask j.first j.step 0
unfolding as_one
from_one f j =
    f (as_one j) ∙ sym (ap₂ (λ (a b : ℕ). a * 2 ^ 32 + b) (row_mask_voxel j.second j.step) (row_mask_voxel j.first j.step))

-- ---- the steps in both places
module _ {steps : List ℤ} (few : FewSteps steps) where
  both_near : (j : ℕ) → j < word_levels → Near (held (step_at steps j) *ℤ pos (2 ^ 32 + 1)) (in_both (step_at steps j)) ((2 ^ 30 - 1) * (2 ^ 32 + 1))
  both_near j l =
      let n : nat_abs (step_at steps j) ≤ 2 ^ 30 - 1 = omega (arith, few.few j l) in
      near_mul {x = step_at steps j} {y = pos (2 ^ 32 + 1)} (near {x = step_at steps j} (record { most = n }) tt) (near_lit (pos (2 ^ 32 + 1)))

  pub both_fits : (j : ℕ) → j < word_levels → SFits w64 (held (step_at steps j) *ℤ pos (2 ^ 32 + 1))
  both_fits j l = near_fits {x = in_both (step_at steps j)} (both_near j l) tt

  both_is : (j : ℕ) → j < word_levels → held (held (step_at steps j) *ℤ pos (2 ^ 32 + 1)) ≡ in_both (step_at steps j)
  both_is j l = (near_back {x = in_both (step_at steps j)} (both_near j l) tt).same

  abbrev both_at : ℕ → ℤ
  both_at j = held (held (step_at steps j) *ℤ pos (2 ^ 32 + 1))

  pub twice_are : {rest : List ℤ} → TwiceSteps steps (both_at 0 ∷ both_at 1 ∷ both_at 2 ∷ both_at 3 ∷ both_at 4 ∷ rest)
  twice_are {rest} = record { twice = each }
    where
      each : (j : ℕ) → j < 5 → step_at (both_at 0 ∷ both_at 1 ∷ both_at 2 ∷ both_at 3 ∷ both_at 4 ∷ rest) j ≡ in_both (step_at steps j)
      each zero l = both_is 0 (lit< tt)
      each (suc zero) l = both_is 1 (lit< tt)
      each (suc (suc zero)) l = both_is 2 (lit< tt)
      each (suc (suc (suc zero))) l = both_is 3 (lit< tt)
      each (suc (suc (suc (suc zero)))) l = both_is 4 (lit< tt)
      each (suc (suc (suc (suc (suc j))))) l = absurd (omega arith)

-- ---- all 64
module _ {v : ℤ} {steps : List ℤ} (small : FewValues v steps) where
  abbrev s₅ : ℤ
  s₅ = step_at steps 5

  pub six_apart : nat_abs v + nat_abs s₅ + sizes_of 5 (step_at steps) < 2 ^ 30
  unfolding sum
  six_apart = omega (arith, small.few)

  v_near : Near (held v) v (2 ^ 30 - 1)
  v_near = near {x = v} (record { most = omega (arith, six_apart) }) tt

  s_near : Near (held s₅) s₅ (2 ^ 30 - 1)
  s_near = near {x = s₅} (record { most = omega (arith, six_apart) }) tt

  high_near : Near (held v +ℤ held s₅) (v +ℤ s₅) (2 ^ 30 - 1)
  high_near = record { same = ap₂ ◌+ℤ◌ v_near.same s_near.same; size = omega (arith, size_add v s₅, six_apart) }

  more_near : Near (held (held v +ℤ held s₅) +ℤ pos (2 ^ 30)) (v +ℤ s₅ +ℤ pos (2 ^ 30)) (2 ^ 31 - 1)
  more_near = near_add {x = v +ℤ s₅} {y = pos (2 ^ 30)} (near_back {x = v +ℤ s₅} high_near tt) (near_lit (pos (2 ^ 30)))

  placed_near : Near (held (held (held v +ℤ held s₅) +ℤ pos (2 ^ 30)) *ℤ pos (2 ^ 32)) ((v +ℤ s₅ +ℤ pos (2 ^ 30)) *ℤ pos (2 ^ 32)) ((2 ^ 31 - 1) * 2 ^ 32)
  placed_near =
      near_mul {x = v +ℤ s₅ +ℤ pos (2 ^ 30)} {y = pos (2 ^ 32)} (near_back {x = v +ℤ s₅ +ℤ pos (2 ^ 30)} more_near tt) (near_lit (pos (2 ^ 32)))

  low_near : Near (held v +ℤ pos (2 ^ 30)) (v +ℤ pos (2 ^ 30)) (2 ^ 31 - 1)
  low_near = near_add {x = v} {y = pos (2 ^ 30)} v_near (near_lit (pos (2 ^ 30)))

  abbrev whole : ℤ
  whole = held (held (held (held v +ℤ held s₅) +ℤ pos (2 ^ 30)) *ℤ pos (2 ^ 32)) +ℤ held (held v +ℤ pos (2 ^ 30))

  pub whole_near : Near whole (paired v (v +ℤ s₅)) ((2 ^ 31 - 1) * 2 ^ 32 + (2 ^ 31 - 1))
  whole_near =
      near_add {x = (v +ℤ s₅ +ℤ pos (2 ^ 30)) *ℤ pos (2 ^ 32)} {y = v +ℤ pos (2 ^ 30)}
      (near_back {x = (v +ℤ s₅ +ℤ pos (2 ^ 30)) *ℤ pos (2 ^ 32)} placed_near tt) (near_back {x = v +ℤ pos (2 ^ 30)} low_near tt)

  pub high_fits : SFits w64 (held v +ℤ held s₅)
  high_fits = near_fits {x = v +ℤ s₅} high_near tt

  pub more_fits : SFits w64 (held (held v +ℤ held s₅) +ℤ pos (2 ^ 30))
  more_fits = near_fits {x = v +ℤ s₅ +ℤ pos (2 ^ 30)} more_near tt

  pub placed_fits : SFits w64 (held (held (held v +ℤ held s₅) +ℤ pos (2 ^ 30)) *ℤ pos (2 ^ 32))
  placed_fits = near_fits {x = (v +ℤ s₅ +ℤ pos (2 ^ 30)) *ℤ pos (2 ^ 32)} placed_near tt

  pub low_fits : SFits w64 (held v +ℤ pos (2 ^ 30))
  low_fits = near_fits {x = v +ℤ pos (2 ^ 30)} low_near tt

  pub whole_fits : SFits w64 whole
  whole_fits = near_fits {x = paired v (v +ℤ s₅)} whole_near tt

  pub few_steps : FewSteps steps
  few_steps = record { few = λ j l. omega (arith, sum_part word_levels (λ i. nat_abs (step_at steps i)) j l, small.few) }

  pub whole_is : held whole ≡ paired v (v +ℤ s₅)
  whole_is = (near_back {x = paired v (v +ℤ s₅)} whole_near tt).same

  pub few_held : FewValues (held v) steps
  few_held = rw v_near.same small

  pub pair_held : {r : ℤ} → r ≡ paired v (v +ℤ s₅) → held r ≡ paired v (v +ℤ s₅)
  pair_held e =
      ap (λ (z : ℤ). held z) e
      ∙ (near {x = paired v (v +ℤ s₅)} (record {
        most = pair_size v (v +ℤ s₅) (omega (arith, six_apart)) (omega (arith, size_add v s₅, six_apart));
      }) tt).same

  module _ {both : List ℤ} (twice : TwiceSteps steps both) {pair : ℤ} (e : pair ≡ paired v (v +ℤ s₅)) where
    unfoldable pub whole_pair : PairReady 5 pair both
    unfolding sum
    whole_pair = record {
      first = v;
      second = v +ℤ s₅;
      step = step_at steps;
      pair_is = e;
      steps_are = twice.twice;
      few_first = omega (arith, six_apart);
      few_second = omega (arith, size_add v s₅, six_apart);
    }

    pub pairs_are : {r : ℕ} → ((j : PairReady 5 pair both) → r ≡ row_mask j.second j.step 5 * 2 ^ 32 + row_mask j.first j.step 5) →
        r ≡ row_mask v (step_at steps) 6
    unfolding whole_pair
    pairs_are f = f whole_pair ∙ sym (row_mask_halves v (step_at steps) 5)

    -- the same by both halves of the pairs
    pub end_fits : SFits w64 (held pair +ℤ held (step_at both 4))
    end_fits = pair_fits 4 (lit< tt) whole_pair

    pub low_half : PairReady 4 (held pair) both
    low_half = low_pair 4 (lit< tt) whole_pair

    pub high_half : PairReady 4 (held (held pair +ℤ held (step_at both 4))) both
    high_half = high_pair 4 (lit< tt) whole_pair

    pub halves_are : {lo hi : ℕ} →
        ((j : PairReady 4 (held pair) both) → lo ≡ row_mask j.second j.step 4 * 2 ^ 32 + row_mask j.first j.step 4) →
        ((j : PairReady 4 (held (held pair +ℤ held (step_at both 4))) both) →
        hi ≡ row_mask j.second j.step 4 * 2 ^ 32 + row_mask j.first j.step 4) →
        bit_or lo ((hi * 2 ^ 2 ^ 4) % 2 ^ 64) ≡ row_mask v (step_at steps) 6
    unfolding whole_pair
    halves_are f g = both_pairs 4 (lit< tt) whole_pair f g ∙ sym (row_mask_halves v (step_at steps) 5)
