-- Lengths that are powers of two: 1 is doubled fewer than 64 times to them, and to no length that oversteps one that is small. A block's sides are such powers.
use Prim.Native.Nat.{ℕ, zero, suc, ◌/◌, ◌%◌, ◌^◌, ◌≤◌, ◌<◌}
use mathlib.Core.Path.{◌≡◌, refl, sym, ap, ◌∙◌}
use mathlib.Core.List.{List}
use native.Mathlib.Omega.{arith}
use native.Mathlib.Nat.{mod-eq_of_lt, mod-le, mod-lt, pow-suc}
use lib.Count.{count_trailing_zeros, under, trailing_of_zero}
use lib.Dec.{lit<}
use lib.ListN.{get_or}
use lib.Pow.{pow_mono}
use Rattle.universe.specs.declared.Universe.{Universe}
use Rattle.universe.specs.Universe.{most_axes, longest_side, block_side}
use Rattle.convert.specs.Small.{SmallPlaces}
use Rattle.pruned.proofs.Doublings.{times_few, power_is}
use Rattle.at_once.specs.Words.{doublings_of}
use Rattle.at_once.specs.Moves.{times_of, lengths_by, SmallTimes, PowerPlace}

-- ---- how often 1 is doubled
pub doublings_few : (n : ℕ) → doublings_of n < 64
doublings_few n = mod-lt (count_trailing_zeros 64 n) (lit< tt)

-- a number is no less than 1 doubled as often as there are zeros behind its digits
zeros_least : (d n : ℕ) → 1 ≤ n → 2 ^ count_trailing_zeros d n ≤ n
unfolding count_trailing_zeros
zeros_least zero n h = h
zeros_least (suc d) n h = by (n % 2) refl (zeros_least d (n / 2))
  where
    by : (r : ℕ) → n % 2 ≡ r → (1 ≤ n / 2 → 2 ^ count_trailing_zeros d (n / 2) ≤ n / 2) → 2 ^ under r (count_trailing_zeros d (n / 2)) ≤ n
    by zero e rec = omega (arith, pow-suc 2 (count_trailing_zeros d (n / 2)), rec (omega arith))
    by (suc r) e rec = h

pub power_short : (n : ℕ) → n ≤ longest_side → 2 ^ doublings_of n ≤ longest_side
power_short zero h = let e : doublings_of 0 ≡ 0 = ap (λ (k : ℕ). k % 64) (trailing_of_zero 64) in rw e (omega arith)
power_short (suc n) h =
    omega (
      arith,
      pow_mono {i = doublings_of (suc n)} {j = count_trailing_zeros 64 (suc n)} (mod-le (count_trailing_zeros 64 (suc n)) 64),
      zeros_least 64 (suc n) (omega arith),
    )

-- a side of a block
module _ (u : Universe) (l i : ℕ) {side : ℕ} (is : side ≡ block_side u l i) (short : side ≤ longest_side) where
  pub side_power : PowerPlace side
  side_power =
      let few : count_trailing_zeros 64 side < 64 = times_few u l i is short refl in
      record {
        short = record { most = short };
        power = sym (power_is u l i is short refl) ∙ ap (λ (k : ℕ). 2 ^ k) (sym (mod-eq_of_lt few));
      }

-- ---- along the axes
pub length_at : (times : List ℕ) (axis : ℕ) → axis < most_axes → get_or (lengths_by times) axis 0 ≡ 2 ^ get_or times axis 0
length_at times zero l = refl
length_at times (suc zero) l = refl
length_at times (suc (suc zero)) l = refl
length_at times (suc (suc (suc zero))) l = refl
length_at times (suc (suc (suc (suc axis)))) l = absurd (omega arith)

pub times_at : (side : List ℕ) (axis : ℕ) → axis < most_axes → get_or (times_of side) axis 0 ≡ doublings_of (get_or side axis 0)
times_at side zero l = refl
times_at side (suc zero) l = refl
times_at side (suc (suc zero)) l = refl
times_at side (suc (suc (suc zero))) l = refl
times_at side (suc (suc (suc (suc axis)))) l = absurd (omega arith)

module _ {side : List ℕ} (few : SmallPlaces side) where
  length_short : (j : ℕ) → get_or (lengths_by (times_of side)) j 0 ≤ longest_side
  length_short zero = power_short (get_or side 0 0) (few.place 0).most
  length_short (suc zero) = power_short (get_or side 1 0) (few.place 1).most
  length_short (suc (suc zero)) = power_short (get_or side 2 0) (few.place 2).most
  length_short (suc (suc (suc zero))) = power_short (get_or side 3 0) (few.place 3).most
  length_short (suc (suc (suc (suc j)))) = omega arith

  pub small_times : SmallTimes (times_of side)
  small_times =
      record {
        few = λ j l. rw (times_at side j l) (doublings_few (get_or side j 0));
        short = record { place = λ j. record { most = length_short j } };
      }
