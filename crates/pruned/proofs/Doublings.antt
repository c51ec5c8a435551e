-- The length of a half is a power of two: 1 doubled as often as there are zeros behind its digit. So a coefficient times that length is the coefficient shifted
-- left, below 0 too, as a word of 64 digits holds it; and a length to which 1 would be doubled 64 times or more is 0.
use Prim.Native.Nat.{ℕ, zero, suc, ◌+◌, ◌*◌, ◌-◌, ◌%◌, ◌^◌, ◌≤◌, ◌<◌}
use mathlib.Core.Path.{◌≡◌, refl, sym, ap, ◌∙◌}
use mathlib.Core.Bool.{Bool, true, false, cond}
use native.Mathlib.Omega.{arith}
use native.Mathlib.Nat.{mod-eq_of_lt, mul-mod_left, add-mul-mod_self_left, mul-le-mul, mul-one, one-mul, le_of_suc-le-suc}
use native.Mathlib.Decide.{dec_lt}
use lib.Bits.{shifted_half, shifted_even}
use borrow.Author.Tests.{ltb-true, ltb-false}
use lib.Count.{count_trailing_zeros}
use lib.Dec.{ltb}
use lib.IntN.{ℤ, pos, negsuc, neg_ℤ, nat_abs, ◌*ℤ◌}
use lib.Pow.{pow-add, pow-lt, pow_mono, pow_pos}
use mir.Syntax.{w64}
use mir.Val.{to_z, of_z}
use Rattle.lemmas.proofs.Machine.{near, size_mul}
use Rattle.universe.specs.declared.Universe.{Universe}
use Rattle.universe.specs.Universe.{longest_side, bits_along, halvings, block_side}
use Rattle.convert.specs.Small.{SmallCoefficient, SmallPlace}
use Rattle.pruned.specs.Nodes.{doubled, moving_below, first_ball_side, amount_limit}

-- ---- 1 doubled
pub doubled_none : {times : ℕ} → 64 ≤ times → doubled times ≡ 0
doubled_none {times} h =
    let e : times ≡ times - 64 + 64 = omega arith in
    ap (λ (k : ℕ). 2 ^ k % 2 ^ 64) e ∙ ap (λ (x : ℕ). x % 2 ^ 64) (pow-add 2 (times - 64) 64) ∙ mul-mod_left (2 ^ (times - 64)) (2 ^ 64)

pub doubled_few : {times : ℕ} → times < 64 → doubled times ≡ 2 ^ times
doubled_few {times} h = mod-eq_of_lt (pow-lt {i = times} {j = 64} h)

-- where there is a half, no centre is asked of a block that is none
pub no_centre : {times : ℕ} {centre : Bool} → times < 64 → (centre ≡ true → doubled times ≡ 0) → centre ≡ false
no_centre {times = times} {centre = true} h f = absurd (omega (arith, f refl, doubled_few h, pow_pos times))
no_centre {times = times} {centre = false} h f = refl

-- ---- which sides of halfspaces move
module _ (times code : ℕ) {below : ℕ} (is : below ≡ moving_below times) where
  below_is : {b : Bool} → ltb times 64 ≡ b → below ≡ cond b first_ball_side 512
  below_is t = is ∙ ap (λ (b : Bool). cond b first_ball_side 512) t

  pub moving : 512 ≤ code → code < below → (times < 64) × (code < first_ball_side)
  moving from h = by (ltb times 64) refl
    where
      by : (b : Bool) → ltb times 64 ≡ b → (times < 64) × (code < first_ball_side)
      by true t = (ltb-true times 64 t, omega (arith, below_is t))
      by false t = absurd (omega (arith, below_is t))

  pub still : below ≤ code → code < first_ball_side → 64 ≤ times
  still h upto = by (ltb times 64) refl
    where
      by : (b : Bool) → ltb times 64 ≡ b → 64 ≤ times
      by true t = absurd (omega (arith, below_is t))
      by false t = ltb-false times 64 t

-- ---- a power of two by the zeros behind its digit
zeros_behind : (d m i : ℕ) → m % 2 ≡ 1 → i < d → count_trailing_zeros d (m * 2 ^ i) ≡ i
unfolding count_trailing_zeros
zeros_behind zero m i o h = absurd (omega arith)
zeros_behind (suc d) m zero o h = rw (mul-one, o)
zeros_behind (suc d) m (suc i) o h = rw (shifted_even, shifted_half, zeros_behind d m i o (le_of_suc-le-suc h))

power_few : (n : ℕ) → 2 ^ n ≤ longest_side → n < 64
power_few n h = by (dec_lt n 64)
  where
    by : Dec (n < 64) → n < 64
    by (yes k) = k
    by (no k) = absurd (omega (arith, pow_mono {i = 64} {j = n} (omega arith)))

-- the side of a block
module _ (u : Universe) (l i : ℕ) {side : ℕ} (is : side ≡ block_side u l i) (short : side ≤ longest_side) {times : ℕ} (told : times ≡ count_trailing_zeros 64 side)
  where
    abbrev n : ℕ
    n = bits_along u i - halvings u l i

    side_is : side ≡ 2 ^ n
    unfolding block_side
    side_is = is

    few : n < 64
    few = power_few n (rw side_is at short)

    times_are : times ≡ n
    times_are = told ∙ ap (count_trailing_zeros 64) (side_is ∙ sym (one-mul (2 ^ n))) ∙ zeros_behind 64 1 n refl few

    pub times_few : times < 64
    times_few = rw times_are few

    pub power_is : 2 ^ times ≡ side
    power_is = ap (λ (k : ℕ). 2 ^ k) times_are ∙ sym side_is

    pub doubled_is : doubled times ≡ side
    doubled_is = doubled_few times_few ∙ power_is

-- ---- a whole number shifted left
spread : (w d s p k : ℕ) → d + s ≡ w → p ≡ suc k → s * p ≤ w → d * p ≡ w - s * p + w * k
spread w d s p k e f h = omega (arith, ap (λ (t : ℕ). t * p) e, ap (λ (t : ℕ). w * t) f)

wrapped : (d s n : ℕ) → d + s ≡ 2 ^ 64 → 0 < s * 2 ^ n → s * 2 ^ n < 2 ^ 63 → d * 2 ^ n % 2 ^ 64 ≡ 2 ^ 64 - s * 2 ^ n
wrapped d s n e some h =
    let f : 2 ^ n ≡ suc (2 ^ n - 1) = omega (arith, pow_pos n) in
    ap (λ (x : ℕ). x % 2 ^ 64) (spread (2 ^ 64) d s (2 ^ n) (2 ^ n - 1) e f (omega arith))
    ∙ add-mul-mod_self_left (2 ^ 64 - s * 2 ^ n) (2 ^ 64) (2 ^ n - 1)
    ∙ mod-eq_of_lt (omega arith)

shifted : (c : ℤ) (n : ℕ) → nat_abs c < 2 ^ 63 → nat_abs c * 2 ^ n < 2 ^ 63 → of_z w64 c * 2 ^ n % 2 ^ 64 ≡ of_z w64 (c *ℤ pos (2 ^ n))
shifted (pos m) n k h = mod-eq_of_lt (omega arith)
shifted (negsuc m) n k h =
    let some : 0 < suc m * 2 ^ n = omega (arith, pow_pos n) in
    let e : suc m * 2 ^ n ≡ suc (suc m * 2 ^ n - 1) = omega arith in
    wrapped (2 ^ 64 - suc m) (suc m) n (omega arith) some h ∙ ap (λ (p : ℕ). 2 ^ 64 - p) e ∙ sym (ap (λ (p : ℕ). of_z w64 (neg_ℤ (pos p))) e)

module _ {c : ℤ} (times : ℕ) (sc : SmallCoefficient c) (sl : SmallPlace (2 ^ times)) where
  product_few : nat_abs c * 2 ^ times ≤ amount_limit
  product_few = mul-le-mul sc.most sl.most

  product_size : nat_abs (c *ℤ pos (2 ^ times)) ≤ amount_limit
  product_size = rw (size_mul c (pos (2 ^ times))) product_few

  pub shifted_is : to_z w64 (of_z w64 c * 2 ^ times % 2 ^ 64) ≡ c *ℤ pos (2 ^ times)
  shifted_is =
      ap (to_z w64) (shifted c times (omega (arith, sc.most)) (omega (arith, product_few)))
      ∙ (near {x = c *ℤ pos (2 ^ times)} (record { most = product_size }) tt).same
