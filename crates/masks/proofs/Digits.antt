-- Digits of numbers: those of the numbers of a low and of a high half, and those of masks under each operation, any digit of it. Two masks with the same
-- digits are one; so exchanging more digits than a mask has does no harm where another mask bounds it.
use mathlib.Core.Path.{◌≡◌, refl, sym, ap, ◌∙◌}
use mathlib.Core.Bool.{Bool, true, false, not, ◌&&◌, ◌||◌}
use Prim.Native.Nat.{ℕ, zero, suc, ◌+◌, ◌-◌, ◌*◌, ◌/◌, ◌%◌, ◌^◌, ◌≤◌, ◌<◌}
use native.Mathlib.Omega.{arith}
use native.Mathlib.Nat.{pow-suc, zero-div, add-mul-div_right, add_comm, div-eq_of_lt, lt_of_lt_of_le, lt_of_le_of_lt}
use native.Mathlib.Numerals.{add-one}
use lib.Dec.{eqb}
use lib.Pow.{pow_pos, pow_mono, pow-add, shr-shr, mod-mod-pow, field, shl_exact}
use lib.Bits.{bit_and, bit_or, bit_xor, xor_shr, xor_mod, or_shr, or_mod, and_shr, and_mod, and_le_l, or_shifted_r}
use Rattle.lemmas.specs.Grid.{count}
use Rattle.masks.specs.Mask.{digit_of, has_digit, exchanged}
use Rattle.masks.proofs.Mask.{mask_cong, mask_own, has_mask, not_mask}

-- ---- the numbers below 2^k, and as many from 2^k on

digit_far : (d j i : ℕ) → (2 ^ (suc d + j) + i) / 2 ^ j % 2 ≡ i / 2 ^ j % 2
digit_far d j i =
    ap (λ (x : ℕ). (x + i) / 2 ^ j % 2) (pow-add 2 (suc d) j)
    ∙ ap (λ (x : ℕ). x / 2 ^ j % 2) (add_comm (2 ^ suc d * 2 ^ j) i)
    ∙ ap (λ (x : ℕ). x % 2) (add-mul-div_right i (2 ^ suc d) (pow_pos j))
    ∙ omega (arith, pow-suc 2 d)

-- the digits below k are the same
pub digit_kept : (k j i : ℕ) → j < k → digit_of (2 ^ k + i) j ≡ digit_of i j
digit_kept k j i l =
    let e : k ≡ suc (k - suc j) + j = omega arith in
    ap (λ (x : ℕ). (2 ^ x + i) / 2 ^ j % 2) e ∙ digit_far (k - suc j) j i

-- and digit k tells them apart
pub digit_low : (k i : ℕ) → i < 2 ^ k → digit_of i k ≡ 0
digit_low k i l = ap (λ (x : ℕ). x % 2) (div-eq_of_lt l)

pub digit_high : (k i : ℕ) → i < 2 ^ k → digit_of (2 ^ k + i) k ≡ 1
digit_high k i l =
    let e : 2 ^ k + i ≡ i + 1 * 2 ^ k = omega arith in
    ap (λ (x : ℕ). x / 2 ^ k % 2) e
    ∙ ap (λ (x : ℕ). x % 2) (add-mul-div_right i 1 (pow_pos k))
    ∙ ap (λ (x : ℕ). (x + 1) % 2) (div-eq_of_lt l)

pub has_kept : (k j i : ℕ) → j < k → has_digit (2 ^ k + i) j ≡ has_digit i j
unfolding has_digit
has_kept k j i l = ap (λ (x : ℕ). eqb x 1) (digit_kept k j i l)

pub has_low : (k i : ℕ) → i < 2 ^ k → has_digit i k ≡ false
unfolding has_digit
has_low k i l = ap (λ (x : ℕ). eqb x 1) (digit_low k i l)

pub has_high : (k i : ℕ) → i < 2 ^ k → has_digit (2 ^ k + i) k ≡ true
unfolding has_digit
has_high k i l = ap (λ (x : ℕ). eqb x 1) (digit_high k i l)

-- ---- digits of masks under operations

pub same_digits : (n a b : ℕ) → a < 2 ^ n → b < 2 ^ n → ((i : ℕ) → i < n → has_digit a i ≡ has_digit b i) → a ≡ b
same_digits n a b l m h = sym (mask_own n a l) ∙ mask_cong n (has_digit a) (has_digit b) h ∙ mask_own n b m

or_digit : (d e : ℕ) → d < 2 → e < 2 → eqb (bit_or d e) 1 ≡ eqb d 1 || eqb e 1
or_digit zero zero l m = refl
or_digit zero (suc zero) l m = refl
or_digit (suc zero) zero l m = refl
or_digit (suc zero) (suc zero) l m = refl
or_digit (suc (suc d)) e l m = absurd (omega arith)
or_digit zero (suc (suc e)) l m = absurd (omega arith)
or_digit (suc zero) (suc (suc e)) l m = absurd (omega arith)

and_digit : (d e : ℕ) → d < 2 → e < 2 → eqb (bit_and d e) 1 ≡ eqb d 1 && eqb e 1
and_digit zero zero l m = refl
and_digit zero (suc zero) l m = refl
and_digit (suc zero) zero l m = refl
and_digit (suc zero) (suc zero) l m = refl
and_digit (suc (suc d)) e l m = absurd (omega arith)
and_digit zero (suc (suc e)) l m = absurd (omega arith)
and_digit (suc zero) (suc (suc e)) l m = absurd (omega arith)

-- the two differ
abbrev pub unlike : Bool → Bool → Bool
unlike true b = not b
unlike false b = b

xor_digit : (d e : ℕ) → d < 2 → e < 2 → eqb (bit_xor d e) 1 ≡ unlike (eqb d 1) (eqb e 1)
xor_digit zero zero l m = refl
xor_digit zero (suc zero) l m = refl
xor_digit (suc zero) zero l m = refl
xor_digit (suc zero) (suc zero) l m = refl
xor_digit (suc (suc d)) e l m = absurd (omega arith)
xor_digit zero (suc (suc e)) l m = absurd (omega arith)
xor_digit (suc zero) (suc (suc e)) l m = absurd (omega arith)

pub digit_few : (m i : ℕ) → digit_of m i < 2
digit_few m i = omega arith

pub has_or : (a b i : ℕ) → has_digit (bit_or a b) i ≡ has_digit a i || has_digit b i
unfolding has_digit
has_or a b i =
    ap (λ (x : ℕ). eqb x 1) (ap (λ (x : ℕ). x % 2) (or_shr a b i) ∙ or_mod (a / 2 ^ i) (b / 2 ^ i) 1)
    ∙ or_digit (digit_of a i) (digit_of b i) (digit_few a i) (digit_few b i)

pub has_and : (a b i : ℕ) → has_digit (bit_and a b) i ≡ has_digit a i && has_digit b i
unfolding has_digit
has_and a b i =
    ap (λ (x : ℕ). eqb x 1) (ap (λ (x : ℕ). x % 2) (and_shr a b i) ∙ and_mod (a / 2 ^ i) (b / 2 ^ i) 1)
    ∙ and_digit (digit_of a i) (digit_of b i) (digit_few a i) (digit_few b i)

pub has_xor : (a b i : ℕ) → has_digit (bit_xor a b) i ≡ unlike (has_digit a i) (has_digit b i)
unfolding has_digit
has_xor a b i =
    ap (λ (x : ℕ). eqb x 1) (ap (λ (x : ℕ). x % 2) (xor_shr a b i) ∙ xor_mod (a / 2 ^ i) (b / 2 ^ i) 1)
    ∙ xor_digit (digit_of a i) (digit_of b i) (digit_few a i) (digit_few b i)

-- a digit by its test
pub digit_count : (m i : ℕ) → count (has_digit m i) ≡ digit_of m i
unfolding has_digit
digit_count m i = go (digit_of m i) (digit_few m i)
  where
    go : (d : ℕ) → d < 2 → count (eqb d 1) ≡ d
    go zero l = refl
    go (suc zero) l = refl
    go (suc (suc d)) l = absurd (omega arith)

pub digit_one : (i m : ℕ) → has_digit m i ≡ true → digit_of m i ≡ 1
digit_one i m e = sym (digit_count m i) ∙ ap count e

pub digit_zero : (i m : ℕ) → has_digit m i ≡ false → digit_of m i ≡ 0
digit_zero i m e = sym (digit_count m i) ∙ ap count e

pub has_zero : (i : ℕ) → has_digit 0 i ≡ false
unfolding has_digit
has_zero i = ap (λ (x : ℕ). eqb (x % 2) 1) (zero-div (2 ^ i))

pub has_one : has_digit 1 0 ≡ true
unfolding has_digit
has_one = refl

-- past the digits of a mask, and the digits below n of a remainder
pub has_past : (m n i : ℕ) → m < 2 ^ n → n ≤ i → has_digit m i ≡ false
unfolding has_digit
has_past m n i l h = ap (λ (x : ℕ). eqb (x % 2) 1) (div-eq_of_lt (lt_of_lt_of_le l (pow_mono h)))

pub has_shifted : (m s i : ℕ) → has_digit (m / 2 ^ s) i ≡ has_digit m (s + i)
unfolding has_digit
has_shifted m s i = ap (λ (x : ℕ). eqb (x % 2) 1) (shr-shr m s i)

pub has_lowest : (m n i : ℕ) → i < n → has_digit (m % 2 ^ n) i ≡ has_digit m i
unfolding has_digit
has_lowest m n i l =
    let e : n ≡ suc (n - suc i) + i = omega arith in
    ap (λ (x : ℕ). eqb (m % 2 ^ x / 2 ^ i % 2) 1) e
    ∙ ap (λ (x : ℕ). eqb (x % 2) 1) (field m (suc (n - suc i)) i)
    ∙ ap (λ (x : ℕ). eqb x 1) (remainder (m / 2 ^ i) (n - suc i))
  where
    remainder : (q j : ℕ) → q % 2 ^ suc j % 2 ≡ q % 2
    remainder q j = ap (λ (x : ℕ). q % 2 ^ x % 2) (sym (add-one j)) ∙ mod-mod-pow q j 1

pub has_exchanged : (n m i : ℕ) → m < 2 ^ n → i < n → has_digit (exchanged n m) i ≡ not (has_digit m i)
has_exchanged n m i l h =
    ap (λ (x : ℕ). has_digit (exchanged n x) i) (sym (mask_own n m l))
    ∙ ap (λ (x : ℕ). has_digit x i) (not_mask n (has_digit m))
    ∙ has_mask n (λ j. not (has_digit m j)) i h

-- `a & !b` in a machine number of w digits is the same as within the n digits that a and b have
pub and_exchanged : (n w a b : ℕ) → n ≤ w → a < 2 ^ n → b < 2 ^ n → bit_and a (exchanged w b) ≡ bit_and a (exchanged n b)
and_exchanged n w a b h l m =
    same_digits n (bit_and a (exchanged w b)) (bit_and a (exchanged n b))
    (lt_of_le_of_lt (and_le_l a (exchanged w b)) l)
    (lt_of_le_of_lt (and_le_l a (exchanged n b)) l)
    (λ i k. has_and a (exchanged w b) i
    ∙ ap (λ t. has_digit a i && t) (has_exchanged w b i (lt_of_lt_of_le m (pow_mono h)) (omega arith) ∙ sym (has_exchanged n b i m k))
    ∙ sym (has_and a (exchanged n b) i))

-- `lo | hi << 2^n`: two masks of 2^n digits side by side, in a machine number that holds both
pub side_by_side : (n w lo hi : ℕ) → 2 ^ suc n ≤ w → lo < 2 ^ 2 ^ n → hi < 2 ^ 2 ^ n → bit_or lo ((hi * 2 ^ 2 ^ n) % 2 ^ w) ≡ hi * 2 ^ 2 ^ n + lo
side_by_side n w lo hi h l m =
    ap (bit_or lo) (shl_exact (2 ^ n) (2 ^ n) w m (omega (arith, pow-suc 2 n))) ∙ or_shifted_r hi (2 ^ n) lo l
