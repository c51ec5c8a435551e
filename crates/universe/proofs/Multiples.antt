-- Multiples of a length s and of its double: the two halves of a stretch of length 2 × s that begins at a multiple of it.
use mathlib.Core.Path.{◌≡◌, refl, ap}
use mathlib.Core.Logic.{◌⊎◌, inl, inr}
use Prim.Native.Nat.{ℕ, zero, suc, ◌+◌, ◌-◌, ◌*◌, ◌/◌, ◌%◌, ◌≤◌, ◌<◌}
use native.Mathlib.Omega.{arith}
use native.Mathlib.Decide.{dec_lt}
use native.Mathlib.Nat.{mul-le-mul, le_refl, div-add-mod', mul-mod_left, div-lt_iff_lt-mul, div-eq_of_lt-le}

-- a multiple, by the remainder and by the quotient
multiple : (x s : ℕ) → x % s ≡ 0 → x ≡ x / s * s
multiple x s h = omega (arith, div-add-mod' x s)

is_multiple : {x : ℕ} (q s : ℕ) → x ≡ q * s → x % s ≡ 0
is_multiple q s e = rw e (mul-mod_left q s)

-- a multiple of the double is one of the single, and so is the middle
pub low_multiple : (x s : ℕ) → x % (2 * s) ≡ 0 → x % s ≡ 0
low_multiple x s h =
    let e = multiple x (2 * s) h in
    is_multiple (2 * (x / (2 * s))) s (omega arith)

pub high_multiple : (x s : ℕ) → x % (2 * s) ≡ 0 → (x + s) % s ≡ 0
high_multiple x s h =
    let e = multiple x (2 * s) h in
    is_multiple (2 * (x / (2 * s)) + 1) s (omega arith)

-- the middle is inside where the beginning is
pub middle_inside : (n x s : ℕ) → 0 < s → x % (2 * s) ≡ 0 → x < n * (2 * s) → x + s < n * (2 * s)
middle_inside n x s p h k =
    let q : x / (2 * s) < n = (div-lt_iff_lt-mul {k = 2 * s} (omega arith)).1 k in
    omega (arith, multiple x (2 * s) h, mul-le-mul q (le_refl (2 * s)))

-- a multiple of the single is one of the double, or a middle
pub low_or_middle : (x s : ℕ) → x % s ≡ 0 → (x % (2 * s) ≡ 0) ⊎ ((s ≤ x) × ((x - s) % (2 * s) ≡ 0))
low_or_middle x s h = go (x / s % 2) refl
  where
    go : (r : ℕ) → x / s % 2 ≡ r → (x % (2 * s) ≡ 0) ⊎ ((s ≤ x) × ((x - s) % (2 * s) ≡ 0))
    go zero e =
        let q : x / s ≡ 2 * (x / s / 2) = omega arith in
        inl (is_multiple (x / s / 2) (2 * s) (omega (arith, multiple x s h, ap (λ (n : ℕ). n * s) q)))
    go (suc r) e =
        let q : x / s ≡ suc (2 * (x / s / 2)) = omega arith in
        let y : x ≡ x / s / 2 * (2 * s) + s = omega (arith, multiple x s h, ap (λ (n : ℕ). n * s) q) in
        inr (omega arith, is_multiple (x / s / 2) (2 * s) (omega arith))

-- which half holds a place y of the stretch that begins at x
pub low_place : (x y s : ℕ) → x % (2 * s) ≡ 0 → x ≤ y → y < x + s → y / s % 2 ≡ 0
low_place x y s h l k =
    let q : y / s ≡ 2 * (x / (2 * s)) = div-eq_of_lt-le s (omega (arith, multiple x (2 * s) h)) (omega (arith, multiple x (2 * s) h)) in
    omega arith

pub high_place : (x y s : ℕ) → x % (2 * s) ≡ 0 → x + s ≤ y → y < x + 2 * s → y / s % 2 ≡ 1
high_place x y s h l k =
    let q : y / s ≡ 2 * (x / (2 * s)) + 1 = div-eq_of_lt-le s (omega (arith, multiple x (2 * s) h)) (omega (arith, multiple x (2 * s) h)) in
    omega arith

-- and the other way round
pub in_low_lem : (x y s : ℕ) → x % (2 * s) ≡ 0 → y < x + 2 * s → y / s % 2 ≡ 0 → y < x + s
in_low_lem x y s h k e = go (dec_lt y (x + s))
  where
    go : Dec (y < x + s) → y < x + s
    go (yes l) = l
    go (no n) = absurd (omega (arith, high_place x y s h (omega arith) k))

pub in_high_lem : (x y s : ℕ) → x % (2 * s) ≡ 0 → x ≤ y → y / s % 2 ≡ 1 → x + s ≤ y
in_high_lem x y s h l e = go (dec_lt y (x + s))
  where
    go : Dec (y < x + s) → x + s ≤ y
    go (yes k) = absurd (omega (arith, low_place x y s h l k))
    go (no n) = omega arith
