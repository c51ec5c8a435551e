-- Sums of whole numbers by their two parts: where each term is p i − n i, the total is Σ p − Σ n, so that facts of totals are facts of sums
-- of natural numbers. And weighted sums, Σ u i · x i: they grow with x, and doubled centres lie between doubled ends.
use Prim.Native.Nat.{ℕ, zero, suc, ◌+◌, ◌*◌, ◌≤◌, ◌<◌}
use mathlib.Core.Path.{◌≡◌, refl, ap}
use native.Mathlib.Omega.{arith}
use native.Mathlib.Nat.{mul-le-mul_left, not-suc-le-zero}
use native.Mathlib.Decide.{ℕ_discrete}
use lib.IntN.{ℤ}
use lib.Signed.{◌≤ℤ◌}
use Rattle.lemmas.specs.Sums.{sum, total}
use Rattle.lemmas.proofs.Sums.{below, top, sum_cong, sum_mono}
use Rattle.lemmas.proofs.Whole.{Is, is_nat, is_add, le_in, le_out}

-- whole numbers in order
pub le_then_le : {a b c : ℤ} → a ≤ℤ b → b ≤ℤ c → a ≤ℤ c
le_then_le h k = le_in (omega (arith, le_out h, le_out k))

-- the parts of a total are the sums of the parts
pub total_is : (n : ℕ) (f : ℕ → ℤ) (p q : ℕ → ℕ) → ((i : ℕ) → i < n → Is (f i) (p i) (q i)) → Is (total n f) (sum n p) (sum n q)
unfolding total sum
total_is zero f p q h = is_nat 0
total_is (suc n) f p q h = is_add (total_is n f p q (below h)) (top h)

-- weighted sums grow with what they weigh
pub weighted_le : (n : ℕ) (u x y : ℕ → ℕ) → ((i : ℕ) → i < n → x i ≤ y i) → sum n (λ i. u i * x i) ≤ sum n (λ i. u i * y i)
weighted_le n u x y h = sum_mono n _ _ (λ i l. mul-le-mul_left (u i) (h i l))

-- where every x is below its y, by at least the weights themselves
pub weighted_lt : (n : ℕ) (u x y : ℕ → ℕ) → ((i : ℕ) → i < n → x i < y i) → sum n (λ i. u i * x i) + sum n u ≤ sum n (λ i. u i * y i)
unfolding sum
weighted_lt zero u x y h = omega arith
weighted_lt (suc n) u x y h = omega (arith, weighted_lt n u x y (below h), mul-le-mul_left (u n) (top h))

-- a weighted sum of sums
pub weighted_add : (n : ℕ) (u x y : ℕ → ℕ) → sum n (λ i. u i * (x i + y i)) ≡ sum n (λ i. u i * x i) + sum n (λ i. u i * y i)
unfolding sum
weighted_add zero u x y = refl
weighted_add (suc n) u x y = omega (arith, weighted_add n u x y)

-- one of those weighed made greater by k, the others kept
pub weighted_moved : (n : ℕ) (u x y : ℕ → ℕ) (a k : ℕ) → a < n → ((i : ℕ) → i < n → (a ≡ i → ⊥) → y i ≡ x i) → y a ≡ x a + k
    → sum n (λ i. u i * y i) ≡ sum n (λ i. u i * x i) + u a * k
unfolding sum
weighted_moved zero u x y a k l kept e = absurd (not-suc-le-zero l)
weighted_moved (suc n) u x y a k l kept e = go (ℕ_discrete a n) (weighted_moved n u x y a k)
  where
    go : Dec (a ≡ n) → (a < n → ((i : ℕ) → i < n → (a ≡ i → ⊥) → y i ≡ x i) → y a ≡ x a + k → sum n (λ i. u i * y i) ≡ sum n (λ i. u i * x i) + u a * k)
        → sum n (λ i. u i * y i) + u n * y n ≡ sum n (λ i. u i * x i) + u n * x n + u a * k
    go (yes q) ih =
        let p : sum n (λ i. u i * y i) ≡ sum n (λ i. u i * x i) =
        sum_cong n (λ i. u i * y i) (λ i. u i * x i) (λ i j. ap (λ (t : ℕ). u i * t) (kept i (omega arith) (λ z. omega arith))) in
        let s : y n ≡ x n + k = rw q at e in
        rw (q, p, s) (omega arith)
    go (no q) ih =
        let p : sum n (λ i. u i * y i) ≡ sum n (λ i. u i * x i) + u a * k = ih (omega arith) (below kept) e in
        let s : y n ≡ x n = kept n (omega arith) q in
        rw (p, s) (omega arith)

-- no weight, no sum
pub weightless : (n : ℕ) (u x : ℕ → ℕ) → sum n u ≡ 0 → sum n (λ i. u i * x i) ≡ 0
unfolding sum
weightless zero u x e = refl
weightless (suc n) u x e =
    let e' : u n ≡ 0 = omega arith in
    omega (arith, weightless n u x (omega arith), ap (λ (t : ℕ). t * x n) e')

-- twice a centre, 2c + 1, is at least one more than twice a low end, and at least one less than twice a high end
pub centre_above : (n : ℕ) (u low c : ℕ → ℕ) → ((i : ℕ) → i < n → low i ≤ c i) → 2 * sum n (λ i. u i * low i) + sum n u ≤ sum n (λ i. u i * (2 * c i + 1))
unfolding sum
centre_above zero u low c h = omega arith
centre_above (suc n) u low c h = omega (arith, mul-le-mul_left (u n) (top h), centre_above n u low c (below h))

pub centre_below : (n : ℕ) (u c high : ℕ → ℕ) → ((i : ℕ) → i < n → c i < high i) → sum n (λ i. u i * (2 * c i + 1)) + sum n u ≤ 2 * sum n (λ i. u i * high i)
unfolding sum
centre_below zero u c high h = omega arith
centre_below (suc n) u c high h = omega (arith, mul-le-mul_left (u n) (top h), centre_below n u c high (below h))

-- twice the centre of a unit is its low end and its high end together
pub centre_between : (n : ℕ) (u low high : ℕ → ℕ) → ((i : ℕ) → i < n → high i ≡ low i + 1)
    → sum n (λ i. u i * low i) + sum n (λ i. u i * high i) ≡ sum n (λ i. u i * (2 * low i + 1))
unfolding sum
centre_between zero u low high h = refl
centre_between (suc n) u low high h =
    omega (arith, centre_between n u low high (below h), ap (λ (t : ℕ). u n * t) (top h))
