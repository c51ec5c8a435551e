-- Sums, products and tests over the places 0 to n − 1: what follows from what holds at each place. All by induction on n, the last place apart.
use mathlib.Core.Path.{◌≡◌, refl, sym, ap, ap₂, ◌∙◌}
use mathlib.Core.Bool.{Bool, true, false, ◌&&◌}
use Prim.Native.Nat.{ℕ, zero, suc, ◌+◌, ◌*◌, ◌^◌, ◌≤◌, ◌<◌}
use native.Mathlib.Omega.{arith}
use native.Mathlib.Nat.{mul-le-mul, le_refl, not-suc-le-zero, pow-zero, pow-suc}
use native.Mathlib.Decide.{ℕ_discrete}
use lib.IntN.{ℤ, ◌+ℤ◌}
use Rattle.lemmas.specs.Sums.{sum, total, product, every}

-- what holds at each place below n + 1 holds at each below n, and at n
pub below : {P : ℕ → Type 0} {n : ℕ} → ((i : ℕ) → i < suc n → P i) → (i : ℕ) → i < n → P i
below h i l = h i (omega arith)

pub top : {P : ℕ → Type 0} {n : ℕ} → ((i : ℕ) → i < suc n → P i) → P n
top {n = n} h = h n (omega arith)

-- ---- sums

pub sum_cong : (n : ℕ) (f g : ℕ → ℕ) → ((i : ℕ) → i < n → f i ≡ g i) → sum n f ≡ sum n g
unfolding sum
sum_cong zero f g h = refl
sum_cong (suc n) f g h = ap₂ ◌+◌ (sum_cong n f g (below h)) (top h)

pub sum_mono : (n : ℕ) (f g : ℕ → ℕ) → ((i : ℕ) → i < n → f i ≤ g i) → sum n f ≤ sum n g
unfolding sum
sum_mono zero f g h = omega arith
sum_mono (suc n) f g h = omega (arith, sum_mono n f g (below h), top h)

pub sum_add : (n : ℕ) (f g : ℕ → ℕ) → sum n (λ i. f i + g i) ≡ sum n f + sum n g
unfolding sum
sum_add zero f g = refl
sum_add (suc n) f g = omega (arith, sum_add n f g)

pub sum_zero : (n : ℕ) (f : ℕ → ℕ) → ((i : ℕ) → i < n → f i ≡ 0) → sum n f ≡ 0
unfolding sum
sum_zero zero f h = refl
sum_zero (suc n) f h = omega (arith, sum_zero n f (below h), top h)

-- every place alike
pub sum_same : (n a : ℕ) → sum n (λ i. a) ≡ n * a
unfolding sum
sum_same zero a = omega arith
sum_same (suc n) a = omega (arith, sum_same n a)

-- the first place apart
pub sum_front : (n : ℕ) (f : ℕ → ℕ) → sum (suc n) f ≡ f 0 + sum n (λ i. f (suc i))
unfolding sum
sum_front zero f = omega arith
sum_front (suc n) f = omega (arith, sum_front n f)

-- one place is at most the whole
pub sum_part : (n : ℕ) (f : ℕ → ℕ) (a : ℕ) → a < n → f a ≤ sum n f
unfolding sum
sum_part zero f a l = absurd (not-suc-le-zero l)
sum_part (suc n) f a l = go (ℕ_discrete a n) (sum_part n f a)
  where
    go : Dec (a ≡ n) → (a < n → f a ≤ sum n f) → f a ≤ sum n f + f n
    go (yes e) ih = omega (arith, ap f e)
    go (no e) ih = omega (arith, ih (omega arith))

-- the same of whole numbers
pub total_cong : (n : ℕ) (f g : ℕ → ℤ) → ((i : ℕ) → i < n → f i ≡ g i) → total n f ≡ total n g
unfolding total
total_cong zero f g h = refl
total_cong (suc n) f g h = ap₂ ◌+ℤ◌ (total_cong n f g (below h)) (top h)

-- ---- products

pub product_cong : (n : ℕ) (f g : ℕ → ℕ) → ((i : ℕ) → i < n → f i ≡ g i) → product n f ≡ product n g
unfolding product
product_cong zero f g h = refl
product_cong (suc n) f g h = ap₂ ◌*◌ (product_cong n f g (below h)) (top h)

pub product_mono : (n : ℕ) (f g : ℕ → ℕ) → ((i : ℕ) → i < n → f i ≤ g i) → product n f ≤ product n g
unfolding product
product_mono zero f g h = le_refl 1
product_mono (suc n) f g h = mul-le-mul (product_mono n f g (below h)) (top h)

pub product_one : (n : ℕ) (f : ℕ → ℕ) → ((i : ℕ) → i < n → f i ≡ 1) → product n f ≡ 1
unfolding product
product_one zero f h = refl
product_one (suc n) f h = ap₂ ◌*◌ (product_one n f (below h)) (top h)

pub product_positive : (n : ℕ) (f : ℕ → ℕ) → ((i : ℕ) → i < n → 0 < f i) → 0 < product n f
unfolding product
product_positive zero f h = le_refl 1
product_positive (suc n) f h = mul-le-mul (product_positive n f (below h)) (top h)

-- every factor alike
pub product_power : (n : ℕ) (f : ℕ → ℕ) (m : ℕ) → ((i : ℕ) → i < n → f i ≡ m) → product n f ≡ m ^ n
unfolding product
product_power zero f m h = sym (pow-zero m)
product_power (suc n) f m h = ap₂ ◌*◌ (product_power n f m (below h)) (top h) ∙ sym (pow-suc m n)

-- one factor k times as great, the others kept
pub product_scaled : (n : ℕ) (f g : ℕ → ℕ) (k a : ℕ) → a < n → ((i : ℕ) → i < n → (a ≡ i → ⊥) → g i ≡ f i) → g a ≡ k * f a → product n g ≡ k * product n f
unfolding product
product_scaled zero f g k a l kept e = absurd (not-suc-le-zero l)
product_scaled (suc n) f g k a l kept e = go (ℕ_discrete a n) (product_scaled n f g k a)
  where
    go : Dec (a ≡ n) → (a < n → ((i : ℕ) → i < n → (a ≡ i → ⊥) → g i ≡ f i) → g a ≡ k * f a → product n g ≡ k * product n f)
        → product n g * g n ≡ k * (product n f * f n)
    go (yes q) ih =
        let p : product n g ≡ product n f = product_cong n g f (λ i j. kept i (omega arith) (λ z. omega arith)) in
        let s : g n ≡ k * f n = rw q at e in
        rw (p, s) (omega arith)
    go (no q) ih =
        let p : product n g ≡ k * product n f = ih (omega arith) (below kept) e in
        let s : g n ≡ f n = kept n (omega arith) q in
        rw (p, s) (omega arith)

-- ---- tests

-- two tests in one
pub and_left : (b c : Bool) → b && c ≡ true → b ≡ true
and_left true c h = refl
and_left false c h = h

pub and_right : (b c : Bool) → b && c ≡ true → c ≡ true
and_right true c h = h
and_right false c h = let z : ◌≡◌ {A = ℕ} 0 1 = cc in absurd (omega arith)

pub and_both : {b c : Bool} → b ≡ true → c ≡ true → b && c ≡ true
and_both h k = rw (h, k)

pub and_false : (b : Bool) → b && false ≡ false
and_false true = refl
and_false false = refl

pub every_all : (n : ℕ) (p : ℕ → Bool) → every n p ≡ true → (i : ℕ) → i < n → p i ≡ true
unfolding every
every_all zero p h i l = absurd (not-suc-le-zero l)
every_all (suc n) p h i l = go (ℕ_discrete i n) (every_all n p (and_left (every n p) (p n) h) i)
  where
    go : Dec (i ≡ n) → (i < n → p i ≡ true) → p i ≡ true
    go (yes e) ih = ap p e ∙ and_right (every n p) (p n) h
    go (no e) ih = ih (omega arith)

pub all_every : (n : ℕ) (p : ℕ → Bool) → ((i : ℕ) → i < n → p i ≡ true) → every n p ≡ true
unfolding every
all_every zero p h = refl
all_every (suc n) p h = rw (all_every n p (below h), top h)

-- one place where the test fails
pub one_not_every : (n : ℕ) (p : ℕ → Bool) (i : ℕ) → i < n → p i ≡ false → every n p ≡ false
one_not_every n p i l e = go (every n p) refl
  where
    go : (b : Bool) → every n p ≡ b → b ≡ false
    go true h = sym (every_all n p h i l) ∙ e
    go false h = refl
