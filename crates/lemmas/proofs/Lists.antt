-- Lists of numbers: how often a number stands in one, and what stands at the places of a list turned round. All by induction on the list: of a list of
-- numbers below d the occurrences of all numbers add up to its length, since every place counts for one number.
use mathlib.Core.Path.{◌≡◌, refl, sym, ap, ◌∙◌}
use mathlib.Core.List.{List, [], ◌∷◌, ◌++◌, reverse, reverse-cons}
use Prim.Native.Nat.{ℕ, zero, suc, ◌+◌, ◌-◌, ◌≤◌, ◌<◌}
use native.Mathlib.Omega.{arith}
use native.Mathlib.Nat.{not-suc-le-zero}
use native.Mathlib.Decide.{ℕ_discrete}
use lib.Dec.{eqb}
use lib.ListN.{length, get_or, take, length-reverse, get_or-append}
use lib.Seq.{take-suc, get_or_at}
use borrow.Author.Tests.{eq-eqb, ne_eqb}
use Rattle.lemmas.specs.Sums.{sum}
use Rattle.lemmas.specs.Grid.{count}
use Rattle.lemmas.specs.Lists.{occurrences, Below, none, more}
use Rattle.lemmas.proofs.Sums.{sum_add, sum_zero}

-- ---- how often a number stands in a list

pub occurrences_append : (i : ℕ) (xs ys : List ℕ) → occurrences i (xs ++ ys) ≡ occurrences i xs + occurrences i ys
unfolding occurrences
occurrences_append i [] ys = omega arith
occurrences_append i (x ∷ xs) ys = omega (arith, occurrences_append i xs ys)

-- one place more
pub occurrences_next : (i : ℕ) (xs : List ℕ) (l : ℕ) → l < length xs
    → occurrences i (take (suc l) xs) ≡ occurrences i (take l xs) + count (eqb (get_or xs l 0) i)
unfolding occurrences
occurrences_next i xs l h = rw (take-suc xs l 0 h, occurrences_append) (omega arith)

-- ---- numbers below d

pub below_append : {d : ℕ} {xs ys : List ℕ} → Below d xs → Below d ys → Below d (xs ++ ys)
below_append none b = b
below_append (more h a) b = more h (below_append a b)

pub below_more : {d : ℕ} {xs : List ℕ} → Below d xs → Below (suc d) xs
below_more none = none
below_more (more {x} h a) = more {x = x} (omega arith) (below_more a)

pub below_take : {d : ℕ} {xs : List ℕ} (l : ℕ) → Below d xs → Below d (take l xs)
below_take zero a = none
below_take (suc l) none = none
below_take (suc l) (more h a) = more h (below_take l a)

pub below_at : {d : ℕ} {xs : List ℕ} (l : ℕ) → Below d xs → l < length xs → get_or xs l 0 < d
below_at l none h = absurd (not-suc-le-zero h)
below_at zero (more k a) h = k
below_at (suc l) (more k a) h = below_at l a (omega arith)

pub below_not : {d : ℕ} {xs : List ℕ} → Below d xs → (i : ℕ) → d ≤ i → occurrences i xs ≡ 0
unfolding occurrences
below_not none i h = refl
below_not {d} (more {x} k a) i h = rw (ne_eqb x i (λ e. omega arith), below_not a i h)

-- of the numbers below n, x is one
sum_once : (n x : ℕ) → x < n → sum n (λ i. count (eqb x i)) ≡ 1
unfolding sum
sum_once zero x h = absurd (not-suc-le-zero h)
sum_once (suc n) x h = go (ℕ_discrete x n) (sum_once n x)
  where
    none_below : x ≡ n → sum n (λ i. count (eqb x i)) ≡ 0
    none_below e = sum_zero n (λ i. count (eqb x i)) (λ i l. ap count (ne_eqb x i (λ q. omega arith)))

    go : Dec (x ≡ n) → (x < n → sum n (λ i. count (eqb x i)) ≡ 1) → sum n (λ i. count (eqb x i)) + count (eqb x n) ≡ 1
    go (yes e) ih = rw (none_below e, eq-eqb x n e)
    go (no e) ih = rw (ih (omega arith), ne_eqb x n e)

pub sum_occurrences : {d : ℕ} {xs : List ℕ} → Below d xs → sum d (λ i. occurrences i xs) ≡ length xs
unfolding occurrences
sum_occurrences {d} none = sum_zero d (λ i. 0) (λ i l. refl)
sum_occurrences {d} (more {x} {xs} h a) =
    sum_add d (λ i. count (eqb x i)) (λ i. occurrences i xs) ∙ omega (arith, sum_once d x h, sum_occurrences a)

-- ---- turned round

pub reverse_at : (xs : List ℕ) (n : ℕ) → n < length xs → get_or (reverse xs) n 0 ≡ get_or xs (length xs - suc n) 0
reverse_at [] n h = absurd (not-suc-le-zero h)
reverse_at (x ∷ xs) n h = ap (λ s. get_or s n 0) (reverse-cons x xs) ∙ go (ℕ_discrete n (length xs)) (reverse_at xs n)
  where
    go : Dec (n ≡ length xs) → (n < length xs → get_or (reverse xs) n 0 ≡ get_or xs (length xs - suc n) 0)
        → get_or (reverse xs ++ (x ∷ [])) n 0 ≡ get_or (x ∷ xs) (suc (length xs) - suc n) 0
    go (yes e) ih =
        let first : suc (length xs) - suc n ≡ 0 = omega arith in
        get_or_at (reverse xs) x [] 0 n (length-reverse xs ∙ sym e) ∙ sym (ap (λ m. get_or (x ∷ xs) m 0) first)
    go (no e) ih =
        let later : suc (length xs) - suc n ≡ suc (length xs - suc n) = omega arith in
        get_or-append (reverse xs) (x ∷ []) 0 n (omega (arith, length-reverse xs)) ∙ ih (omega arith) ∙ sym (ap (λ m. get_or (x ∷ xs) m 0) later)
