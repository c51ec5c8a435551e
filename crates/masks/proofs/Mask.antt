-- Masks: a mask is its lowest digit and the mask of the rest, or its low digits and its high digits; a digit of the mask of a test is the test; the
-- ones of a mask are where its test holds; and operators on tests are bit operations on masks. Each goes by the lowest digit, as the operations do.
use mathlib.Core.Path.{◌≡◌, refl, sym, ap, ap₂, ◌∙◌}
use mathlib.Core.Bool.{Bool, true, false, not, ◌&&◌, ◌||◌}
use Prim.Native.Nat.{ℕ, zero, suc, ◌+◌, ◌*◌, ◌/◌, ◌%◌, ◌^◌, ◌≤◌, ◌<◌}
use native.Mathlib.Omega.{arith}
use native.Mathlib.Nat.{pow-suc}
use lib.Dec.{eqb, lit<}
use lib.Pow.{pow-add, shr-shr}
use lib.Bits.{bit_and, bit_or, and_block, or_block}
use lib.Count.{ones, ones_step}
use Rattle.lemmas.specs.Sums.{sum}
use Rattle.lemmas.specs.Grid.{count}
use Rattle.lemmas.proofs.Sums.{sum_cong, sum_front}
use Rattle.masks.specs.Mask.{digit_of, has_digit, mask_of, tally, all_ones, exchanged}

pub count_few : (t : Bool) → count t < 2
count_few true = lit< tt
count_few false = lit< tt

-- ---- what a mask is made of

pub mask_none : (f : ℕ → Bool) → mask_of 0 f ≡ 0
unfolding mask_of sum
mask_none f = refl

-- its highest digit apart
pub mask_top : (n : ℕ) (f : ℕ → Bool) → mask_of (suc n) f ≡ mask_of n f + count (f n) * 2 ^ n
unfolding mask_of sum
mask_top n f = refl

-- its lowest digit apart
twice : (n : ℕ) (f : ℕ → Bool) → sum n (λ i. count (f i) * 2 ^ suc i) ≡ sum n (λ i. count (f i) * 2 ^ i) * 2
unfolding sum
twice zero f = refl
twice (suc n) f = omega (arith, twice n f, ap (λ x. count (f n) * x) (pow-suc 2 n))

pub mask_front : (n : ℕ) (f : ℕ → Bool) → mask_of (suc n) f ≡ mask_of n (λ i. f (suc i)) * 2 + count (f 0)
unfolding mask_of
mask_front n f = omega (arith, sum_front n (λ i. count (f i) * 2 ^ i), twice n (λ i. f (suc i)))

pub mask_cong : (n : ℕ) (f g : ℕ → Bool) → ((i : ℕ) → i < n → f i ≡ g i) → mask_of n f ≡ mask_of n g
unfolding mask_of
mask_cong n f g h = sum_cong n _ _ (λ i l. ap (λ t. count t * 2 ^ i) (h i l))

pub mask_below : (n : ℕ) (f : ℕ → Bool) → mask_of n f < 2 ^ n
mask_below zero f = rw (mask_none f) (lit< tt)
mask_below (suc n) f = omega (arith, mask_front n f, pow-suc 2 n, mask_below n (λ i. f (suc i)), count_few (f 0))

-- the low digits and the high digits apart
pub mask_apart : (a b : ℕ) (f : ℕ → Bool) → mask_of (a + b) f ≡ mask_of b (λ i. f (a + i)) * 2 ^ a + mask_of a f
mask_apart a zero f =
    let e : a + 0 ≡ a = omega arith in
    rw (e, mask_none (λ i. f (a + i))) (omega arith)
mask_apart a (suc b) f =
    let e : a + suc b ≡ suc (a + b) = omega arith in
    rw e (omega (
      arith,
      mask_top (a + b) f,
      mask_apart a b f,
      mask_top b (λ i. f (a + i)),
      ap (λ x. x * 2 ^ a) (mask_top b (λ i. f (a + i))),
      ap (λ x. count (f (a + b)) * x) (pow-add 2 a b),
    ))

-- ---- a digit of a mask

rest_is : (m : ℕ) (t : Bool) → (m * 2 + count t) / 2 ≡ m
rest_is m t = omega (arith, count_few t)

lowest_is : (m : ℕ) (t : Bool) → (m * 2 + count t) % 2 ≡ count t
lowest_is m t = omega (arith, count_few t)

-- a digit further up is a digit of the half
digit_up : (m i : ℕ) → digit_of m (suc i) ≡ digit_of (m / 2) i
digit_up m i = ap (λ (x : ℕ). m / 2 ^ x % 2) (omega arith) ∙ ap (λ (x : ℕ). x % 2) (sym (shr-shr m 1 i))

pub digit_mask : (n : ℕ) (f : ℕ → Bool) (i : ℕ) → i < n → digit_of (mask_of n f) i ≡ count (f i)
digit_mask zero f i l = absurd (omega arith)
digit_mask (suc n) f zero l = omega (arith, mask_front n f, count_few (f 0))
digit_mask (suc n) f (suc i) l =
    digit_up (mask_of (suc n) f) i
    ∙ ap (λ (x : ℕ). digit_of x i) (ap (λ (x : ℕ). x / 2) (mask_front n f) ∙ rest_is (mask_of n (λ j. f (suc j))) (f 0))
    ∙ digit_mask n (λ j. f (suc j)) i (omega arith)

counts_one : (t : Bool) → eqb (count t) 1 ≡ t
counts_one true = refl
counts_one false = refl

-- it is the test
pub has_mask : (n : ℕ) (f : ℕ → Bool) (i : ℕ) → i < n → has_digit (mask_of n f) i ≡ f i
unfolding has_digit
has_mask n f i l = ap (λ (x : ℕ). eqb x 1) (digit_mask n f i l) ∙ counts_one (f i)

one_counts : (d : ℕ) → d < 2 → count (eqb d 1) ≡ d
one_counts zero l = refl
one_counts (suc zero) l = refl
one_counts (suc (suc d)) l = absurd (omega arith)

-- every number is the mask of its own digits
pub mask_own : (n m : ℕ) → m < 2 ^ n → mask_of n (has_digit m) ≡ m
unfolding has_digit
mask_own zero m l = mask_none (has_digit m) ∙ omega arith
mask_own (suc n) m l =
    mask_front n (has_digit m)
    ∙ ap₂ (λ (x y : ℕ). x * 2 + y)
    (mask_cong n (λ i. has_digit m (suc i)) (has_digit (m / 2)) (λ i h. ap (λ (x : ℕ). eqb x 1) (digit_up m i))
    ∙ mask_own n (m / 2) (omega (arith, pow-suc 2 n)))
    (one_counts (m / 2 ^ 0 % 2) (omega arith))
    ∙ omega arith

-- ---- counting

tally_front : (n : ℕ) (f : ℕ → Bool) → tally (suc n) f ≡ count (f 0) + tally n (λ i. f (suc i))
unfolding tally
tally_front n f = sum_front n (λ i. count (f i))

pub tally_cong : (n : ℕ) (f g : ℕ → Bool) → ((i : ℕ) → i < n → f i ≡ g i) → tally n f ≡ tally n g
unfolding tally
tally_cong n f g h = sum_cong n _ _ (λ i l. ap count (h i l))

-- THEOREM: the ones of a mask are the numbers at which its test holds
pub ones_mask : (n : ℕ) (f : ℕ → Bool) → ones (mask_of n f) ≡ tally n f
unfolding tally sum ones
ones_mask zero f = ap ones (mask_none f)
ones_mask (suc n) f =
    ap ones (mask_front n f)
    ∙ ones_step (mask_of n (λ i. f (suc i)) * 2 + count (f 0))
    ∙ ap₂ (λ (x y : ℕ). x + ones y) (lowest_is (mask_of n (λ i. f (suc i))) (f 0)) (rest_is (mask_of n (λ i. f (suc i))) (f 0))
    ∙ ap (λ (x : ℕ). count (f 0) + x) (ones_mask n (λ i. f (suc i)))
    ∙ sym (tally_front n f)

-- ---- operators

or_count : (a b : Bool) → bit_or (count a) (count b) ≡ count (a || b)
or_count true true = refl
or_count true false = refl
or_count false true = refl
or_count false false = refl

and_count : (a b : Bool) → bit_and (count a) (count b) ≡ count (a && b)
and_count true true = refl
and_count true false = refl
and_count false true = refl
and_count false false = refl

-- THEOREM: or, and, not of tests are bit operations on their masks
pub or_masks : (n : ℕ) (f g : ℕ → Bool) → bit_or (mask_of n f) (mask_of n g) ≡ mask_of n (λ i. f i || g i)
or_masks zero f g = ap₂ bit_or (mask_none f) (mask_none g) ∙ sym (mask_none (λ i. f i || g i))
or_masks (suc n) f g =
    ap₂ bit_or (mask_front n f) (mask_front n g)
    ∙ or_block 1 (mask_of n (λ i. f (suc i))) (mask_of n (λ i. g (suc i))) (count (f 0)) (count (g 0)) (count_few (f 0)) (count_few (g 0))
    ∙ ap₂ (λ (x y : ℕ). x * 2 + y) (or_masks n (λ i. f (suc i)) (λ i. g (suc i))) (or_count (f 0) (g 0))
    ∙ sym (mask_front n (λ i. f i || g i))

pub and_masks : (n : ℕ) (f g : ℕ → Bool) → bit_and (mask_of n f) (mask_of n g) ≡ mask_of n (λ i. f i && g i)
and_masks zero f g = ap₂ bit_and (mask_none f) (mask_none g) ∙ sym (mask_none (λ i. f i && g i))
and_masks (suc n) f g =
    ap₂ bit_and (mask_front n f) (mask_front n g)
    ∙ and_block 1 (mask_of n (λ i. f (suc i))) (mask_of n (λ i. g (suc i))) (count (f 0)) (count (g 0)) (count_few (f 0)) (count_few (g 0))
    ∙ ap₂ (λ (x y : ℕ). x * 2 + y) (and_masks n (λ i. f (suc i)) (λ i. g (suc i))) (and_count (f 0) (g 0))
    ∙ sym (mask_front n (λ i. f i && g i))

not_count : (a : Bool) → count (not a) + count a ≡ 1
not_count true = refl
not_count false = refl

-- a mask and its exchange are all ones together
pub not_together : (n : ℕ) (f : ℕ → Bool) → mask_of n (λ i. not (f i)) + mask_of n f + 1 ≡ 2 ^ n
not_together zero f = omega (arith, mask_none f, mask_none (λ i. not (f i)))
not_together (suc n) f =
    omega (arith, pow-suc 2 n, mask_front n f, mask_front n (λ i. not (f i)), not_together n (λ i. f (suc i)), not_count (f 0))

pub not_mask : (n : ℕ) (f : ℕ → Bool) → exchanged n (mask_of n f) ≡ mask_of n (λ i. not (f i))
not_mask n f = omega (arith, not_together n f)

-- a test that holds nowhere, and one that holds everywhere
pub nowhere_mask : (n : ℕ) → mask_of n (λ i. false) ≡ 0
nowhere_mask zero = mask_none (λ i. false)
nowhere_mask (suc n) = omega (arith, mask_front n (λ i. false), nowhere_mask n)

pub everywhere_mask : (n : ℕ) → mask_of n (λ i. true) ≡ all_ones n
everywhere_mask n = omega (arith, nowhere_mask n, not_mask n (λ i. false))

-- further digits at which the test fails add nothing, so a mask may stand among more digits than it has
pub mask_more : (n k : ℕ) (f : ℕ → Bool) → ((i : ℕ) → n ≤ i → f i ≡ false) → mask_of (n + k) f ≡ mask_of n f
mask_more n k f h =
    mask_apart n k f
    ∙ ap (λ (x : ℕ). x * 2 ^ n + mask_of n f)
    (mask_cong k (λ i. f (n + i)) (λ i. false) (λ i l. h (n + i) (omega arith)) ∙ nowhere_mask k)
    ∙ omega arith
