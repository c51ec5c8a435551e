-- The symbols of a mask's shape: one, and two more for each block whose digits are not alike. A block is mixed where one of its halves is, or their first
-- digits differ; so the mixed blocks of a size are the digits, where such blocks start, of a mask that or, xor and shifts make.
use mathlib.Core.Path.{◌≡◌, refl, sym, ap, ap₂, ◌∙◌}
use mathlib.Core.Bool.{Bool, true, false, cond, ◌&&◌, ◌||◌}
use Prim.Native.Nat.{ℕ, zero, suc, ◌+◌, ◌-◌, ◌*◌, ◌/◌, ◌%◌, ◌^◌, ◌≤◌, ◌<◌}
use native.Mathlib.Omega.{arith}
use native.Mathlib.Nat.{pow-suc, zero-add, add_assoc, mod-eq_of_lt, mul-add-mod_self_right, lt_of_le_of_lt}
use lib.Dec.{eqb}
use lib.Pow.{pow_pos, pow-add}
use lib.Bits.{bit_and, bit_or, bit_xor, and_le_r}
use lib.Count.{ones}
use borrow.Author.Tests.{ne_eqb}
use Rattle.lemmas.specs.Sums.{sum}
use Rattle.lemmas.specs.Grid.{count}
use Rattle.lemmas.proofs.Sums.{and_false, sum_cong, sum_add, sum_zero, sum_front}
use Rattle.bintree.specs.declared.Colour.TheVariants.{White, Black}
use Rattle.bintree.specs.Shape.{Shape, leaf, halved, size}
use Rattle.bintree.specs.Merging.{join}
use Rattle.bintree.proofs.Counts.{sum_split}
use Rattle.masks.specs.Mask.{has_digit, mask_of, tally}
use Rattle.masks.specs.Shapes.{mask_shape, mixed_mask, starts_mask, mask_size}
use Rattle.masks.proofs.Mask.{mask_none, mask_top, mask_apart, mask_below, mask_own, has_mask, ones_mask, tally_cong}
use Rattle.masks.proofs.Digits.{unlike, has_or, has_and, has_xor, has_zero, has_shifted}
use Rattle.masks.proofs.Shapes.{shape_halves}

-- ---- symbols by halvings

halvings_of : Shape → ℕ
halvings_of (leaf c) = 0
halvings_of (halved s t) = 1 + (halvings_of s + halvings_of t)

size_halvings : (s : Shape) → size s ≡ 1 + 2 * halvings_of s
unfolding size halvings_of
size_halvings (leaf c) = refl
size_halvings (halved s t) = omega (arith, size_halvings s, size_halvings t)

-- ---- the shape of a test's mask by those of its halves

shape_by : ℕ → (ℕ → Bool) → Shape
shape_by n f = mask_shape n (mask_of (2 ^ n) f)

shape_by_halves : (n : ℕ) (f : ℕ → Bool) → shape_by (suc n) f ≡ join (shape_by n f) (shape_by n (λ i. f (2 ^ n + i)))
unfolding shape_by
shape_by_halves n f =
    let e : 2 ^ suc n ≡ 2 ^ n + 2 ^ n = omega (arith, pow-suc 2 n) in
    ap (λ (x : ℕ). mask_shape (suc n) (mask_of x f)) e
    ∙ ap (mask_shape (suc n)) (mask_apart (2 ^ n) (2 ^ n) f)
    ∙ shape_halves n (mask_of (2 ^ n) f) (mask_of (2 ^ n) (λ i. f (2 ^ n + i))) (mask_below (2 ^ n) f) (mask_below (2 ^ n) (λ i. f (2 ^ n + i)))

-- ---- whether the first 2^n digits are not alike

mixed : ℕ → (ℕ → Bool) → Bool
mixed zero f = false
mixed (suc n) f = (mixed n f || mixed n (λ i. f (2 ^ n + i))) || unlike (f 0) (f (2 ^ n + 0))

mixed_cong : (n : ℕ) (f g : ℕ → Bool) → ((i : ℕ) → f i ≡ g i) → mixed n f ≡ mixed n g
unfolding mixed
mixed_cong zero f g h = refl
mixed_cong (suc n) f g h =
    ap₂ ◌||◌ (ap₂ ◌||◌ (mixed_cong n f g h) (mixed_cong n (λ i. f (2 ^ n + i)) (λ i. g (2 ^ n + i)) (λ i. h (2 ^ n + i)))) (ap₂ unlike (h 0) (h (2 ^ n + 0)))

-- what a shape shows: whether it is halved, and its first colour
data Seen : Bool → Bool → Shape → Type 0 where
  all_white : Seen false false (leaf White)
  all_black : Seen false true (leaf Black)
  two : {c : Bool} {s t : Shape} → Seen true c (halved s t)

join_seen : {x y c d : Bool} {s t : Shape} → Seen x c s → Seen y d t → Seen ((x || y) || unlike c d) c (join s t)
unfolding join
join_seen all_white all_white = all_white
join_seen all_white all_black = two
join_seen all_white two = two
join_seen all_black all_white = two
join_seen all_black all_black = all_black
join_seen all_black two = two
join_seen two v = two

join_halvings : {x y c d : Bool} {s t : Shape} → Seen x c s → Seen y d t →
    halvings_of (join s t) ≡ count ((x || y) || unlike c d) + (halvings_of s + halvings_of t)
unfolding join halvings_of
join_halvings all_white all_white = refl
join_halvings all_white all_black = refl
join_halvings all_white two = refl
join_halvings all_black all_white = refl
join_halvings all_black all_black = refl
join_halvings all_black two = refl
join_halvings two v = refl

one_digit : (c : Bool) → mask_shape 0 (count c) ≡ cond c (leaf Black) (leaf White)
unfolding mask_shape
one_digit true = refl
one_digit false = refl

one_shape : (f : ℕ → Bool) → shape_by 0 f ≡ cond (f 0) (leaf Black) (leaf White)
unfolding shape_by
one_shape f =
    let e : mask_of 1 f ≡ count (f 0) = mask_top 0 f ∙ omega (arith, mask_none f) in
    ap (mask_shape 0) e ∙ one_digit (f 0)

seen : (n : ℕ) (f : ℕ → Bool) → Seen (mixed n f) (f 0) (shape_by n f)
unfolding mixed
seen zero f = rw (one_shape f) (go (f 0))
  where
    go : (c : Bool) → Seen false c (cond c (leaf Black) (leaf White))
    go true = all_black
    go false = all_white
seen (suc n) f = rw (shape_by_halves n f) (join_seen (seen n f) (seen n (λ i. f (2 ^ n + i))))

-- ---- the mixed blocks of a block, all sizes

blocks_of : ℕ → (ℕ → Bool) → ℕ
unfolding mixed
blocks_of zero f = 0
blocks_of (suc n) f = count (mixed (suc n) f) + (blocks_of n f + blocks_of n (λ i. f (2 ^ n + i)))

halvings_blocks : (n : ℕ) (f : ℕ → Bool) → halvings_of (shape_by n f) ≡ blocks_of n f
unfolding halvings_of blocks_of mixed
halvings_blocks zero f = ap halvings_of (one_shape f) ∙ go (f 0)
  where
    go : (c : Bool) → halvings_of (cond c (leaf Black) (leaf White)) ≡ 0
    go true = refl
    go false = refl
halvings_blocks (suc n) f =
    ap halvings_of (shape_by_halves n f)
    ∙ join_halvings (seen n f) (seen n (λ i. f (2 ^ n + i)))
    ∙ ap₂ (λ (x y : ℕ). count (mixed (suc n) f) + (x + y)) (halvings_blocks n f) (halvings_blocks n (λ i. f (2 ^ n + i)))

-- ---- by their sizes: where a mixed block of 2^j digits starts, and how many of the first n digits do

starts_at : ℕ → (ℕ → Bool) → ℕ → Bool
unfolding mixed
starts_at j f i = mixed j (λ k. f (i + k)) && eqb (i % 2 ^ j) 0

of_size : ℕ → ℕ → (ℕ → Bool) → ℕ
unfolding starts_at
of_size j n f = tally n (starts_at j f)

and_true : (b : Bool) → (b && true) ≡ b
and_true true = refl
and_true false = refl

-- the largest block is one
largest : (n : ℕ) (f : ℕ → Bool) → of_size n (2 ^ n) f ≡ count (mixed n f)
unfolding of_size starts_at tally
largest n f =
    let e : 2 ^ n ≡ suc (2 ^ n - 1) = omega (arith, pow_pos n) in
    ap (λ (m : ℕ). sum m (λ i. count (starts_at n f i))) e
    ∙ sum_front (2 ^ n - 1) (λ i. count (starts_at n f i))
    ∙ omega (arith, ap count first, sum_zero (2 ^ n - 1) (λ i. count (starts_at n f (suc i))) (λ i l. ap count (rest i l)))
  where
    first : starts_at n f 0 ≡ mixed n f
    first =
        ap₂ ◌&&◌ (mixed_cong n (λ i. f (0 + i)) f (λ i. ap f (zero-add i))) (ap (λ (x : ℕ). eqb x 0) (mod-eq_of_lt (pow_pos n))) ∙ and_true (mixed n f)

    short : (i : ℕ) → i < 2 ^ n - 1 → suc i < 2 ^ n
    short i l = omega arith

    rest : (i : ℕ) → i < 2 ^ n - 1 → starts_at n f (suc i) ≡ false
    rest i l =
        ap (λ (b : Bool). mixed n (λ j. f (suc i + j)) && b)
        (ap (λ (x : ℕ). eqb x 0) (mod-eq_of_lt (short i l)) ∙ ne_eqb (suc i) 0 (λ e. omega arith))
        ∙ and_false (mixed n (λ j. f (suc i + j)))

-- those of a smaller size are in the halves
smaller : (j n : ℕ) (f : ℕ → Bool) → j ≤ n → of_size j (2 ^ suc n) f ≡ of_size j (2 ^ n) f + of_size j (2 ^ n) (λ i. f (2 ^ n + i))
unfolding of_size starts_at tally
smaller j n f l =
    let e : 2 ^ suc n ≡ 2 ^ n + 2 ^ n = omega (arith, pow-suc 2 n) in
    ap (λ (m : ℕ). sum m (λ i. count (starts_at j f i))) e
    ∙ sum_split (2 ^ n) (2 ^ n) (λ i. count (starts_at j f i))
    ∙ ap (λ (x : ℕ). sum (2 ^ n) (λ i. count (starts_at j f i)) + x)
    (sum_cong (2 ^ n) (λ i. count (starts_at j f (2 ^ n + i))) (λ i. count (starts_at j (λ k. f (2 ^ n + k)) i)) (λ i h. ap count (same i)))
  where
    power : 2 ^ n ≡ 2 ^ (n - j) * 2 ^ j
    power = ap (λ (x : ℕ). 2 ^ x) (omega arith) ∙ pow-add 2 (n - j) j

    same : (i : ℕ) → starts_at j f (2 ^ n + i) ≡ starts_at j (λ k. f (2 ^ n + k)) i
    same i =
        ap₂ ◌&&◌ (mixed_cong j (λ k. f (2 ^ n + i + k)) (λ k. f (2 ^ n + (i + k))) (λ k. ap f (add_assoc (2 ^ n) i k)))
        (ap (λ (x : ℕ). eqb x 0) (ap (λ (x : ℕ). (x + i) % 2 ^ j) power ∙ mul-add-mod_self_right (2 ^ (n - j)) (2 ^ j) i))

blocks_sizes : (n : ℕ) (f : ℕ → Bool) → blocks_of n f ≡ sum n (λ j. of_size (suc j) (2 ^ n) f)
unfolding blocks_of sum
blocks_sizes zero f = refl
blocks_sizes (suc n) f =
    omega (
      arith,
      blocks_sizes n f,
      blocks_sizes n (λ i. f (2 ^ n + i)),
      largest (suc n) f,
      sum_cong n (λ j. of_size (suc j) (2 ^ suc n) f) (λ j. of_size (suc j) (2 ^ n) f + of_size (suc j) (2 ^ n) (λ i. f (2 ^ n + i)))
          (λ j l. smaller (suc j) n f l),
      sum_add n (λ j. of_size (suc j) (2 ^ n) f) (λ j. of_size (suc j) (2 ^ n) (λ i. f (2 ^ n + i))),
    )

-- ---- the masks of mixed blocks

mixed_digit : (j m i : ℕ) → has_digit (mixed_mask j m) i ≡ mixed j (λ k. has_digit m (i + k))
unfolding mixed_mask mixed
mixed_digit zero m i = has_zero i
mixed_digit (suc j) m i =
    has_or (bit_or (mixed_mask j m) (mixed_mask j m / 2 ^ 2 ^ j)) (bit_xor m (m / 2 ^ 2 ^ j)) i
    ∙ ap₂ ◌||◌
    (has_or (mixed_mask j m) (mixed_mask j m / 2 ^ 2 ^ j) i
    ∙ ap₂ ◌||◌ (mixed_digit j m i)
    (has_shifted (mixed_mask j m) (2 ^ j) i
    ∙ mixed_digit j m (2 ^ j + i)
    ∙ mixed_cong j (λ k. has_digit m (2 ^ j + i + k)) (λ k. has_digit m (i + (2 ^ j + k))) (λ k. ap (has_digit m) (omega arith))))
    (has_xor m (m / 2 ^ 2 ^ j) i ∙ ap₂ unlike (ap (has_digit m) (omega arith)) (has_shifted m (2 ^ j) i ∙ ap (has_digit m) (omega arith)))

counted : (n j m : ℕ) → ones (bit_and (mixed_mask j m) (starts_mask n j)) ≡ of_size j (2 ^ n) (has_digit m)
unfolding of_size starts_at starts_mask
counted n j m =
    let w = bit_and (mixed_mask j m) (starts_mask n j) in
    ap ones (sym (mask_own (2 ^ n) w (lt_of_le_of_lt (and_le_r (mixed_mask j m) (starts_mask n j)) (mask_below (2 ^ n) _))))
    ∙ ones_mask (2 ^ n) (has_digit w)
    ∙ tally_cong (2 ^ n) (has_digit w) (starts_at j (has_digit m))
    (λ i l. has_and (mixed_mask j m) (starts_mask n j) i ∙ ap₂ ◌&&◌ (mixed_digit j m i) (has_mask (2 ^ n) (λ k. eqb (k % 2 ^ j) 0) i l))

-- THEOREM: the shape of a mask has so many symbols
pub mask_size_lem : (n m : ℕ) → m < 2 ^ 2 ^ n → size (mask_shape n m) ≡ mask_size n m
unfolding mask_size shape_by
mask_size_lem n m l =
    ap (λ (x : ℕ). size (mask_shape n x)) (sym (mask_own (2 ^ n) m l))
    ∙ size_halvings (shape_by n (has_digit m))
    ∙ ap (λ (x : ℕ). 1 + 2 * x)
    (halvings_blocks n (has_digit m) ∙ blocks_sizes n (has_digit m) ∙ sum_cong n _ _ (λ j h. sym (counted n (suc j) m)))
