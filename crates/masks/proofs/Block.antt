-- The voxels of a block by their numbers: the low half has the numbers below 2^n, the high half as many from there on, so a block's mask is those of its
-- halves side by side. Each number names a voxel of the block, whose path from the block on is the number's digits; and every voxel of the block has one.
use mathlib.Core.Path.{◌≡◌, refl, sym, ap, ap₂, ◌∙◌, subst}
use mathlib.Core.Bool.{Bool, true, false}
use mathlib.Core.Logic.{◌⊎◌, inl, inr}
use mathlib.Core.List.{List, ◌∷◌}
use Prim.Native.Nat.{ℕ, zero, suc, ◌+◌, ◌*◌, ◌^◌, ◌≤◌, ◌<◌}
use native.Mathlib.Omega.{arith}
use native.Mathlib.Nat.{pow-suc, lt_of_lt_of_le}
use lib.Pow.{pow_mono}
use lib.ListN.{length}
use Rattle.lemmas.specs.Grid.{count}
use Rattle.universe.specs.declared.Universe.{Universe}
use Rattle.universe.specs.declared.Block.{Block}
use Rattle.universe.specs.Universe.{most_axes, universe_refusal, levels}
use Rattle.universe.specs.Block.{low_along, whole_block, axis_of, low, high, Given, first, lower, upper}
use Rattle.universe.specs.Voxel.{place_along, voxel_refusal, Within, half_at, path_from}
use Rattle.universe.proofs.Universes.{side_positive}
use Rattle.universe.proofs.Multiples.{low_place, high_place}
use Rattle.universe.proofs.Blocks.{Placed, given_placed, given_length, half_length, high_here, axis_few, low_even}
use Rattle.universe.proofs.Voxel.{half_bit, within_low, within_high, at_last, taken_voxel}
use Rattle.csg.proofs.Nested.{low_nested, high_nested}
use Rattle.demands.specs.Voxels.{Colouring, is_black}
use Rattle.masks.specs.Mask.{digit_of, has_digit, mask_of}
use Rattle.masks.specs.Block.{half_of, part_at, voxel_at, digits, is_black_at, block_mask}
use Rattle.masks.proofs.Mask.{mask_none, mask_top, mask_cong, mask_apart, mask_below, has_mask}
use Rattle.masks.proofs.Digits.{digit_one, digit_zero, has_kept, has_low, has_high}

-- ---- the halves

-- a part depends on the digits below n alone
pub part_same : (n : ℕ) (b : Block) (i j : ℕ) → ((k : ℕ) → k < n → has_digit i k ≡ has_digit j k) → part_at n b i ≡ part_at n b j
unfolding part_at
part_same zero b i j h = refl
part_same (suc n) b i j h =
    ap (λ (t : Bool). part_at n (half_of t b) i) (h n (omega arith)) ∙ part_same n (half_of (has_digit j n) b) i j (λ k l. h k (omega arith))

module _ (n : ℕ) (b : Block) (i : ℕ) (h : i < 2 ^ n) where
  pub part_low : part_at (suc n) b i ≡ part_at n (low b) i
  unfolding part_at
  part_low = ap (λ (t : Bool). part_at n (half_of t b) i) (has_low n i h)

  pub part_high : part_at (suc n) b (2 ^ n + i) ≡ part_at n (high b) i
  unfolding part_at
  part_high =
      ap (λ (t : Bool). part_at n (half_of t b) (2 ^ n + i)) (has_high n i h)
      ∙ part_same n (high b) (2 ^ n + i) i (λ k l. has_kept n k i l)

-- so do digits, and what is summed over them
pub two_powers : (n : ℕ) → 2 ^ suc n ≡ 2 ^ n + 2 ^ n
two_powers n = omega (arith, pow-suc 2 n)

module _ (colours : Colouring) where
  -- THEOREM: a block's mask is its halves' masks, the high half's above the low half's
  pub mask_halves : (n : ℕ) (b : Block) → block_mask colours (suc n) b ≡ block_mask colours n (high b) * 2 ^ 2 ^ n + block_mask colours n (low b)
  unfolding block_mask
  mask_halves n b =
      ap (λ (m : ℕ). mask_of m (is_black_at colours (suc n) b)) (two_powers n)
      ∙ mask_apart (2 ^ n) (2 ^ n) (is_black_at colours (suc n) b)
      ∙ ap₂ (λ (x y : ℕ). x * 2 ^ 2 ^ n + y)
      (mask_cong (2 ^ n) _ (is_black_at colours n (high b)) (λ i l. ap (λ (p : Block). is_black (colours p.low)) (part_high n b i l)))
      (mask_cong (2 ^ n) _ (is_black_at colours n (low b)) (λ i l. ap (λ (p : Block). is_black (colours p.low)) (part_low n b i l)))

  -- of one voxel it is 1 or 0
  pub mask_voxel : (b : Block) → block_mask colours 0 b ≡ count (is_black (colours b.low))
  unfolding block_mask part_at
  mask_voxel b = mask_top 0 (is_black_at colours 0 b) ∙ omega (arith, mask_none (is_black_at colours 0 b))

  pub mask_fits : (n : ℕ) (b : Block) → block_mask colours n b < 2 ^ 2 ^ n
  unfolding block_mask
  mask_fits n b = mask_below (2 ^ n) (is_black_at colours n b)

  -- up to six levels above the voxels, into 64 digits
  pub mask_word : (n : ℕ) (b : Block) → n ≤ 6 → block_mask colours n b < 2 ^ 64
  mask_word n b h = lt_of_lt_of_le (mask_fits n b) (pow_mono {j = 64} (pow_mono {j = 6} h))

  -- THEOREM: digit i is 1 exactly where voxel number i is black
  pub mask_digit : (n : ℕ) (b : Block) (i : ℕ) → i < 2 ^ n → has_digit (block_mask colours n b) i ≡ is_black (colours (voxel_at n b i))
  unfolding block_mask
  mask_digit n b i l = has_mask (2 ^ n) (is_black_at colours n b) i l

-- colourings that agree on the voxels of a block have one mask
pub mask_agree : (c d : Colouring) (n : ℕ) (b : Block) → ((i : ℕ) → i < 2 ^ n → c (voxel_at n b i) ≡ d (voxel_at n b i)) → block_mask c n b ≡ block_mask d n b
unfolding block_mask
mask_agree c d n b h = mask_cong (2 ^ n) _ _ (λ i l. ap is_black (h i l))

-- ---- a part of a given block is given, lies in the block, and is a voxel

pub half_universe : (t : Bool) (b : Block) → (half_of t b).universe ≡ b.universe
half_universe true b = refl
half_universe false b = refl

pub half_level : (t : Bool) (b : Block) → (half_of t b).level ≡ suc b.level
half_level true b = refl
half_level false b = refl

pub half_given : (t : Bool) {b : Block} → Given b → b.level < levels b.universe → Given (half_of t b)
half_given true {b} g h = upper b g h
half_given false {b} g h = lower b g h

-- levels left
pub record Left (n : ℕ) (b : Block) : Type 0 where
  pub given : Given b
  pub left : b.level + n ≡ levels b.universe

pub left_whole : (u : Universe) → universe_refusal u ≡ 0 → Left (levels u) (whole_block u)
left_whole u e = record { given = first u e; left = omega arith }

pub left_above : {n : ℕ} {b : Block} → Left (suc n) b → b.level < levels b.universe
left_above l = omega (arith, l.left)

pub left_low : {n : ℕ} {b : Block} → Left (suc n) b → Left n (low b)
left_low {n} {b} l = record { given = lower b l.given (left_above l); left = omega (arith, l.left) }

pub left_high : {n : ℕ} {b : Block} → Left (suc n) b → Left n (high b)
left_high {n} {b} l = record { given = upper b l.given (left_above l); left = omega (arith, l.left) }

pub left_half : (t : Bool) {n : ℕ} {b : Block} → Left (suc n) b → Left n (half_of t b)
left_half true l = left_high l
left_half false l = left_low l

pub part_universe : (n : ℕ) (b : Block) (i : ℕ) → (part_at n b i).universe ≡ b.universe
unfolding part_at
part_universe zero b i = refl
part_universe (suc n) b i = part_universe n (half_of (has_digit i n) b) i ∙ half_universe (has_digit i n) b

pub part_left : (n : ℕ) (b : Block) (i : ℕ) → Left n b → Left 0 (part_at n b i)
unfolding part_at
part_left zero b i l = l
part_left (suc n) b i l = part_left n (half_of (has_digit i n) b) i (left_half (has_digit i n) l)

-- a voxel of a half is one of the block
pub within_half : (t : Bool) (b : Block) (v : List ℕ) → b.level < levels b.universe → Within (half_of t b) v → Within b v
within_half true b v h w =
    let n = high_nested b h in
    record { above = λ i l. omega (arith, n.above i l, w.above i l); below = λ i l. omega (arith, n.below i l, w.below i l) }
within_half false b v h w =
    let n = low_nested b h in
    record { above = λ i l. omega (arith, n.above i l, w.above i l); below = λ i l. omega (arith, n.below i l, w.below i l) }

-- a block holds its own low corner
pub own_corner : (b : Block) → Within b b.low
own_corner b = record { above = λ i l. omega arith; below = λ i l. omega (arith, side_positive b.universe b.level i) }

-- THEOREM: voxel number i of a block lies in the block, and is a voxel of the universe
pub voxel_within : (n : ℕ) (b : Block) (i : ℕ) → Left n b → Within b (voxel_at n b i)
unfolding part_at
voxel_within zero b i l = own_corner b
voxel_within (suc n) b i l =
    let t = has_digit i n in
    within_half t b (voxel_at n (half_of t b) i) (left_above l) (voxel_within n (half_of t b) i (left_half t l))

pub voxel_length : (n : ℕ) (b : Block) (i : ℕ) → Left n b → length (voxel_at n b i) ≡ most_axes
voxel_length n b i l = given_length (part_left n b i l).given

pub voxel_accepted : (n : ℕ) (b : Block) (i : ℕ) → Left n b → voxel_refusal b.universe (voxel_at n b i) ≡ 0
voxel_accepted n b i l =
    let p = given_placed (part_left n b i l).given in
    let e = part_universe n b i in
    subst (λ (u : Universe). voxel_refusal u (voxel_at n b i) ≡ 0) e
    (taken_voxel (part_at n b i).universe (voxel_at n b i) (record { inside = p.inside; above = p.above }))

-- ---- the path

-- which half holds a voxel, from the half
module _ {b : Block} (g : Given b) (h : b.level < levels b.universe) (v : List ℕ) where
  p : Placed b
  p = given_placed g

  here : low_along (high b) (axis_of b) ≡ low_along b (axis_of b) + half_length b
  here = high_here b (omega (arith, axis_few b p h, p.taken.few_axes, given_length g))

  pub half_low : Within (low b) v → half_at b.universe b.level (place_along v (axis_of b)) ≡ 0
  half_low w = low_place _ _ _ (low_even b p h) (w.above (axis_of b) (axis_few b p h)) (w.below (axis_of b) (axis_few b p h))

  pub half_high : Within (high b) v → half_at b.universe b.level (place_along v (axis_of b)) ≡ 1
  half_high w =
      high_place _ _ _ (low_even b p h)
      (omega (arith, here, w.above (axis_of b) (axis_few b p h)))
      (omega (arith, here, w.below (axis_of b) (axis_few b p h)))

module _ (n : ℕ) (b : Block) (i : ℕ) (l : Left (suc n) b) where
  -- the half that the digit names
  step_half : (t : Bool) → has_digit i n ≡ t → (v : List ℕ) → Within (half_of t b) v →
      (half_at b.universe b.level (place_along v (axis_of b)) ≡ digit_of i n)
  step_half true e v w = half_high l.given (left_above l) v w ∙ sym (digit_one n i e)
  step_half false e v w = half_low l.given (left_above l) v w ∙ sym (digit_zero n i e)

-- THEOREM: the path from the block to voxel number i is the digits of i, the highest first
pub path_digits : (n : ℕ) (b : Block) (i : ℕ) → Left n b → path_from b.universe (voxel_at n b i) b.level n ≡ digits n i
unfolding path_from digits part_at
path_digits zero b i l = refl
path_digits (suc n) b i l = go (has_digit i n) refl (path_digits n (half_of (has_digit i n) b) i (left_half (has_digit i n) l))
  where
    go : (t : Bool) → has_digit i n ≡ t →
        path_from (half_of t b).universe (voxel_at n (half_of t b) i) (half_of t b).level n ≡ digits n i →
        half_at b.universe b.level (place_along (voxel_at n (half_of t b) i) (axis_of b))
        ∷ path_from b.universe (voxel_at n (half_of t b) i) (suc b.level) n
        ≡ digit_of i n ∷ digits n i
    go true e ih = ap₂ ◌∷◌ (step_half n b i l true e (voxel_at n (high b) i) (voxel_within n (high b) i (left_high l))) ih
    go false e ih = ap₂ ◌∷◌ (step_half n b i l false e (voxel_at n (low b) i) (voxel_within n (low b) i (left_low l))) ih

-- ---- every voxel of the block has a number

pub record Numbered (n : ℕ) (b : Block) (v : List ℕ) : Type 0 where
  pub number : ℕ
  pub below : number < 2 ^ n
  pub places : (a : ℕ) → a < b.universe.axes → place_along v a ≡ place_along (voxel_at n b number) a

-- THEOREM: a voxel that lies in the block is the one of some number
pub voxel_numbered : (n : ℕ) (b : Block) (v : List ℕ) → Left n b → Within b v → Numbered n b v
unfolding part_at
voxel_numbered zero b v l w = record { number = 0; below = omega arith; places = at_last l.given (omega (arith, l.left)) v w }
voxel_numbered (suc n) b v l w =
    go (half_bit b.universe b.level (place_along v (axis_of b))) (voxel_numbered n (low b) v (left_low l)) (voxel_numbered n (high b) v (left_high l))
  where
    go : (half_at b.universe b.level (place_along v (axis_of b)) ≡ 0) ⊎ (half_at b.universe b.level (place_along v (axis_of b)) ≡ 1) →
        (Within (low b) v → Numbered n (low b) v) → (Within (high b) v → Numbered n (high b) v) → Numbered (suc n) b v
    go (inl q) x y =
        let r = x (within_low l.given (left_above l) v w q) in
        record {
          number = r.number;
          below = omega (arith, two_powers n, r.below);
          places = λ a h. r.places a h ∙ ap (λ (p : Block). place_along p.low a) (sym (part_low n b r.number r.below));
        }
    go (inr q) x y =
        let r = y (within_high l.given (left_above l) v w q) in
        record {
          number = 2 ^ n + r.number;
          below = omega (arith, two_powers n, r.below);
          places = λ a h. r.places a h ∙ ap (λ (p : Block). place_along p.low a) (sym (part_high n b r.number r.below));
        }
