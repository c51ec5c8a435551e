-- Sure and possible contact by the voxels' centres. Over its own block a row's least and greatest are by its reach below and above the value at the centre,
-- and a ball's nearest and farthest points half a voxel nearer and farther along each axis; settled marks join as colours do, so words join them.
use Prim.Native.Nat.{ℕ, zero, suc, ◌+◌, ◌-◌, ◌*◌, ◌^◌, ◌≤◌, ◌<◌}
use mathlib.Core.Path.{◌≡◌, refl, sym, ap, ap₂, ◌∙◌}
use mathlib.Core.Bool.{Bool, true, false, not}
use mathlib.Core.Logic.{◌⊎◌, inl, inr}
use mathlib.Core.List.{List}
use native.Mathlib.Omega.{arith}
use native.Mathlib.Nat.{mul-le-mul}
use lib.Dec.{leb}
use lib.Bits.{bit_and, bit_or}
use lib.IntN.{ℤ, pos, nat_abs, ◌+ℤ◌}
use lib.Signed.{◌≤ℤ◌, ◌<ℤ◌, le_z}
use borrow.Author.Tests.{le-leb, lt-leb}
use Rattle.lemmas.specs.Sums.{sum}
use Rattle.lemmas.specs.Grid.{count}
use Rattle.lemmas.proofs.Sums.{below, top, sum_cong, sum_add, sum_mono}
use Rattle.lemmas.proofs.Totals.{centre_between}
use Rattle.lemmas.proofs.Machine.{nat_abs_parts}
use Rattle.lemmas.proofs.Whole.{up, dn, one_part, is_of, is_nat, le_is, lt_is, ι, ν, ◌⊕◌, ◌⊖◌, ⊝, ◌⊗◌, le_by, lt_by, le_or_lt, le_le_z, lt_le_z}
use Rattle.universe.specs.declared.Universe.{Universe}
use Rattle.universe.specs.declared.Block.{Block}
use Rattle.universe.specs.Universe.{levels, block_side, frame_axis}
use Rattle.universe.specs.Block.{low_along, axis_of, low, high}
use Rattle.universe.specs.Voxel.{place_along}
use Rattle.universe.proofs.Universes.{side_last}
use Rattle.universe.proofs.Blocks.{high_kept}
use Rattle.bintree.specs.declared.Colour.{Colour}
use Rattle.bintree.specs.declared.Colour.TheVariants.{White, Black}
use Rattle.csg.specs.Halfspace.{Halfspace, Mark, decided, undecided, row_at, least, greatest, mark_over, centre_value}
use Rattle.csg.specs.Ball.{Ball, place_axes, square, ball_at, radius_squared, nearest, farthest, near_sum, far_sum, ball_mark, off}
use Rattle.csg.specs.Surfaces.{Surfaces, Surface, halfspace, ball}
use Rattle.csg.specs.Tree.{Plain, colour, side, union_of, intersection_of}
use Rattle.csg.specs.Marks.{union_mark, intersection_mark, opposite_mark, union_colour, intersection_colour, opposite_colour, surface_mark, side_mark, plain_mark}
use Rattle.csg.proofs.Halfspace.{end_along, added, taken, rise, fall, least_is, greatest_is, centre_is, mark_black, mark_white, mark_active}
use Rattle.csg.proofs.Distances.{near_below, far_above, near_reached, far_reached}
use Rattle.csg.proofs.Balls.{Told, is_black_lem, is_white, is_undecided, told, ball_timeless}
use Rattle.demands.specs.Voxels.{Colouring, is_black}
use Rattle.contacts.specs.Contacts.{block_of, settled}
use Rattle.masks.specs.Mask.{mask_of, all_ones, exchanged}
use Rattle.masks.specs.Block.{voxel_at, is_black_at, block_mask}
use Rattle.masks.specs.Steps.{steps_along}
use Rattle.masks.specs.Leaves.{row_step, row_mask}
use Rattle.masks.specs.Own.{doubt_of, own_surface, own_ball, own_colour, reach, reached, spread, spread_sum}
use Rattle.masks.proofs.Mask.{mask_cong}
use Rattle.masks.proofs.Block.{Left, left_low, left_high, mask_voxel, mask_agree}
use Rattle.masks.proofs.Steps.{place_steps}
use Rattle.masks.proofs.Leaves.{moved_mask}
use Rattle.masks.proofs.Trees.{union_mask, intersection_mask, reversal_mask}

-- ---- settled marks join as colours do, and reversed they are the opposite of those settled the other way
pub settled_union : (d : Colour) (m n : Mark) → settled d (union_mark m n) ≡ union_colour (settled d m) (settled d n)
unfolding union_mark union_colour
settled_union d (decided Black) n = refl
settled_union d (decided White) n = refl
settled_union Black undecided (decided Black) = refl
settled_union White undecided (decided Black) = refl
settled_union Black undecided (decided White) = refl
settled_union White undecided (decided White) = refl
settled_union Black undecided undecided = refl
settled_union White undecided undecided = refl

pub settled_intersection : (d : Colour) (m n : Mark) → settled d (intersection_mark m n) ≡ intersection_colour (settled d m) (settled d n)
unfolding intersection_mark intersection_colour
settled_intersection d (decided Black) n = refl
settled_intersection d (decided White) n = refl
settled_intersection Black undecided (decided Black) = refl
settled_intersection White undecided (decided Black) = refl
settled_intersection Black undecided (decided White) = refl
settled_intersection White undecided (decided White) = refl
settled_intersection Black undecided undecided = refl
settled_intersection White undecided undecided = refl

settled_opposite : (possible : Bool) (m : Mark) → opposite_colour (settled (doubt_of (not possible)) m) ≡ settled (doubt_of possible) (opposite_mark m)
settled_opposite possible (decided c) = refl
settled_opposite true undecided = refl
settled_opposite false undecided = refl

-- ---- rows
-- a weighted sum whose numbers are all one more is more by the weights
one_more : (n : ℕ) (w x y : ℕ → ℕ) → ((i : ℕ) → i < n → y i ≡ x i + 1) → sum n (λ i. w i * y i) ≡ sum n (λ i. w i * x i) + sum n w
unfolding sum
one_more zero w x y h = refl
one_more (suc n) w x y h =
    omega (arith, one_more n w x y (below h), ap (λ (t : ℕ). w n * t) (top h))

module _ (u : Universe) (h : Halfspace) (v : List ℕ) where
  abbrev own : Block
  own = block_of u v

  abbrev value : ℤ
  value = centre_value u h v

  abbrev size : ℕ
  size = reach u.axes h

  end_is : (i : ℕ) → i < u.axes → end_along own i ≡ low_along own i + 1
  end_is i l = ap (λ (t : ℕ). low_along own i + t) (side_last u i l)

  reach_is : size ≡ sum u.axes (added h) + sum u.axes (taken h)
  unfolding reach
  reach_is = sum_cong u.axes _ (λ i. added h i + taken h i) (λ i l. nat_abs_parts (h.coefficient i)) ∙ sum_add u.axes (added h) (taken h)

  -- twice the least, and twice the greatest
  Twice : Type 0
  Twice = (rise h u.axes (low_along own) + rise h u.axes (end_along own) ≡ rise h u.axes (λ i. 2 * place_along v i + 1))
      × (fall h u.axes (low_along own) + fall h u.axes (end_along own) ≡ fall h u.axes (λ i. 2 * place_along v i + 1))
      × (rise h u.axes (end_along own) ≡ rise h u.axes (low_along own) + sum u.axes (added h))
      × (fall h u.axes (end_along own) ≡ fall h u.axes (low_along own) + sum u.axes (taken h))

  twice : Twice
  unfolding rise fall Twice
  twice = (
    centre_between u.axes (added h) (low_along own) (end_along own) end_is,
    centre_between u.axes (taken h) (low_along own) (end_along own) end_is,
    one_more u.axes (added h) (low_along own) (end_along own) end_is,
    one_more u.axes (taken h) (low_along own) (end_along own) end_is,
  )

  sure_in : pos 0 ≤ℤ least h own → pos 0 ≤ℤ (value +ℤ reached false size)
  unfolding Twice
  sure_in m = le_by (ν 0) (ι value ⊕ ⊝ (ν size))
      (omega (arith, le_is (is_nat 0) (least_is h own) m, (centre_is u h v).is, twice, reach_is))

  sure_out : least h own <ℤ pos 0 → (value +ℤ reached false size) <ℤ pos 0
  unfolding Twice
  sure_out m = lt_by (ι value ⊕ ⊝ (ν size)) (ν 0)
      (omega (arith, lt_is (least_is h own) (is_nat 0) m, (centre_is u h v).is, twice, reach_is))

  possible_black : pos 0 ≤ℤ least h own → pos 0 ≤ℤ (value +ℤ reached true size)
  unfolding Twice
  possible_black m = le_by (ν 0) (ι value ⊕ ν (size - 1))
      (omega (arith, le_is (is_nat 0) (least_is h own) m, (centre_is u h v).is, twice, reach_is))

  possible_in : pos 0 <ℤ greatest h own → pos 0 ≤ℤ (value +ℤ reached true size)
  unfolding Twice
  possible_in m = le_by (ν 0) (ι value ⊕ ν (size - 1))
      (omega (arith, lt_is (is_nat 0) (greatest_is h own) m, (centre_is u h v).is, twice, reach_is))

  possible_out : least h own <ℤ pos 0 → greatest h own ≤ℤ pos 0 → (value +ℤ reached true size) <ℤ pos 0
  unfolding Twice
  possible_out k m = lt_by (ι value ⊕ ν (size - 1)) (ν 0)
      (omega (arith, lt_is (least_is h own) (is_nat 0) k, le_is (greatest_is h own) (is_nat 0) m, (centre_is u h v).is, twice, reach_is))

  -- THEOREM: a voxel is sure, or possible, where the value at its centre and its reach say so
  pub row_own : (possible : Bool) → is_black (settled (doubt_of possible) (mark_over h own)) ≡ le_z (pos 0) (value +ℤ reached possible size)
  row_own possible = by possible (le_or_lt (pos 0) (least h own)) (le_or_lt (greatest h own) (pos 0))
    where
      by : (possible : Bool) → (pos 0 ≤ℤ least h own) ⊎ (least h own <ℤ pos 0) → (greatest h own ≤ℤ pos 0) ⊎ (pos 0 <ℤ greatest h own) →
          is_black (settled (doubt_of possible) (mark_over h own)) ≡ le_z (pos 0) (value +ℤ reached possible size)
      by true (inl k) m = rw (mark_black h own k, le_le_z (possible_black k))
      by true (inr k) (inl m) = rw (mark_white h own k m, lt_le_z (possible_out k m))
      by true (inr k) (inr m) = rw (mark_active h own k m, le_le_z (possible_in m))
      by false (inl k) m = rw (mark_black h own k, le_le_z (sure_in k))
      by false (inr k) (inl m) = rw (mark_white h own k m, lt_le_z (sure_out k))
      by false (inr k) (inr m) = rw (mark_active h own k m, lt_le_z (sure_out k))

-- ---- balls
-- the middle of a unit is half a unit off both its ends: so its nearest point is half a unit nearer than the middle, and its farthest as much farther
module _ (l : ℕ) (c : ℤ) where
  abbrev middle : ℕ
  middle = nat_abs (off 2 (2 * l + 1) c)

  module _ (at : ℕ) (h : l ≤ at) (k : at ≤ l + 1) where
    Beside : Type 0
    Beside = (middle ≤ 2 * nat_abs (off 1 at c) + 1) × (2 * nat_abs (off 1 at c) ≤ middle + 1)

    beside : Beside
    unfolding Beside
    beside =
        one_part (off 2 (2 * l + 1) c) Beside
        (λ y. one_part (off 1 at c) Beside
        (λ z. (omega (arith, y, z, parts), omega (arith, y, z, parts)))
        (λ z. (omega (arith, y, z, parts), omega (arith, y, z, parts))))
        (λ y. one_part (off 1 at c) Beside
        (λ z. (omega (arith, y, z, parts), omega (arith, y, z, parts)))
        (λ z. (omega (arith, y, z, parts), omega (arith, y, z, parts))))
      where
        parts : (nat_abs (off 2 (2 * l + 1) c) ≡ up (off 2 (2 * l + 1) c) + dn (off 2 (2 * l + 1) c))
            × (nat_abs (off 1 at c) ≡ up (off 1 at c) + dn (off 1 at c))
            × (up (off 2 (2 * l + 1) c) + 2 * up c ≡ 2 * l + 1 + 2 * dn c + dn (off 2 (2 * l + 1) c))
            × (up (off 1 at c) + up c ≡ at + dn c + dn (off 1 at c))
        parts = (
          nat_abs_parts (off 2 (2 * l + 1) c),
          nat_abs_parts (off 1 at c),
          omega (arith, (is_of (ν (2 * l + 1) ⊖ ν 2 ⊗ ι c)).is),
          omega (arith, (is_of (ν at ⊖ ν 1 ⊗ ι c)).is),
        )

  -- it is odd
  odd : (k : ℕ) → middle ≡ 2 * k → ⊥
  odd k e =
      one_part (off 2 (2 * l + 1) c) ⊥
      (λ y. omega (arith, y, nat_abs_parts (off 2 (2 * l + 1) c), (is_of (ν (2 * l + 1) ⊖ ν 2 ⊗ ι c)).is))
      (λ y. omega (arith, y, nat_abs_parts (off 2 (2 * l + 1) c), (is_of (ν (2 * l + 1) ⊖ ν 2 ⊗ ι c)).is))

  near_unit : 2 * nearest l (l + 1) c ≡ middle - 1
  unfolding Beside
  near_unit =
      let r = near_reached l (l + 1) c (omega arith) in
      let n = near_below l (l + 1) 2 (2 * l + 1) c (omega arith) (omega arith) in
      omega (arith, r.there, (beside r.at r.above r.below).0, n, odd (nearest l (l + 1) c))

  far_unit : 2 * farthest l (l + 1) c ≡ middle + 1
  unfolding Beside
  far_unit =
      let r = (far_reached l (l + 1) c (omega arith)).reached in
      let n = far_above l (l + 1) 2 (2 * l + 1) c (omega arith) (omega arith) in
      omega (arith, r.there, (beside r.at r.above r.below).1, n, odd (farthest l (l + 1) c))

four_squares : (n : ℕ) (f g : ℕ → ℕ) → ((i : ℕ) → i < n → 2 * f i ≡ g i) → 4 * sum n (λ i. square (f i)) ≡ sum n (λ i. square (g i))
unfolding sum
four_squares zero f g h = refl
four_squares (suc n) f g h = omega (arith, four_squares n f g (below h), ap square (sym (top h)))

module _ (u : Universe) (o : Ball) (v : List ℕ) where
  abbrev voxel : Block
  voxel = block_of u v

  abbrev off_along : ℕ → ℤ
  off_along i = off 2 (2 * place_along v i + 1) (o.centre i)

  -- a unit along each place axis
  unit : (i : ℕ) → i < place_axes u → end_along voxel i ≡ place_along v i + 1
  unit i l = ap (λ (t : ℕ). place_along v i + t) (side_last u i (omega arith))

  near_four : 4 * near_sum o voxel ≡ spread_sum true u o v
  unfolding near_sum spread_sum
  near_four =
      four_squares (place_axes u) (λ i. nearest (place_along v i) (end_along voxel i) (o.centre i)) (λ i. spread true (off_along i))
      (λ i l. ap (λ (e : ℕ). 2 * nearest (place_along v i) e (o.centre i)) (unit i l) ∙ near_unit (place_along v i) (o.centre i))

  far_four : 4 * far_sum o voxel ≡ spread_sum false u o v
  unfolding far_sum spread_sum
  far_four =
      four_squares (place_axes u) (λ i. farthest (place_along v i) (end_along voxel i) (o.centre i)) (λ i. spread false (off_along i))
      (λ i l. ap (λ (e : ℕ). 2 * farthest (place_along v i) e (o.centre i)) (unit i l) ∙ far_unit (place_along v i) (o.centre i))

  near_few : spread_sum true u o v ≤ spread_sum false u o v
  unfolding spread_sum
  near_few =
      sum_mono (place_axes u) _ _
      (λ i l. let k : spread true (off_along i) ≤ spread false (off_along i) = omega arith in mul-le-mul k k)

  -- THEOREM: a voxel is sure, or possible, where the squares of twice its farthest, or nearest, distances are within four times the radius squared
  pub ball_own : (possible : Bool) → is_black (settled (doubt_of possible) (ball_mark o voxel)) ≡ leb (spread_sum possible u o v) (4 * radius_squared o)
  ball_own possible = by possible (told o voxel)
    where
      by : (possible : Bool) {m : Mark} → Told (radius_squared o) (near_sum o voxel) (far_sum o voxel) m →
          is_black (settled (doubt_of possible) m) ≡ leb (spread_sum possible u o v) (4 * radius_squared o)
      by true (is_black_lem a) = sym (le-leb (spread_sum true u o v) (4 * radius_squared o) (omega (arith, near_few, far_four)))
      by true (is_white a d) = sym (lt-leb (spread_sum true u o v) (4 * radius_squared o) (omega (arith, near_four)))
      by true (is_undecided a d) = sym (le-leb (spread_sum true u o v) (4 * radius_squared o) (omega (arith, near_four)))
      by false (is_black_lem a) = sym (le-leb (spread_sum false u o v) (4 * radius_squared o) (omega (arith, far_four)))
      by false (is_white a d) = sym (lt-leb (spread_sum false u o v) (4 * radius_squared o) (omega (arith, far_four)))
      by false (is_undecided a d) = sym (lt-leb (spread_sum false u o v) (4 * radius_squared o) (omega (arith, far_four)))

-- ---- masks of surfaces
module _ (possible : Bool) (o : Ball) where
  -- THEOREM: of a ball over one voxel the mask is the test of its squares
  pub own_ball_voxel : (b : Block) → block_mask (own_ball possible b.universe o) 0 b
      ≡ count (leb (spread_sum possible b.universe o b.low) (4 * radius_squared o))
  unfolding own_ball
  own_ball_voxel b = mask_voxel (own_ball possible b.universe o) b ∙ ap count (ball_own b.universe o b.low possible)

  -- and across the frame axis both halves have the same
  pub own_ball_alike : {n : ℕ} {b : Block} → Left (suc n) b → place_axes b.universe ≤ axis_of b →
      block_mask (own_ball possible b.universe o) n (low b) ≡ block_mask (own_ball possible b.universe o) n (high b)
  unfolding block_mask own_ball
  own_ball_alike {n} {b} l h = mask_cong (2 ^ n) _ _ (λ i m. ap (λ (x : Mark). is_black (settled (doubt_of possible) x)) (same i))
    where
      same : (i : ℕ) → ball_mark o (block_of b.universe (voxel_at n (low b) i)) ≡ ball_mark o (block_of b.universe (voxel_at n (high b) i))
      same i =
          ball_timeless o (block_of b.universe (voxel_at n (low b) i)) (block_of b.universe (voxel_at n (high b) i)) refl
          (λ a m. place_steps n (low b) i (left_low l) a
          ∙ ap (λ (x : ℕ). x + steps_along b.universe a n i) (sym (high_kept b a (λ e. omega arith)))
          ∙ sym (place_steps n (high b) i (left_high l) a))
          (λ a m. refl)

module _ (possible : Bool) (surfaces : Surfaces) where
  -- THEOREM: of a halfspace the mask is that of its steps from a value that is moved by its reach
  pub own_halfspace : (k n : ℕ) (b : Block) → Left n b →
      block_mask (own_surface possible surfaces b.universe (halfspace k)) n b
      ≡ row_mask (centre_value b.universe (row_at surfaces.rows k) b.low +ℤ reached possible (reach b.universe.axes (row_at surfaces.rows k)))
      (row_step b.universe (row_at surfaces.rows k)) n
  unfolding block_mask own_surface surface_mark
  own_halfspace k n b l =
      mask_cong (2 ^ n) _ _ (λ i m. row_own b.universe (row_at surfaces.rows k) (voxel_at n b i) possible)
      ∙ moved_mask (row_at surfaces.rows k) (reached possible (reach b.universe.axes (row_at surfaces.rows k))) n b l

  -- of a ball it is that of the ball alone
  pub own_ball_lem : (k n : ℕ) (u : Universe) (b : Block) →
      block_mask (own_ball possible u (ball_at surfaces.balls k)) n b ≡ block_mask (own_surface possible surfaces u (ball k)) n b
  unfolding own_ball own_surface surface_mark
  own_ball_lem k n u b = refl

  -- ---- masks of trees
  module _ (u : Universe) (n : ℕ) (b : Block) where
    abbrev own_colour_lem : Plain → Colouring
    own_colour_lem p = own_colour possible surfaces u p

    -- THEOREM: operators join them as they join masks of colours
    pub own_union : (p q : Plain) → bit_or (block_mask (own_colour_lem p) n b) (block_mask (own_colour_lem q) n b) ≡ block_mask (own_colour_lem (union_of p q)) n b
    unfolding own_colour plain_mark
    own_union p q = union_mask (own_colour_lem p) (own_colour_lem q) n b ∙ mask_agree _ _ n b (λ i m. sym (settled_union (doubt_of possible) _ _))

    pub own_intersection : (p q : Plain) →
        bit_and (block_mask (own_colour_lem p) n b) (block_mask (own_colour_lem q) n b) ≡ block_mask (own_colour_lem (intersection_of p q)) n b
    unfolding own_colour plain_mark
    own_intersection p q =
        intersection_mask (own_colour_lem p) (own_colour_lem q) n b ∙ mask_agree _ _ n b (λ i m. sym (settled_intersection (doubt_of possible) _ _))

    -- and a side has the surface's, or where it is reversed the digits exchanged of that with doubt settled the other way
    pub own_side : (s : Surface) → block_mask (own_surface possible surfaces u s) n b ≡ block_mask (own_colour_lem (side false s)) n b
    unfolding own_colour own_surface plain_mark side_mark
    own_side s = refl

    pub own_reversed : (s : Surface) → exchanged (2 ^ n) (block_mask (own_surface (not possible) surfaces u s) n b) ≡ block_mask (own_colour_lem (side true s)) n b
    unfolding own_colour own_surface plain_mark side_mark
    own_reversed s =
        reversal_mask (own_surface (not possible) surfaces u s) n b ∙ mask_agree _ _ n b (λ i m. settled_opposite possible (surface_mark surfaces s (block_of u (voxel_at n b i))))

    pub own_constant : (c : Colour) → block_mask (λ v. c) n b ≡ block_mask (own_colour_lem (colour c)) n b
    unfolding own_colour plain_mark
    own_constant c = refl
