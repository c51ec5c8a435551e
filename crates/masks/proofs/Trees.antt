-- Operators on colourings are bit operations on masks, and reversal exchanges the digits; so a tree's mask, folded from its leaves' masks, is the mask of its
-- colours at the centres. A MINUS B is A and B exchanged, since a reversed tree has the opposite colour at every centre.
use mathlib.Core.Path.{◌≡◌, refl, sym, ap, ap₂, ◌∙◌}
use mathlib.Core.Bool.{not, ◌&&◌, ◌||◌}
use Prim.Native.Nat.{ℕ, ◌^◌, ◌≤◌, ◌<◌}
use native.Mathlib.Nat.{lt_of_le_of_lt}
use lib.Pow.{pow_pos, ones_lt}
use lib.Bits.{bit_and, bit_or, or_lt, and_lt, and_le_l}
use Rattle.universe.specs.declared.Block.{Block}
use Rattle.bintree.specs.declared.Colour.{Colour}
use Rattle.bintree.specs.declared.Colour.TheVariants.{White, Black}
use Rattle.csg.specs.Surfaces.{Surfaces, halfspace, ball}
use Rattle.csg.specs.Halfspace.{row_at, centre_value}
use Rattle.csg.specs.Ball.{ball_at}
use Rattle.csg.specs.Tree.{Leaf, white, black, surface, Operator, union, intersection, minus, Tree, leaf, node, plain}
use Rattle.csg.specs.Words.{fold}
use Rattle.csg.specs.Marks.{union_colour, intersection_colour, opposite_colour, surface_colour, side_colour, plain_colour, tree_colour}
use Rattle.csg.specs.Raw.{both}
use Rattle.csg.proofs.Marks.{reversal_colour}
use Rattle.demands.specs.Voxels.{Colouring, is_black}
use Rattle.masks.specs.Mask.{all_ones, exchanged}
use Rattle.masks.specs.Block.{voxel_at, is_black_at, block_mask}
use Rattle.masks.specs.Leaves.{row_step, row_mask, ball_mask}
use Rattle.masks.specs.Trees.{leaf_mask, join_masks, tree_mask}
use Rattle.masks.proofs.Mask.{mask_cong, or_masks, and_masks, not_mask, nowhere_mask, everywhere_mask}
use Rattle.masks.proofs.Digits.{and_exchanged}
use Rattle.masks.proofs.Block.{Left, mask_fits}
use Rattle.masks.proofs.Leaves.{halfspace_mask, ball_mask_lem}

-- ---- operators on colourings

union_black : (c d : Colour) → is_black c || is_black d ≡ is_black (union_colour c d)
unfolding union_colour
union_black Black d = refl
union_black White d = refl

intersection_black : (c d : Colour) → is_black c && is_black d ≡ is_black (intersection_colour c d)
unfolding intersection_colour
intersection_black Black d = refl
intersection_black White d = refl

opposite_black : (c : Colour) → not (is_black c) ≡ is_black (opposite_colour c)
opposite_black Black = refl
opposite_black White = refl

module _ (c d : Colouring) (n : ℕ) (b : Block) where
  -- THEOREM: UNION, INTERSECTION, reversal and MINUS of colourings are or, and, exchange and and-not of masks
  pub union_mask : bit_or (block_mask c n b) (block_mask d n b) ≡ block_mask (λ v. union_colour (c v) (d v)) n b
  unfolding block_mask
  union_mask =
      or_masks (2 ^ n) (is_black_at c n b) (is_black_at d n b) ∙ mask_cong (2 ^ n) _ _ (λ i l. union_black (c (voxel_at n b i)) (d (voxel_at n b i)))

  pub intersection_mask : bit_and (block_mask c n b) (block_mask d n b) ≡ block_mask (λ v. intersection_colour (c v) (d v)) n b
  unfolding block_mask
  intersection_mask =
      and_masks (2 ^ n) (is_black_at c n b) (is_black_at d n b) ∙ mask_cong (2 ^ n) _ _ (λ i l. intersection_black (c (voxel_at n b i)) (d (voxel_at n b i)))

pub reversal_mask : (c : Colouring) (n : ℕ) (b : Block) → exchanged (2 ^ n) (block_mask c n b) ≡ block_mask (λ v. opposite_colour (c v)) n b
unfolding block_mask
reversal_mask c n b = not_mask (2 ^ n) (is_black_at c n b) ∙ mask_cong (2 ^ n) _ _ (λ i l. opposite_black (c (voxel_at n b i)))

pub minus_mask : (c d : Colouring) (n : ℕ) (b : Block) →
    bit_and (block_mask c n b) (exchanged (2 ^ n) (block_mask d n b)) ≡ block_mask (λ v. intersection_colour (c v) (opposite_colour (d v))) n b
minus_mask c d n b =
    ap (bit_and (block_mask c n b)) (reversal_mask d n b) ∙ intersection_mask c (λ v. opposite_colour (d v)) n b

-- one colour everywhere
pub white_mask_lem : (n : ℕ) (b : Block) → block_mask (λ v. White) n b ≡ 0
unfolding block_mask
white_mask_lem n b = nowhere_mask (2 ^ n)

pub black_mask_lem : (n : ℕ) (b : Block) → block_mask (λ v. Black) n b ≡ all_ones (2 ^ n)
unfolding block_mask
black_mask_lem n b = everywhere_mask (2 ^ n)

-- ---- surfaces

-- THEOREM: the mask of a surface: of a halfspace by its steps, of a ball by its squares
pub surface_halfspace : (surfaces : Surfaces) (k n : ℕ) (b : Block) → Left n b →
    block_mask (surface_colour surfaces b.universe (halfspace k)) n b
    ≡ row_mask (centre_value b.universe (row_at surfaces.rows k) b.low) (row_step b.universe (row_at surfaces.rows k)) n
unfolding surface_colour
surface_halfspace surfaces k n b l = halfspace_mask (row_at surfaces.rows k) n b l

pub surface_ball : (surfaces : Surfaces) (k n : ℕ) (b : Block) → Left n b →
    block_mask (surface_colour surfaces b.universe (ball k)) n b ≡ ball_mask (ball_at surfaces.balls k) n b
unfolding surface_colour
surface_ball surfaces k n b l = ball_mask_lem (ball_at surfaces.balls k) n b l

-- ---- trees

module _ (surfaces : Surfaces) (n : ℕ) (b : Block) where
  abbrev colours_of : Tree → Colouring
  colours_of t v = tree_colour surfaces b.universe t v

  join_mask : (o : Operator) (s t : Tree) →
      join_masks n o (block_mask (colours_of s) n b) (block_mask (colours_of t) n b) ≡ block_mask (colours_of (node o s t)) n b
  unfolding plain plain_colour
  join_mask union s t = union_mask (colours_of s) (colours_of t) n b
  join_mask intersection s t = intersection_mask (colours_of s) (colours_of t) n b
  join_mask minus s t =
      minus_mask (colours_of s) (colours_of t) n b
      ∙ ap (λ (c : Colouring). block_mask c n b) (λ j v. intersection_colour (colours_of s v) (sym (reversal_colour surfaces t b.universe v) j))

  -- THEOREM: the mask of a tree, folded from its leaves' masks, is the mask of its colours at the centres
  pub tree_mask_lem : (t : Tree) → tree_mask surfaces n b t ≡ block_mask (tree_colour surfaces b.universe t) n b
  unfolding tree_mask fold plain plain_colour side_colour
  tree_mask_lem (leaf white) = sym (white_mask_lem n b)
  tree_mask_lem (leaf black) = sym (black_mask_lem n b)
  tree_mask_lem (leaf (surface s)) = refl
  tree_mask_lem (node o s t) = ap₂ (join_masks n o) (tree_mask_lem s) (tree_mask_lem t) ∙ join_mask o s t

  -- two trees at once
  pub both_mask : (s t : Tree) → bit_and (tree_mask surfaces n b s) (tree_mask surfaces n b t) ≡ block_mask (tree_colour surfaces b.universe (both s t)) n b
  both_mask s t = ap₂ bit_and (tree_mask_lem s) (tree_mask_lem t) ∙ join_mask intersection s t

-- ---- masks on the way, in a machine number

-- no operator leaves a mask's digits
pub join_fits : (n : ℕ) (o : Operator) (x y : ℕ) → x < 2 ^ 2 ^ n → y < 2 ^ 2 ^ n → join_masks n o x y < 2 ^ 2 ^ n
join_fits n union x y h k = or_lt (2 ^ n) x y h k
join_fits n intersection x y h k = and_lt (2 ^ n) x y h k
join_fits n minus x y h k = lt_of_le_of_lt (and_le_l x (exchanged (2 ^ n) y)) h

pub leaf_fits : (surfaces : Surfaces) (n : ℕ) (b : Block) (l : Leaf) → leaf_mask surfaces n b l < 2 ^ 2 ^ n
leaf_fits surfaces n b white = pow_pos (2 ^ n)
leaf_fits surfaces n b black = ones_lt (2 ^ n)
leaf_fits surfaces n b (surface s) = mask_fits (surface_colour surfaces b.universe s) n b

-- and MINUS may exchange all digits of the machine number
pub minus_machine : (n w x y : ℕ) → 2 ^ n ≤ w → x < 2 ^ 2 ^ n → y < 2 ^ 2 ^ n → bit_and x (exchanged w y) ≡ join_masks n minus x y
minus_machine n w x y h k m = and_exchanged (2 ^ n) w x y h k m
