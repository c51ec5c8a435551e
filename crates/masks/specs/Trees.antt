-- The mask of a tree over a block, by bit operations on the masks of its leaves: rules 3.3 and 3.4, of many voxels at
-- once.
use Rattle.std.specs.Prelude.{ℕ, ◌^◌}
use Rattle.std.specs.Int.Bits.{bit_and, bit_or}
use Rattle.universe.specs.declared.Block.{Block}
use Rattle.csg.specs.Surfaces.{Surfaces}
use Rattle.csg.specs.Tree.{Leaf, white, black, surface, Operator, union, intersection, minus, Tree}
use Rattle.csg.specs.Words.{fold}
use Rattle.csg.specs.Marks.{surface_colour}
use Rattle.masks.specs.Mask.{all_ones, exchanged}
use Rattle.masks.specs.Block.{block_mask}

-- of a leaf: no digit, all digits, or those of the surface's colours
abbrev pub leaf_mask : Surfaces → ℕ → Block → Leaf → ℕ
leaf_mask surfaces n b white = 0
leaf_mask surfaces n b black = all_ones (2 ^ n)
leaf_mask surfaces n b (surface s) = block_mask (surface_colour surfaces b.universe s) n b

-- of an operator over two masks of 2^n digits
abbrev pub join_masks : ℕ → Operator → ℕ → ℕ → ℕ
join_masks n union x y = bit_or x y
join_masks n intersection x y = bit_and x y
join_masks n minus x y = bit_and x (exchanged (2 ^ n) y)

unfoldable pub tree_mask : Surfaces → ℕ → Block → Tree → ℕ
tree_mask surfaces n b t = fold (leaf_mask surfaces n b) (join_masks n) t
