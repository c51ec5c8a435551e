-- The voxels of a block by their numbers, and the mask of their colours. A block with n levels left has 2^n voxels; the
-- digits of a voxel's number are the halves that lead to it, the first halving's the highest digit.
use Rattle.std.specs.Prelude.{ℕ, zero, suc, ◌^◌, Bool, cond, List, [], ◌∷◌}
use Rattle.universe.specs.declared.Block.{Block}
use Rattle.universe.specs.Block.{low, high}
use Rattle.demands.specs.Voxels.{Colouring, is_black}
use Rattle.masks.specs.Mask.{digit_of, has_digit, mask_of}

-- of a block's halves, the high one where the test says so
abbrev pub half_of : Bool → Block → Block
half_of higher b = cond higher (high b) (low b)

-- the voxel-sized block number i of a block with n levels left, and the voxel itself
unfoldable pub part_at : ℕ → Block → ℕ → Block
part_at zero b i = b
part_at (suc n) b i = part_at n (half_of (has_digit i n) b) i

abbrev pub voxel_at : ℕ → Block → ℕ → List ℕ
voxel_at n b i = (part_at n b i).low

-- the halves that lead to it, as digits
unfoldable pub digits : ℕ → ℕ → List ℕ
digits zero i = []
digits (suc n) i = digit_of i n ∷ digits n i

-- whether it is black
abbrev pub is_black_at : Colouring → ℕ → Block → ℕ → Bool
is_black_at colours n b i = is_black (colours (voxel_at n b i))

-- THE MASK OF A BLOCK: digit i is 1 exactly where voxel number i is black
unfoldable pub block_mask : Colouring → ℕ → Block → ℕ
block_mask colours n b = mask_of (2 ^ n) (is_black_at colours n b)
