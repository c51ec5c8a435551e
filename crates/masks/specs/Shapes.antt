-- The merged shape of a mask (rule 4.3), and how many symbols it has.
use Rattle.std.specs.Prelude.{ℕ, zero, suc, ◌+◌, ◌*◌, ◌/◌, ◌%◌, ◌^◌, cond, eqb}
use Rattle.std.specs.Int.Bits.{bit_and, bit_or, bit_xor}
use Rattle.std.specs.Int.Count.{ones}
use Rattle.lemmas.specs.Sums.{sum}
use Rattle.universe.specs.declared.Block.{Block}
use Rattle.universe.specs.Block.{low, high}
use Rattle.bintree.specs.declared.Colour.TheVariants.{White, Black}
use Rattle.bintree.specs.Shape.{Shape, leaf, halved}
use Rattle.demands.specs.Voxels.{Colouring}
use Rattle.masks.specs.Mask.{mask_of, all_ones}

-- a block with n levels left, halved down to its voxels
unfoldable pub voxel_shape : Colouring → ℕ → Block → Shape
voxel_shape colours zero b = leaf (colours b.low)
voxel_shape colours (suc n) b = halved (voxel_shape colours n (low b)) (voxel_shape colours n (high b))

-- the merged shape of a mask of 2^n digits: one leaf where they are alike, else that of its low and of its high digits
unfoldable pub mask_shape : ℕ → ℕ → Shape
mask_shape zero m = cond (eqb m 0) (leaf White) (leaf Black)
mask_shape (suc n) m =
    cond (eqb m 0) (leaf White)
    (cond (eqb m (all_ones (2 ^ suc n))) (leaf Black)
    (halved (mask_shape n (m % 2 ^ 2 ^ n)) (mask_shape n (m / 2 ^ 2 ^ n))))

-- digit i is 1 where the 2^j digits of m from i on are not alike
unfoldable pub mixed_mask : ℕ → ℕ → ℕ
mixed_mask zero m = 0
mixed_mask (suc j) m =
    let mixed = mixed_mask j m in
    bit_or (bit_or mixed (mixed / 2 ^ 2 ^ j)) (bit_xor m (m / 2 ^ 2 ^ j))

-- the multiples of 2^j below 2^n, where the blocks of 2^j voxels begin
unfoldable pub starts_mask : ℕ → ℕ → ℕ
starts_mask n j = mask_of (2 ^ n) (λ i. eqb (i % 2 ^ j) 0)

-- one symbol, and two more for each block, of any size, whose digits are not alike
unfoldable pub mask_size : ℕ → ℕ → ℕ
mask_size n m = 1 + 2 * sum n (λ j. ones (bit_and (mixed_mask (suc j) m) (starts_mask n (suc j))))
