-- Rules 5.1 and 5.2: a window of frames as a colouring and as a mask.
use Rattle.std.specs.Prelude.{ℕ, ◌+◌, ◌^◌, Bool, cond, ◌&&◌, leb}
use Rattle.universe.specs.declared.Universe.{Universe}
use Rattle.universe.specs.declared.Block.{Block}
use Rattle.universe.specs.Universe.{frame_axis}
use Rattle.universe.specs.Block.{low_along}
use Rattle.bintree.specs.declared.Colour.TheVariants.{White}
use Rattle.demands.specs.Voxels.{Colouring}
use Rattle.demands.specs.Verdicts.{frame_of}
use Rattle.masks.specs.Mask.{mask_of}
use Rattle.masks.specs.Steps.{steps_along}

-- whether a frame is one of the window's, both its ends in
abbrev pub is_between : ℕ → ℕ → ℕ → Bool
is_between first last frame = leb first frame && leb frame last

-- a colouring within a window: WHITE in all other frames
abbrev pub windowed : Universe → ℕ → ℕ → Colouring → Colouring
windowed u first last colours v = cond (is_between first last (frame_of u v)) (colours v) White

-- the frame of voxel number i of a block: the block's first frame and a step for each digit of the frame axis
abbrev pub frame_at : ℕ → Block → ℕ → ℕ
frame_at n b i = low_along b (frame_axis b.universe) + steps_along b.universe (frame_axis b.universe) n i

-- the mask of those voxels, of a block with n levels left whose frames begin at `frame`, whose frames are the window's
unfoldable pub window_mask : ℕ → ℕ → Universe → ℕ → ℕ → ℕ
window_mask first last u n frame =
    mask_of (2 ^ n) (λ i. is_between first last (frame + steps_along u (frame_axis u) n i))
