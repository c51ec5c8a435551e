-- The first and the last frame of a mask's black voxels, read off it halving by halving (rule 5.2).
use Rattle.std.specs.Prelude.{ℕ, zero, suc, ◌+◌, ◌/◌, ◌%◌, ◌^◌, Bool, cond, not, eqb}
use Rattle.std.specs.Int.Bits.{bit_or}
use Rattle.universe.specs.declared.Universe.{Universe}
use Rattle.universe.specs.Universe.{frame_axis}
use Rattle.masks.specs.Steps.{axis_left, side_left}

-- whether the halving that digit j stands for goes across the frame axis
abbrev pub across_frames : Universe → ℕ → Bool
across_frames u j = eqb (axis_left u j) (frame_axis u)

-- by how much the first frame of a mask that is not 0, or its last frame, is later than the block's first frame: across
-- the frame axis the low digits come first; where another axis is halved, both halves have the same frames
unfoldable pub mask_end : Bool → Universe → ℕ → ℕ → ℕ
mask_end last u zero m = 0
mask_end last u (suc n) m =
    let lower = m % 2 ^ 2 ^ n in
    let upper = m / 2 ^ 2 ^ n in
    let later = cond last (not (eqb upper 0)) (eqb lower 0) in
    cond (across_frames u n)
    (cond later (side_left u n) 0 + mask_end last u n (cond later upper lower))
    (mask_end last u n (bit_or lower upper))
