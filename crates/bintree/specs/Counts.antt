-- Rules 4.8 and 5.2: black voxels of a shape, all of them (its volume) and those of one frame. A shape stands for a
-- block of level l.
use Rattle.std.specs.Prelude.{ℕ, suc, ◌+◌, Bool, true, false, cond, ◌&&◌, eqb, leb, ltb}
use Rattle.lemmas.specs.Sums.{product}
use Rattle.universe.specs.declared.Universe.{Universe}
use Rattle.universe.specs.Universe.{axis_at, frame_axis, block_side}
use Rattle.universe.specs.Voxel.{half_at}
use Rattle.bintree.specs.declared.Colour.TheVariants.{White, Black}
use Rattle.bintree.specs.Shape.{Shape, leaf, halved}

-- rule 4.8: a black block of level l counts the voxels in it, the product of its lengths
unfoldable pub volume_from : Universe → ℕ → Shape → ℕ
volume_from u l (leaf Black) = product u.axes (block_side u l)
volume_from u l (leaf White) = 0
volume_from u l (halved a b) = volume_from u (suc l) a + volume_from u (suc l) b

abbrev pub volume : Universe → Shape → ℕ
volume u s = volume_from u 0 s

-- how many frames a block of level l has, and how many voxels each of them: its other lengths multiplied
abbrev pub frames : Universe → ℕ → ℕ
frames u l = block_side u l (frame_axis u)

abbrev pub voxels_each : Universe → ℕ → ℕ
voxels_each u l = product (frame_axis u) (block_side u l)

-- of the two halves' counts, at a level that halves the frame axis that of the half which holds the frame, elsewhere
-- both
abbrev pub of_halves : Bool → Bool → ℕ → ℕ → ℕ
of_halves true true low high = low
of_halves true false low high = high
of_halves false lower low high = low + high

-- the black voxels at a frame that the block's frames hold
unfoldable pub voxels_from : Universe → ℕ → Shape → ℕ → ℕ
voxels_from u l (leaf Black) frame = voxels_each u l
voxels_from u l (leaf White) frame = 0
voxels_from u l (halved a b) frame =
    of_halves (eqb (axis_at u l) (frame_axis u)) (eqb (half_at u l frame) 0)
    (voxels_from u (suc l) a frame) (voxels_from u (suc l) b frame)

abbrev pub voxels_at : Universe → Shape → ℕ → ℕ
voxels_at u s frame = voxels_from u 0 s frame

-- f at the n frames from `frame` on, and 0 elsewhere
unfoldable pub inside : ℕ → ℕ → (ℕ → ℕ) → ℕ → ℕ
inside frame n f c = cond (leb frame c && ltb c (frame + n)) (f c) 0
