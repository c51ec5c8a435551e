-- Rules 1.9 and 5.1: voxels, the path to a voxel by halves, and windows of frames.
use Rattle.std.specs.Prelude.{ℕ, zero, suc, ◌+◌, ◌/◌, ◌%◌, ◌≤◌, ◌<◌, cond, ◌&&◌, List, [], ◌∷◌, ltb, leb, eqb, get_or}
use Rattle.lemmas.specs.Sums.{every}
use Rattle.universe.specs.declared.Universe.{Universe}
use Rattle.universe.specs.declared.Block.{Block}
use Rattle.universe.specs.Refusals.{unless, outside}
use Rattle.universe.specs.Universe.{most_axes, levels, axis_at, side_along, frame_count, block_side}
use Rattle.universe.specs.Block.{low_along, length_along}

-- a voxel is its place along each of the four axes; its place along axis i
abbrev pub place_along : List ℕ → ℕ → ℕ
place_along v i = get_or v i 0

-- rule 8.1, number 9: a place that is not along its axis, or not 0 along an axis that is not there
unfoldable pub voxel_refusal : Universe → List ℕ → ℕ
voxel_refusal u v =
    unless
    (every most_axes (λ i. cond (ltb i u.axes) (ltb (place_along v i) (side_along u i)) (eqb (place_along v i) 0)))
    outside

-- rule 8.1, number 9: a window that ends before it begins, or past the last frame; both its ends are in
unfoldable pub window_refusal : Universe → ℕ → ℕ → ℕ
window_refusal u first last = unless (leb first last && ltb last (frame_count u)) outside

-- the voxel v lies in the block b
pub record Within (b : Block) (v : List ℕ) : Type 0 where
  pub above : (i : ℕ) → i < b.universe.axes → low_along b i ≤ place_along v i
  pub below : (i : ℕ) → i < b.universe.axes → place_along v i < low_along b i + length_along b i

-- 0 or 1: of the block of level l that holds place x along its axis, the half that holds it
abbrev pub half_at : Universe → ℕ → ℕ → ℕ
half_at u l x = x / block_side u (suc l) (axis_at u l) % 2

-- the halves that lead to a voxel from a block of level l, n of them
unfoldable pub path_from : Universe → List ℕ → ℕ → ℕ → List ℕ
path_from u v l zero = []
path_from u v l (suc n) = half_at u l (place_along v (axis_at u l)) ∷ path_from u v (suc l) n

-- rule 1.9: the halves that lead to a voxel from the whole universe
abbrev pub path_to : Universe → List ℕ → List ℕ
path_to u v = path_from u v 0 (levels u)
