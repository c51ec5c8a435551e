-- How one recursion over blocks meets rule 14.2: a block is examined as for the raw expression (4.2), but a voxel that
-- is left undecided is painted by any colouring. And the black voxels that a block's shape has in a window.
use Rattle.std.specs.Prelude.{ℕ, zero, suc, ◌+◌, ◌-◌, ◌<◌, min, max, ◌≡◌, List}
use Rattle.lemmas.specs.Sums.{sum}
use Rattle.universe.specs.declared.Universe.{Universe}
use Rattle.universe.specs.declared.Block.{Block}
use Rattle.universe.specs.Block.{low, high}
use Rattle.universe.specs.Voxel.{place_along}
use Rattle.bintree.specs.Shape.{Shape, leaf, halved}
use Rattle.bintree.specs.Counts.{frames, voxels_from, inside}
use Rattle.bintree.specs.Verdicts.{window_length}
use Rattle.csg.specs.Halfspace.{decided, undecided}
use Rattle.csg.specs.Surfaces.{Surfaces}
use Rattle.csg.specs.Tree.{Tree}
use Rattle.csg.specs.Marks.{tree_mark}
use Rattle.demands.specs.Voxels.{Colouring}
use Rattle.contacts.specs.Contacts.{settled}

-- a block n levels above L: its colour where the tree is decided, else both halves, or at level L the paint
unfoldable pub painted : Colouring → Surfaces → Tree → ℕ → Block → Shape
painted paint surfaces t zero b = leaf (settled (paint b.low) (tree_mark surfaces t b))
painted paint surfaces t (suc n) b =
    elim (tree_mark surfaces t b) [
      | decided c ↦ leaf c
      | undecided ↦ halved (painted paint surfaces t n (low b)) (painted paint surfaces t n (high b))
    ]

-- a paint that depends on a voxel's places along the universe's axes
pub record ByPlaces (u : Universe) (paint : Colouring) : Type 0 where
  pub same : (v w : List ℕ) → ((i : ℕ) → i < u.axes → place_along v i ≡ place_along w i) → paint v ≡ paint w

-- the black voxels, in the frames first to last, of a shape that stands for a block of level l whose frames begin at
-- `frame`
unfoldable pub voxels_over : Universe → ℕ → ℕ → ℕ → ℕ → Shape → ℕ
voxels_over u first last l frame s =
    sum (window_length first last) (λ c. inside frame (frames u l) (voxels_from u l s) (first + c))

-- how many of the n frames from `frame` on lie in the window, where one does
abbrev pub frames_met : ℕ → ℕ → ℕ → ℕ → ℕ
frames_met first last frame n = window_length (max frame first) (min (frame + (n - 1)) last)
