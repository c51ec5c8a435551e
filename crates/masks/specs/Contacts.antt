-- Rules 5.1 and 5.2, block by block: what a contact becomes with a block's black voxels of a window.
use Rattle.std.specs.Prelude.{ℕ, ◌+◌, ◌<◌, ◌≡◌, true, false, List}
use Rattle.universe.specs.declared.Universe.{Universe}
use Rattle.universe.specs.declared.Block.{Block}
use Rattle.universe.specs.Voxel.{place_along}
use Rattle.bintree.specs.declared.Contact.{Contact}
use Rattle.demands.specs.Voxels.{Colouring}
use Rattle.masks.specs.Counts.{black_in}
use Rattle.masks.specs.Windows.{windowed}
use Rattle.masks.specs.Ends.{end_in}

-- the block's black voxels in the window joined: their first frame where it is earlier, their last where it is later,
-- and their number added
unfoldable pub contact_in : ℕ → ℕ → Colouring → ℕ → Block → Contact → Contact
contact_in first last colours n b k =
    let seen = windowed b.universe first last colours in
    record {
      first = end_in false seen n b k.first;
      last = end_in true seen n b k.last;
      voxels = k.voxels + black_in b seen;
    }

-- a colouring that looks at a voxel's places along the universe's axes alone, as a tree's and a shape's do
pub record ByPlaces (u : Universe) (colours : Colouring) : Type 0 where
  pub same : (v w : List ℕ) → ((i : ℕ) → i < u.axes → place_along v i ≡ place_along w i) → colours v ≡ colours w
