-- Rules 4.8 and 5.2: black voxels, counted one by one over the grid of the universe's voxels. A colouring gives each
-- voxel its colour, as a shape does (`colour_at u s`) or a tree (`tree_colour surfaces u t`).
use Rattle.std.specs.Prelude.{ℕ, Bool, true, false, List}
use Rattle.lemmas.specs.Grid.{count, put, grid, listed}
use Rattle.universe.specs.declared.Universe.{Universe}
use Rattle.universe.specs.Universe.{most_axes, side_along, frame_axis}
use Rattle.bintree.specs.declared.Colour.{Colour}
use Rattle.bintree.specs.declared.Colour.TheVariants.{White, Black}

abbrev pub Colouring : Type 0
Colouring = List ℕ → Colour

-- whether a colour is Black
abbrev pub is_black : Colour → Bool
is_black Black = true
is_black White = false

-- 1 where the voxel with these places is black, else 0
abbrev pub count_black : Colouring → (ℕ → ℕ) → ℕ
count_black colours p = count (is_black (colours (listed most_axes p)))

-- how many voxels of the universe are black
unfoldable pub black_voxels : Universe → Colouring → ℕ
black_voxels u colours = grid u.axes (side_along u) (count_black colours)

-- and how many of one frame: the frame axis is the last one, so these are a grid of the other axes, the frame's place
-- put in
unfoldable pub black_voxels_at : Universe → Colouring → ℕ → ℕ
black_voxels_at u colours frame = grid (frame_axis u) (side_along u) (λ p. count_black colours (put (frame_axis u) frame p))
