-- Rule 12.2 from the voxels' colours: a voxel of the result is black exactly if some voxel over it, along the dropped
-- axis, is black. Axes are counted from 0 here.
use Rattle.std.specs.Prelude.{ℕ, ◌<◌, ◌≡◌, cond, List, eqb}
use Rattle.lemmas.specs.Grid.{listed}
use Rattle.universe.specs.declared.Universe.{Universe}
use Rattle.universe.specs.Rounds.{axis_after}
use Rattle.universe.specs.Universe.{most_axes, side_along, without_axis}
use Rattle.universe.specs.Voxel.{place_along, voxel_refusal}
use Rattle.bintree.specs.declared.Colour.{Colour}
use Rattle.bintree.specs.declared.Colour.TheVariants.{Black}

-- the voxel over w that has place x along axis j: the places of w along the other axes
abbrev pub voxel_over : ℕ → ℕ → List ℕ → List ℕ
voxel_over j x w = listed most_axes (λ i. cond (eqb i j) x (place_along w (axis_after j i)))

-- over the voxel w, along axis j, lies a black one
pub record BlackOver (u : Universe) (j : ℕ) (colours : List ℕ → Colour) (w : List ℕ) : Type 0 where
  pub place : ℕ
  pub inside : place < side_along u j
  pub black : colours (voxel_over j place w) ≡ Black

-- `below` colours the voxels of the universe without axis j, black exactly where a black voxel of `colours` lies over
pub record Sweeps (u : Universe) (j : ℕ) (colours below : List ℕ → Colour) : Type 0 where
  pub black_over : (w : List ℕ) → voxel_refusal (without_axis u j) w ≡ 0 → below w ≡ Black → BlackOver u j colours w
  pub over_black : (w : List ℕ) → voxel_refusal (without_axis u j) w ≡ 0 → BlackOver u j colours w → below w ≡ Black
