-- Rule 4.11: nothing shorter says it. Of all lists of symbols that have given colours at all voxels, which has the
-- fewest.
use Rattle.std.specs.Prelude.{ℕ, ◌≤◌, ◌≡◌, List, length}
use Rattle.universe.specs.declared.Universe.{Universe}
use Rattle.universe.specs.Voxel.{voxel_refusal}
use Rattle.bintree.specs.Shape.{Shape}
use Rattle.bintree.specs.Reading.{read, expression}
use Rattle.bintree.specs.Parts.{colour_at}
use Rattle.demands.specs.Voxels.{Colouring}

-- a list of symbols is well-formed and has these colours at all voxels
pub record Has (u : Universe) (colours : Colouring) (x : List ℕ) : Type 0 where
  pub shape : Shape
  pub reads : expression u x ≡ read shape
  pub shows : (v : List ℕ) → voxel_refusal u v ≡ 0 → colour_at u shape v ≡ colours v

-- x has them, none that has them is shorter, and one that is as long is x, byte for byte
pub record Fewest (u : Universe) (colours : Colouring) (x : List ℕ) : Type 0 where
  pub itself : Has u colours x
  pub no_longer : (y : List ℕ) → Has u colours y → length x ≤ length y
  pub only : (y : List ℕ) → Has u colours y → length x ≡ length y → x ≡ y
