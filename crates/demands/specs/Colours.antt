-- Demand 2 (rule 10.2): the colours of an expression are those of the tree at the centres of voxels.
use Rattle.std.specs.Prelude.{◌≡◌, ℕ, List}
use Rattle.universe.specs.declared.Universe.{Universe}
use Rattle.universe.specs.Voxel.{voxel_refusal}
use Rattle.bintree.specs.Shape.{Shape, symbols}
use Rattle.bintree.specs.Reading.{read, expression}
use Rattle.bintree.specs.Merging.{merged}
use Rattle.bintree.specs.Parts.{colour_at}
use Rattle.csg.specs.Surfaces.{Surfaces}
use Rattle.csg.specs.Tree.{Tree}
use Rattle.csg.specs.Marks.{tree_colour}
use Rattle.csg.specs.Raw.{raw}

-- every voxel of a shape has the colour of the whole tree, nothing of it left out, at the voxel's centre; and the
-- shape's symbols, read, are the shape
pub record Shows (u : Universe) (surfaces : Surfaces) (t : Tree) (s : Shape) : Type 0 where
  pub colours : (v : List ℕ) → voxel_refusal u v ≡ 0 → colour_at u s v ≡ tree_colour surfaces u t v
  pub reads : expression u (symbols s) ≡ read s

-- so it is of the raw and of the merged shape
pub record ColoursKept (u : Universe) (surfaces : Surfaces) (t : Tree) : Type 0 where
  pub raw_shows : Shows u surfaces t (raw u surfaces t)
  pub merged_shows : Shows u surfaces t (merged (raw u surfaces t))
