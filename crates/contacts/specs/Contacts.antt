-- Rules 14.1 and 14.2: sure and possible contact, voxel by voxel, by the mark over each voxel's own block; and how many
-- voxels of a window have a colour's contact.
use Rattle.std.specs.Prelude.{ℕ, ◌+◌, List}
use Rattle.lemmas.specs.Sums.{sum}
use Rattle.universe.specs.declared.Universe.{Universe}
use Rattle.universe.specs.declared.Block.{Block}
use Rattle.universe.specs.Universe.{levels}
use Rattle.bintree.specs.declared.Colour.{Colour}
use Rattle.bintree.specs.declared.Colour.TheVariants.{White, Black}
use Rattle.bintree.specs.Verdicts.{window_length}
use Rattle.csg.specs.Halfspace.{Mark, decided, undecided}
use Rattle.csg.specs.Surfaces.{Surfaces}
use Rattle.csg.specs.Tree.{Tree}
use Rattle.csg.specs.Marks.{tree_mark}
use Rattle.demands.specs.Voxels.{Colouring, black_voxels_at}

-- rule 14.1: a voxel's own block is that of level L at its place
abbrev pub block_of : Universe → List ℕ → Block
block_of u v = record { universe = u; level = levels u; low = v }

-- a mark as a colour: its own where it is decided, else the one given for doubt
abbrev pub settled : Colour → Mark → Colour
settled doubt (decided c) = c
settled doubt undecided = doubt

-- rule 14.1: a voxel is sure where the tree is decided BLACK over its own block: doubt counts as WHITE
unfoldable pub sure_colour : Surfaces → Universe → Tree → Colouring
sure_colour surfaces u t v = settled White (tree_mark surfaces t (block_of u v))

-- and possible where the tree is not decided WHITE there: doubt counts as BLACK
unfoldable pub possible_colour : Surfaces → Universe → Tree → Colouring
possible_colour surfaces u t v = settled Black (tree_mark surfaces t (block_of u v))

-- rule 14.2: how many voxels of the frames first to last, both ends in, are black in a colouring
unfoldable pub window_voxels : Universe → Colouring → ℕ → ℕ → ℕ
window_voxels u colours first last = sum (window_length first last) (λ c. black_voxels_at u colours (first + c))
