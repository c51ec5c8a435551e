-- Rule 3.4: the reversal of a tree beside the tree itself.
use Rattle.std.specs.Prelude.{ℕ, ◌≡◌, List}
use Rattle.universe.specs.declared.Universe.{Universe}
use Rattle.universe.specs.declared.Block.{Block}
use Rattle.csg.specs.Surfaces.{Surfaces}
use Rattle.csg.specs.Tree.{Tree, reversal}
use Rattle.csg.specs.Marks.{opposite_colour, opposite_mark, plain_mark, plain_colour, tree_mark, tree_colour}

-- it is decided exactly where the tree is, with the opposite colour, over every block, and has the opposite colour at
-- every centre
pub record Opposite (surfaces : Surfaces) (t : Tree) : Type 0 where
  pub over_blocks : (b : Block) → plain_mark surfaces (reversal t) b ≡ opposite_mark (tree_mark surfaces t b)
  pub at_centres : (u : Universe) (v : List ℕ) →
      plain_colour surfaces u (reversal t) v ≡ opposite_colour (tree_colour surfaces u t v)
