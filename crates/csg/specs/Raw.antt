-- Rule 4.2: the raw expression, by examining blocks; and how many blocks are examined (10.3).
use Rattle.std.specs.Prelude.{ℕ, zero, suc, ◌+◌}
use Rattle.universe.specs.declared.Universe.{Universe}
use Rattle.universe.specs.declared.Block.{Block}
use Rattle.universe.specs.Universe.{levels}
use Rattle.universe.specs.Block.{whole_block, low, high}
use Rattle.bintree.specs.Shape.{Shape, leaf, halved}
use Rattle.csg.specs.Halfspace.{decided, undecided}
use Rattle.csg.specs.Surfaces.{Surfaces}
use Rattle.csg.specs.Tree.{Tree, node, intersection}
use Rattle.csg.specs.Marks.{tree_mark, tree_colour}

-- rule 4.2, of a block n levels above L: its colour where the tree is decided, else both halves, or at level L the
-- colour at the centre
unfoldable pub examine : Surfaces → Tree → ℕ → Block → Shape
examine surfaces t zero b =
    elim (tree_mark surfaces t b)
    [ decided c ↦ leaf c | undecided ↦ leaf (tree_colour surfaces b.universe t b.low) ]
examine surfaces t (suc n) b =
    elim (tree_mark surfaces t b)
    [ decided c ↦ leaf c | undecided ↦ halved (examine surfaces t n (low b)) (examine surfaces t n (high b)) ]

-- the shape whose symbols are the raw expression
abbrev pub raw : Universe → Surfaces → Tree → Shape
raw u surfaces t = examine surfaces t (levels u) (whole_block u)

-- two trees intersected
abbrev pub both : Tree → Tree → Tree
both s t = node intersection s t

-- the blocks that the rule examines: the block itself and, where it is undecided above level L, those of both halves
unfoldable pub examined : Surfaces → Tree → ℕ → Block → ℕ
examined surfaces t zero b = 1
examined surfaces t (suc n) b =
    elim (tree_mark surfaces t b)
    [ decided c ↦ 1 | undecided ↦ suc (examined surfaces t n (low b) + examined surfaces t n (high b)) ]

abbrev pub blocks_examined : Universe → Surfaces → Tree → ℕ
blocks_examined u surfaces t = examined surfaces t (levels u) (whole_block u)
