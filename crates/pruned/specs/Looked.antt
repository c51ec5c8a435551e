-- Rules 16.2 and 16.3: what examining the trees of a run writes, and the nodes that are looked at.
use Rattle.std.specs.Prelude.{ℕ, zero, suc, ◌+◌, List}
use Rattle.universe.specs.declared.Universe.{Universe}
use Rattle.universe.specs.declared.Block.{Block}
use Rattle.universe.specs.Universe.{levels}
use Rattle.universe.specs.Block.{whole_block, low, high}
use Rattle.bintree.specs.Shape.{Shape, leaf, halved}
use Rattle.csg.specs.Halfspace.{decided, undecided}
use Rattle.csg.specs.Surfaces.{Surfaces}
use Rattle.csg.specs.Tree.{Plain}
use Rattle.pruned.specs.Left.{all_mark, all_colour, all_left, all_nodes}

-- rule 4.2 of several trees intersected, over a block n levels above L
unfoldable pub examine_all : Surfaces → List Plain → ℕ → Block → Shape
examine_all surfaces ps zero b = leaf (all_colour surfaces b.universe ps b.low)
examine_all surfaces ps (suc n) b =
    elim (all_mark surfaces ps b)
    [ decided c ↦ leaf c | undecided ↦ halved (examine_all surfaces ps n (low b)) (examine_all surfaces ps n (high b)) ]

-- rule 16.2: the nodes looked at, over the examined blocks: into a block n levels above L so many are carried, and into
-- the halves of an undecided one what is left of the full trees over it
unfoldable pub looked_at : Surfaces → List Plain → ℕ → Block → ℕ → ℕ
looked_at surfaces ps zero b carried = carried
looked_at surfaces ps (suc n) b carried =
    elim (all_mark surfaces ps b) [
      | decided c ↦ carried
      | undecided ↦ carried
          + (looked_at surfaces ps n (low b) (all_nodes (all_left surfaces ps b))
          + looked_at surfaces ps n (high b) (all_nodes (all_left surfaces ps b)))
    ]

-- the universe is given the full trees
abbrev pub nodes_looked : Universe → Surfaces → List Plain → ℕ
nodes_looked u surfaces ps = looked_at surfaces ps (levels u) (whole_block u) (all_nodes ps)

-- the same by what is carried alone
unfoldable pub looked_from : Surfaces → List Plain → ℕ → Block → ℕ
looked_from surfaces ps zero b = all_nodes ps
looked_from surfaces ps (suc n) b =
    elim (all_mark surfaces ps b) [
      | decided c ↦ all_nodes ps
      | undecided ↦ all_nodes ps
          + (looked_from surfaces (all_left surfaces ps b) n (low b) + looked_from surfaces (all_left surfaces ps b) n
          (high b))
    ]
