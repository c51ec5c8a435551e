-- How the trees of a run stand in local room: nodes in postfix order, one number each, its code; a block that stands in
-- arrays, and the trees that are carried into it.
use Rattle.std.specs.Prelude.{ℕ, suc, ◌+◌, ◌≤◌, ◌<◌, ◌≡◌, List, [], ◌∷◌, length, get_or}
use Rattle.universe.specs.declared.Universe.{Universe}
use Rattle.universe.specs.declared.Block.{Block}
use Rattle.universe.specs.Block.{Given}
use Rattle.csg.specs.Surfaces.{Surfaces, named}
use Rattle.csg.specs.Tree.{Plain}
use Rattle.convert.specs.Blocks.{Standing, block_left}
use Rattle.pruned.specs.Nodes.{Node, node_code, all_postfix, OneOrTwo}
use Rattle.pruned.specs.Laying.{SoundScene}

-- from a place on the room holds the codes of these nodes
pub data HoldsCodes (room : List ℕ) : ℕ → List Node → Type 0 where
  no_code : {at : ℕ} → HoldsCodes room at []
  code : {at : ℕ} {n : Node} {ns : List Node} → get_or room at 0 ≡ node_code n → HoldsCodes room (suc at) ns →
      HoldsCodes room at (n ∷ ns)

-- two rooms hold the same below a place
pub record SameCodes (place : ℕ) (before after : List ℕ) : Type 0 where
  pub same : (k : ℕ) → k < place → get_or after k 0 ≡ get_or before k 0
  pub long : length after ≡ length before

-- a block that stands in the arrays, in a scene that no check refuses
pub record AtBlock (surfaces : Surfaces) (axes : ℕ) (low side : List ℕ) (left : ℕ) : Type 0 where
  pub universe : Universe
  pub scene : SoundScene universe surfaces
  pub axes_are : axes ≡ universe.axes
  pub standing : Standing universe left low side
  pub given : Given (block_left universe left low)

abbrev pub block_at : {surfaces : Surfaces} {axes : ℕ} {low side : List ℕ} {left : ℕ} →
    AtBlock surfaces axes low side left → Block
block_at {low = low} {left = left} at = block_left at.universe left low

-- the trees whose codes stand from a place on
pub record Carrying (surfaces : Surfaces) (room : List ℕ) (from count : ℕ) : Type 0 where
  pub trees : List Plain
  pub few : OneOrTwo (named surfaces) trees
  pub counted : count ≡ length (all_postfix trees)
  pub holds : HoldsCodes room from (all_postfix trees)
  pub inside : from + count ≤ length room
