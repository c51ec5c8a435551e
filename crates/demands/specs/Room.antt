-- Demand 3 (rule 10.3): an expression fits into room, which is for N (rule 3.6) and for the ball words (rule 4.14): of
-- a tree, its halfspace leaves and its ball leaves.
use Rattle.std.specs.Prelude.{◌≤◌, ◌≡◌, length}
use Rattle.universe.specs.declared.Universe.{Universe}
use Rattle.universe.specs.Room.{room}
use Rattle.bintree.specs.Shape.{symbols}
use Rattle.bintree.specs.Merging.{merged}
use Rattle.csg.specs.Surfaces.{Surfaces}
use Rattle.csg.specs.Tree.{Tree, leaves, ball_leaves}
use Rattle.csg.specs.Raw.{raw, blocks_examined}

-- the raw expression has a symbol for each block that the rule examines; it and the merged one are no longer than the
-- tree's room
pub record RoomSuffices (u : Universe) (surfaces : Surfaces) (t : Tree) : Type 0 where
  pub raw_counts : length (symbols (raw u surfaces t)) ≡ blocks_examined u surfaces t
  pub raw_fits : length (symbols (raw u surfaces t)) ≤ room u (leaves t) (ball_leaves t)
  pub merged_fits : length (symbols (merged (raw u surfaces t))) ≤ room u (leaves t) (ball_leaves t)
