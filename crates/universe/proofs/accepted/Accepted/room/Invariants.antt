-- The blocks along each axis of the level, and the sum over the levels above it (proofs/Levels.antt).
use Rattle.universe.proofs.Levels.{Counted}
use Rattle.universe.proofs.accepted.Accepted.room.Given as goal

abbrev pub invariant-loop-left : goal.invariant-loop-left
invariant-loop-left l = Counted l.self.universe l.leaves l.balls l.axes l.blocks l.sum l.left
