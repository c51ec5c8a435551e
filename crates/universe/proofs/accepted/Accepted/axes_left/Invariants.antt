-- The axes of the rounds passed stand at their places from the end on, and those of this round that are passed behind them.
use Rattle.universe.proofs.Laying.{Laying}
use Rattle.universe.proofs.accepted.Accepted.axes_left.Given as goal

abbrev pub invariant-loop-round : goal.invariant-loop-round
invariant-loop-round l = Laying l.universe l.axes l.left l.round 0

abbrev pub invariant-loop-axis : goal.invariant-loop-axis
invariant-loop-axis l = Laying l.universe l.axes l.left l.round l.axis
