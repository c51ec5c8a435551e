-- `code_over_block` adds up the squares along the place axes one by one (`Walked`).
use Rattle.pruned.proofs.BallCodes.{Walked}
use Rattle.pruned.proofs.ball.code_over_block.Given as goal

abbrev pub invariant-loop-axis : goal.invariant-loop-axis
invariant-loop-axis l = Walked l.places l.i l.balls l.low l.side l.near l.far l.axis
