-- `code_at_voxel` adds up the squares along the place axes one by one (`Summed`).
use Rattle.pruned.proofs.BallCodes.{Summed}
use Rattle.pruned.proofs.ball.code_at_voxel.Given as goal

abbrev pub invariant-loop-axis : goal.invariant-loop-axis
invariant-loop-axis l = Summed l.places l.i l.balls l.low l.sum l.axis
