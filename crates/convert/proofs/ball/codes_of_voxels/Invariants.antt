-- The squares along the place axes of both blocks are added up one by one.
use Rattle.convert.proofs.BallCodes.{Walked}
use Rattle.convert.proofs.ball.codes_of_voxels.Given as goal

abbrev pub invariant-loop-axis : goal.invariant-loop-axis
invariant-loop-axis l =
    Walked l.places l.i l.balls l.low l.side l.near l.far l.middle l.axis
    × Walked l.places l.i l.balls l.high l.side l.high_near l.high_far l.high_middle l.axis
