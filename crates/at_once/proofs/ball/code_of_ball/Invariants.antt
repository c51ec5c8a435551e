-- `code_of_ball` adds up the squares along the place axes one by one (`Walked`); each answer is a law of `ball_laws`.
use Rattle.pruned.proofs.BallCodes.{Walked}
use Rattle.at_once.proofs.ball.code_of_ball.Given as goal

abbrev pub invariant-loop-axis : goal.invariant-loop-axis
invariant-loop-axis l = Walked l.places l.i l.balls l.low l.side l.near l.far l.axis
