-- Each place holds the number of a ball.
use Rattle.files.specs.Numbers.{ball_number}
use Rattle.files.proofs.decode.read_balls.Given as goal

abbrev pub ghost-fill : goal.ghost-fill
ghost-fill a = ball_number a.read.0.now a.read.1.now
