-- A number times the one before it is a quarter less than the square of their mean.
use Rattle.convert.proofs.BallCodes.{product_cast, product_is}
use Rattle.convert.proofs.ball.middle_square.Goals as goal

pub overflow_cast-result : goal.overflow_cast-result
overflow_cast-result c = product_cast c.requires.small_place c.requires.ball_centre

pub returns : goal.returns
returns c = product_is c.requires.small_place c.requires.ball_centre
