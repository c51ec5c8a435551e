-- The two differences add up to the length, so that the greater of both is how far the farther end is.
use Rattle.convert.proofs.BallCodes.{farthest_is}
use Rattle.convert.proofs.ball.farthest.Goals as goal

pub returns : goal.returns
returns c = let q = c.requires in farthest_is q.small_place q.ball_centre q.small_place_2 c.max.ensures.value
