-- `off_along` is a difference of small numbers.
use native.Mathlib.Omega.{arith}
use Rattle.at_once.proofs.BallValues.{place_cast, doubled_centre, off_fits, off_is}
use Rattle.at_once.proofs.word.off_along.Goals as goal

pub overflow_mul-result : goal.overflow_mul-result
overflow_mul-result c = omega (arith, c.requires.small_place.most)

pub overflow_add-result : goal.overflow_add-result
overflow_add-result c = omega (arith, c.requires.small_place.most)

pub overflow_cast-result : goal.overflow_cast-result
overflow_cast-result c = place_cast c.requires.small_place c.requires.ball_centre

pub overflow_mul-result-2 : goal.overflow_mul-result-2
overflow_mul-result-2 c = doubled_centre c.requires.small_place c.requires.ball_centre

pub overflow_sub-result : goal.overflow_sub-result
overflow_sub-result c = off_fits c.requires.small_place c.requires.ball_centre

pub returns : goal.returns
returns c = off_is c.requires.small_place c.requires.ball_centre
