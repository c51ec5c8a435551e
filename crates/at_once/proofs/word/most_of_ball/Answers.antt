-- `most_of_ball` is a product of small numbers.
use native.Mathlib.Omega.{arith}
use Rattle.at_once.proofs.BallValues.{four_fits, most_fits, most_is}
use Rattle.at_once.proofs.word.most_of_ball.Goals as goal

pub overflow_add-radius : goal.overflow_add-radius
overflow_add-radius c = omega (arith, c.requires.here)

pub offset_bounds-balls-i : goal.offset_bounds-balls-i
offset_bounds-balls-i c = omega (arith, c.requires.here)

pub bounds-balls-i : goal.bounds-balls-i
bounds-balls-i c = omega (arith, c.requires.here)

pub overflow_mul-result : goal.overflow_mul-result
overflow_mul-result c = four_fits c.requires

pub overflow_mul-result-2 : goal.overflow_mul-result-2
overflow_mul-result-2 c = most_fits c.requires

pub returns : goal.returns
returns c = most_is c.requires
