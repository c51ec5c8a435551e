-- `distance_of` is a sum of small squares.
use lib.Dec.{lit<}
use native.Mathlib.Omega.{arith}
use Rattle.at_once.proofs.BallValues.{off_asks, two_fits, three_fits, squares_are}
use Rattle.at_once.proofs.word.distance_of.Goals as goal

pub bounds-offs-0 : goal.bounds-offs-0
bounds-offs-0 c = omega arith

pub square_along-one-requires : goal.square_along-one-requires
square_along-one-requires c = off_asks c.requires 0 (lit< tt)

pub bounds-offs-1 : goal.bounds-offs-1
bounds-offs-1 c = omega arith

pub square_along-two-requires : goal.square_along-two-requires
square_along-two-requires c = off_asks c.requires 1 (lit< tt)

pub bounds-offs-2 : goal.bounds-offs-2
bounds-offs-2 c = omega arith

pub square_along-three-requires : goal.square_along-three-requires
square_along-three-requires c = off_asks c.requires 2 (lit< tt)

pub overflow_add-result : goal.overflow_add-result
overflow_add-result c =
    two_fits c.requires c.args.places c.square_along-one.ensures c.square_along-two.ensures c.square_along-three.ensures

pub overflow_add-result-2 : goal.overflow_add-result-2
overflow_add-result-2 c =
    three_fits c.requires c.args.places c.square_along-one.ensures c.square_along-two.ensures c.square_along-three.ensures

pub returns : goal.returns
returns c =
    squares_are c.requires c.args.places c.square_along-one.ensures c.square_along-two.ensures c.square_along-three.ensures
