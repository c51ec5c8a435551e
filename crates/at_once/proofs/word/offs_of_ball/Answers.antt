-- `offs_of_ball` has a number for each place axis.
use mathlib.Core.Path.{refl}
use lib.Dec.{lit<}
use native.Mathlib.Omega.{arith}
use Rattle.at_once.proofs.BallValues.{centre_asks, offs_are}
use Rattle.at_once.proofs.word.offs_of_ball.Goals as goal

pub bounds-low-0 : goal.bounds-low-0
bounds-low-0 c = omega arith

pub offset_bounds-balls-first : goal.offset_bounds-balls-first
offset_bounds-balls-first c = omega (arith, c.requires.ball_named.here)

pub bounds-balls-first : goal.bounds-balls-first
bounds-balls-first c = omega (arith, c.requires.ball_named.here)

pub off_along-one-requires : goal.off_along-one-requires
off_along-one-requires c =
    record {
      small_place = c.requires.small_places.place 0;
      ball_centre = centre_asks c.requires.ball_named 0 (lit< tt) (omega arith);
    }

pub bounds-low-1 : goal.bounds-low-1
bounds-low-1 c = omega arith

pub overflow_add-first : goal.overflow_add-first
overflow_add-first c = omega (arith, c.requires.ball_named.here)

pub offset_bounds-balls-first-2 : goal.offset_bounds-balls-first-2
offset_bounds-balls-first-2 c = omega (arith, c.requires.ball_named.here)

pub bounds-balls-first-2 : goal.bounds-balls-first-2
bounds-balls-first-2 c = omega (arith, c.requires.ball_named.here)

pub off_along-two-requires : goal.off_along-two-requires
off_along-two-requires c =
    record { small_place = c.requires.small_places.place 1; ball_centre = centre_asks c.requires.ball_named 1 (lit< tt) refl }

pub bounds-low-2 : goal.bounds-low-2
bounds-low-2 c = omega arith

pub overflow_add-first-2 : goal.overflow_add-first-2
overflow_add-first-2 c = omega (arith, c.requires.ball_named.here)

pub offset_bounds-balls-first-3 : goal.offset_bounds-balls-first-3
offset_bounds-balls-first-3 c = omega (arith, c.requires.ball_named.here)

pub bounds-balls-first-3 : goal.bounds-balls-first-3
bounds-balls-first-3 c = omega (arith, c.requires.ball_named.here)

pub off_along-three-requires : goal.off_along-three-requires
off_along-three-requires c =
    record { small_place = c.requires.small_places.place 2; ball_centre = centre_asks c.requires.ball_named 2 (lit< tt) refl }

pub returns : goal.returns
returns c =
    offs_are c.requires.ball_named c.requires.small_places c.off_along-one.ensures c.off_along-two.ensures c.off_along-three.ensures
