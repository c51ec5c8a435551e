-- The amounts of one axis are set, and the least values move down and the greatest up by them.
use Rattle.convert.proofs.Slots.{grow_asks, grown_is}
use Rattle.convert.proofs.carried.grow.Goals as goal

pub move_back-requires-clause-movable : goal.move_back-requires-clause-movable
move_back-requires-clause-movable c =
    (grow_asks c.requires.axis_lt_most_axes c.requires.growing c.set_amounts.ensures c.set_amounts-2.ensures).0

pub move_back-requires-clause-movable_2 : goal.move_back-requires-clause-movable_2
move_back-requires-clause-movable_2 c =
    (grow_asks c.requires.axis_lt_most_axes c.requires.growing c.set_amounts.ensures c.set_amounts-2.ensures).1

pub returns : goal.returns
returns c =
    let q = c.requires in
    let e = c.move_back.ensures in
    grown_is q.axis_lt_most_axes q.growing c.set_amounts.ensures c.set_amounts-2.ensures e.least_after e.greatest_after
