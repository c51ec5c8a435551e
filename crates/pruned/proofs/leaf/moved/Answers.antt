-- `moved` moves by the coefficient shifted left.
use Rattle.pruned.proofs.Moving.{shift_moves, shift_moved}
use Rattle.pruned.proofs.leaf.moved.Goals as goal

pub moved_by-requires-clause-small_amount : goal.moved_by-requires-clause-small_amount
moved_by-requires-clause-small_amount c =
    let k = c.requires in
    (shift_moves k.small_coefficient k.small_place k.times_bound c.amount.ensures k.small_extreme k.small_extreme_2).0

pub returns-clause-least_value : goal.returns-clause-least_value
returns-clause-least_value c =
    let k = c.requires in
    (shift_moved k.small_coefficient k.small_place k.times_bound c.amount.ensures k.small_extreme k.small_extreme_2 c.moved_by.ensures).0

pub returns-clause-greatest_value : goal.returns-clause-greatest_value
returns-clause-greatest_value c =
    let k = c.requires in
    (shift_moved k.small_coefficient k.small_place k.times_bound c.amount.ensures k.small_extreme k.small_extreme_2 c.moved_by.ensures).1
