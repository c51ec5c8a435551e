-- `more_of_row` is twice the amount of the row's coefficient and a length that is a power of two.
use Rattle.at_once.proofs.BothWords.{amount_asks, twice_fits, twice_is}
use Rattle.at_once.proofs.both.more_of_row.Goals as goal

pub amount-once-requires : goal.amount-once-requires
amount-once-requires c =
    let a = amount_asks c.requires.row_named c.requires.axis_lt_most_axes c.requires.power_place c.doublings.ensures in
    record { small_coefficient = a.0; times_bound = a.1.0; small_place = a.1.1 }

pub overflow_add-result : goal.overflow_add-result
overflow_add-result c =
    twice_fits c.requires.row_named c.requires.axis_lt_most_axes c.requires.power_place c.doublings.ensures c.amount-once.ensures

pub returns : goal.returns
returns c =
    twice_is c.requires.row_named c.requires.axis_lt_most_axes c.requires.power_place c.doublings.ensures c.amount-once.ensures
