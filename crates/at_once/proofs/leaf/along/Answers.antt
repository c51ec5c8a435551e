-- `along` is a coefficient that is read, doubled as often as 1 is to the length: their product, which is small.
use Rattle.at_once.proofs.Values.{amount_asks, amount_is}
use Rattle.at_once.proofs.leaf.along.Goals as goal

pub amount-requires : goal.amount-requires
amount-requires c =
    let a = amount_asks c.requires.row_named c.requires.small_times c.args.axis c.requires.axis_lt_most_axes in
    record { small_coefficient = a.0; times_bound = a.1.0; small_place = a.1.1 }

pub returns : goal.returns
returns c = amount_is c.requires.row_named c.requires.small_times c.args.axis c.requires.axis_lt_most_axes c.amount.ensures
