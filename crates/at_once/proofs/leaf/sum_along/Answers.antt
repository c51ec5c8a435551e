-- `sum_along`: four small numbers, added up.
use lib.Dec.{lit<}
use Rattle.at_once.proofs.RowValues.{two_fits, three_fits, four_fits, four_are}
use Rattle.at_once.proofs.Values.{along_small}
use Rattle.at_once.proofs.leaf.sum_along.Goals as goal

pub along-first-requires : goal.along-first-requires
along-first-requires c =
    record { row_named = c.requires.row_named; small_times = c.requires.small_times; axis_lt_most_axes = lit< tt }

pub along-second-requires : goal.along-second-requires
along-second-requires c =
    record { row_named = c.requires.row_named; small_times = c.requires.small_times; axis_lt_most_axes = lit< tt }

pub along-third-requires : goal.along-third-requires
along-third-requires c =
    record { row_named = c.requires.row_named; small_times = c.requires.small_times; axis_lt_most_axes = lit< tt }

pub along-fourth-requires : goal.along-fourth-requires
along-fourth-requires c =
    record { row_named = c.requires.row_named; small_times = c.requires.small_times; axis_lt_most_axes = lit< tt }

pub overflow_add-result : goal.overflow_add-result
overflow_add-result c =
    two_fits (along_small c.requires.row_named c.requires.small_times.short) c.along-first.ensures c.along-second.ensures
    c.along-third.ensures c.along-fourth.ensures

pub overflow_add-result-2 : goal.overflow_add-result-2
overflow_add-result-2 c =
    three_fits (along_small c.requires.row_named c.requires.small_times.short) c.along-first.ensures c.along-second.ensures
    c.along-third.ensures c.along-fourth.ensures

pub overflow_add-result-3 : goal.overflow_add-result-3
overflow_add-result-3 c =
    four_fits (along_small c.requires.row_named c.requires.small_times.short) c.along-first.ensures c.along-second.ensures
    c.along-third.ensures c.along-fourth.ensures

pub returns : goal.returns
returns c =
    four_are (along_small c.requires.row_named c.requires.small_times.short) c.along-first.ensures c.along-second.ensures
    c.along-third.ensures c.along-fourth.ensures
