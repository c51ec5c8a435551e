-- `step_of_row` is a coefficient doubled: as often as 1 is doubled to the length, which is a power of two, and once more.
use native.Mathlib.Omega.{arith}
use Rattle.at_once.proofs.RowValues.{small_read, few_times, short_length, step_fits, step_is}
use Rattle.at_once.proofs.word.step_of_row.Goals as goal

pub overflow_add-i-2 : goal.overflow_add-i-2
overflow_add-i-2 c = omega (arith, c.requires.row_named.here, c.requires.small_tables.axis c.args.j c.requires.j_lt_word_levels)

pub offset_bounds-rows-i : goal.offset_bounds-rows-i
offset_bounds-rows-i c = omega (arith, c.requires.row_named.here, c.requires.small_tables.axis c.args.j c.requires.j_lt_word_levels)

pub bounds-rows-i : goal.bounds-rows-i
bounds-rows-i c = omega (arith, c.requires.row_named.here, c.requires.small_tables.axis c.args.j c.requires.j_lt_word_levels)

pub amount-once-requires : goal.amount-once-requires
amount-once-requires c =
    let j = c.args.j in
    record {
      small_coefficient = small_read c.requires.row_named c.requires.small_tables j c.requires.j_lt_word_levels c.doublings.ensures;
      times_bound = few_times c.requires.row_named c.requires.small_tables j c.requires.j_lt_word_levels c.doublings.ensures;
      small_place = short_length c.requires.row_named c.requires.small_tables j c.requires.j_lt_word_levels c.doublings.ensures;
    }

pub overflow_add-result : goal.overflow_add-result
overflow_add-result c =
    step_fits c.requires.row_named c.requires.small_tables c.args.j c.requires.j_lt_word_levels c.doublings.ensures c.amount-once.ensures

pub returns : goal.returns
returns c =
    step_is c.requires.row_named c.requires.small_tables c.args.j c.requires.j_lt_word_levels c.doublings.ensures c.amount-once.ensures
