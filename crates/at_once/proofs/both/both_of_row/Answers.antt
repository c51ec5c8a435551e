-- `both_of_row`: the masks of the row over both halves, from its value at the low half's first voxel, what it is more at the high half's, and its steps.
use Rattle.at_once.proofs.WordBlocks.{row_named, tables_small, row_ready, row_gives, placed_row}
use Rattle.at_once.proofs.BothWords.{sum_fits, above_ready, above_gives}
use Rattle.at_once.proofs.both.both_of_row.Goals as goal

pub value_of_row-value-requires : goal.value_of_row-value-requires
value_of_row-value-requires c =
    record {
      row_named = row_named c.requires.fact c.args.i c.requires.i_bound;
      row_placed = placed_row c.requires.fact c.requires.row_value;
    }

pub steps_of_row-steps-requires : goal.steps_of_row-steps-requires
steps_of_row-steps-requires c =
    record { row_named = row_named c.requires.fact c.args.i c.requires.i_bound; small_tables = tables_small c.requires.fact }

pub more_of_row-more-requires : goal.more_of_row-more-requires
more_of_row-more-requires c =
    record {
      row_named = row_named c.requires.fact c.args.i c.requires.i_bound;
      axis_lt_most_axes = c.requires.axis_lt_most_axes;
      power_place = c.requires.power_place;
    }

pub sixty_four-requires : goal.sixty_four-requires
sixty_four-requires c =
    row_ready c.requires.fact c.args.i c.requires.i_bound
    (c.value_of_row-value.ensures (placed_row c.requires.fact c.requires.row_value)) c.steps_of_row-steps.ensures

pub overflow_add-value : goal.overflow_add-value
overflow_add-value c =
    sum_fits c.args.half c.requires.fact c.requires.fact_2 c.requires.axis_lt_most_axes c.args.i c.requires.i_bound
    (c.value_of_row-value.ensures (placed_row c.requires.fact c.requires.row_value)) c.steps_of_row-steps.ensures c.more_of_row-more.ensures

pub sixty_four-requires-2 : goal.sixty_four-requires-2
sixty_four-requires-2 c =
    above_ready c.args.half c.requires.fact c.requires.fact_2 c.requires.axis_lt_most_axes c.args.i c.requires.i_bound
    (c.value_of_row-value.ensures (placed_row c.requires.fact c.requires.row_value)) c.steps_of_row-steps.ensures c.more_of_row-more.ensures

pub returns : goal.returns
returns c =
    let v = c.value_of_row-value.ensures (placed_row c.requires.fact c.requires.row_value) in
    record {
      fact_3 = λ w. row_gives w c.args.i c.requires.i_bound v c.steps_of_row-steps.ensures c.sixty_four.ensures;
      fact_4 = λ w. above_gives c.args.half c.requires.fact c.requires.fact_2 c.requires.axis_lt_most_axes c.args.i c.requires.i_bound v
          c.steps_of_row-steps.ensures
          c.more_of_row-more.ensures w c.sixty_four-2.ensures;
    }
