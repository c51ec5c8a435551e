-- `words_of_row`: the masks of the row's colours and of its sure and possible contact, from its value at the first voxel, its reach and its steps.
use mathlib.Core.Bool.{true, false}
use Rattle.at_once.proofs.WordBlocks.{row_named, tables_small, placed_row}
use Rattle.at_once.proofs.OwnValues.{reach_small}
use Rattle.at_once.proofs.OwnRows.{moved_fits, three_ready, three_row_gives}
use Rattle.at_once.proofs.three.words_of_row.Goals as goal

pub value_of_row-value-requires : goal.value_of_row-value-requires
value_of_row-value-requires c =
    record {
      row_named = row_named c.requires.fact c.args.i c.requires.i_bound;
      row_placed = placed_row c.requires.fact c.requires.row_value;
    }

pub steps_of_row-steps-requires : goal.steps_of_row-steps-requires
steps_of_row-steps-requires c =
    record { row_named = row_named c.requires.fact c.args.i c.requires.i_bound; small_tables = tables_small c.requires.fact }

pub reach_of_row-reach-requires : goal.reach_of_row-reach-requires
reach_of_row-reach-requires c =
    row_named c.requires.fact c.args.i c.requires.i_bound

pub reached-less-requires : goal.reached-less-requires
reached-less-requires c =
    reach_small (row_named c.requires.fact c.args.i c.requires.i_bound) c.reach_of_row-reach.ensures

pub reached-more-requires : goal.reached-more-requires
reached-more-requires c =
    reach_small (row_named c.requires.fact c.args.i c.requires.i_bound) c.reach_of_row-reach.ensures

pub overflow_add-value : goal.overflow_add-value
overflow_add-value c =
    moved_fits c.requires.fact c.args.i c.requires.i_bound false
    (c.value_of_row-value.ensures (placed_row c.requires.fact c.requires.row_value))
    c.steps_of_row-steps.ensures c.reach_of_row-reach.ensures c.reached-less.ensures

pub overflow_add-value-2 : goal.overflow_add-value-2
overflow_add-value-2 c =
    moved_fits c.requires.fact c.args.i c.requires.i_bound true
    (c.value_of_row-value.ensures (placed_row c.requires.fact c.requires.row_value))
    c.steps_of_row-steps.ensures c.reach_of_row-reach.ensures c.reached-more.ensures

pub row_words-requires : goal.row_words-requires
row_words-requires c =
    record {
      three_ready = three_ready c.requires.fact c.args.i c.requires.i_bound
          (c.value_of_row-value.ensures (placed_row c.requires.fact c.requires.row_value))
          c.steps_of_row-steps.ensures c.reach_of_row-reach.ensures c.reached-less.ensures c.reached-more.ensures;
      left_le_word_levels = c.requires.fact.few;
    }

pub returns : goal.returns
returns c =
    λ w. three_row_gives w c.args.i c.requires.i_bound
    (c.value_of_row-value.ensures (placed_row c.requires.fact c.requires.row_value))
    c.steps_of_row-steps.ensures c.reach_of_row-reach.ensures c.reached-less.ensures c.reached-more.ensures c.row_words.ensures
