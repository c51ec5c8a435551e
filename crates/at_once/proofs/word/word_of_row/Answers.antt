-- `word_of_row` is the mask of the row, from its value at the first voxel, by the value that is carried, and its steps.
use Rattle.at_once.proofs.WordBlocks.{row_named, placed_row, tables_small, row_ready, row_gives}
use Rattle.at_once.proofs.word.word_of_row.Goals as goal

pub value_of_row-value-requires : goal.value_of_row-value-requires
value_of_row-value-requires c =
    record {
      row_named = row_named c.requires.fact c.args.i c.requires.i_bound;
      row_placed = placed_row c.requires.fact c.requires.row_value;
    }

pub steps_of_row-steps-requires : goal.steps_of_row-steps-requires
steps_of_row-steps-requires c =
    record { row_named = row_named c.requires.fact c.args.i c.requires.i_bound; small_tables = tables_small c.requires.fact }

pub row_word-requires : goal.row_word-requires
row_word-requires c =
    let w = c.requires.fact in let l = c.requires.i_bound in
    let value = c.value_of_row-value.ensures (placed_row w c.requires.row_value) in
    record { row_ready = row_ready w c.args.i l value c.steps_of_row-steps.ensures; left_le_word_levels = w.few }

pub returns : goal.returns
returns c =
    let l = c.requires.i_bound in
    λ w. row_gives w c.args.i l (c.value_of_row-value.ensures (placed_row w c.requires.row_value)) c.steps_of_row-steps.ensures c.row_word.ensures
