-- `steps_of_row` has a step for each digit.
use Rattle.at_once.proofs.RowValues.{steps_are}
use lib.Dec.{lit<}
use Rattle.at_once.proofs.word.steps_of_row.Goals as goal

pub step_of_row-first-requires : goal.step_of_row-first-requires
step_of_row-first-requires c =
    record { row_named = c.requires.row_named; small_tables = c.requires.small_tables; j_lt_word_levels = lit< tt }

pub step_of_row-second-requires : goal.step_of_row-second-requires
step_of_row-second-requires c =
    record { row_named = c.requires.row_named; small_tables = c.requires.small_tables; j_lt_word_levels = lit< tt }

pub step_of_row-third-requires : goal.step_of_row-third-requires
step_of_row-third-requires c =
    record { row_named = c.requires.row_named; small_tables = c.requires.small_tables; j_lt_word_levels = lit< tt }

pub step_of_row-fourth-requires : goal.step_of_row-fourth-requires
step_of_row-fourth-requires c =
    record { row_named = c.requires.row_named; small_tables = c.requires.small_tables; j_lt_word_levels = lit< tt }

pub step_of_row-fifth-requires : goal.step_of_row-fifth-requires
step_of_row-fifth-requires c =
    record { row_named = c.requires.row_named; small_tables = c.requires.small_tables; j_lt_word_levels = lit< tt }

pub step_of_row-sixth-requires : goal.step_of_row-sixth-requires
step_of_row-sixth-requires c =
    record { row_named = c.requires.row_named; small_tables = c.requires.small_tables; j_lt_word_levels = lit< tt }

pub returns : goal.returns
returns c =
    steps_are c.requires.row_named c.requires.small_tables c.step_of_row-first.ensures c.step_of_row-second.ensures c.step_of_row-third.ensures
    c.step_of_row-fourth.ensures
    c.step_of_row-fifth.ensures c.step_of_row-sixth.ensures
