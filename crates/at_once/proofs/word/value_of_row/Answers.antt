-- `value_of_row` is a sum of small numbers: twice the value that is carried, and the coefficients, each of them half of the way through a voxel, twice.
use Rattle.at_once.proofs.RowValues.{low_fits, first_two_fit, first_three_fit, all_four_fit, value_fits, value_is}
use Rattle.at_once.proofs.word.value_of_row.Goals as goal

pub bounds-values-i : goal.bounds-values-i
bounds-values-i c = c.requires.row_placed.value.few

pub overflow_add-result : goal.overflow_add-result
overflow_add-result c = low_fits c.requires.row_named c.requires.row_placed

pub overflow_add-result-4 : goal.overflow_add-result-4
overflow_add-result-4 c = first_two_fit c.requires.row_named

pub overflow_add-result-6 : goal.overflow_add-result-6
overflow_add-result-6 c = first_three_fit c.requires.row_named

pub overflow_add-result-8 : goal.overflow_add-result-8
overflow_add-result-8 c = all_four_fit c.requires.row_named

pub overflow_add-result-9 : goal.overflow_add-result-9
overflow_add-result-9 c = value_fits c.requires.row_named c.requires.row_placed

pub returns : goal.returns
returns c = λ placed. value_is c.requires.row_named placed
