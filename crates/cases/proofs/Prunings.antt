-- The cases of the pruned conversions hold: both sides are computed and compared.
use mathlib.Core.Path.{refl}
use Rattle.lemmas.specs.Sums.{sum, total, every}
use Rattle.universe.specs.Lent.{overwritten}
use Rattle.universe.specs.Rounds.{round, rounds}
use Rattle.universe.specs.Universe.{universe_refusal, bits_along, levels, order, axis_at, halvings, block_side}
use Rattle.bintree.specs.Shape.{symbols, size}
use Rattle.bintree.specs.Merging.{join, merged}
use Rattle.csg.specs.Halfspace.{within_limits, rows_refusal, centre_value, colour_at_centre, least, greatest, mark_over}
use Rattle.csg.specs.Ball.{ball_within, balls_refusal}
use Rattle.csg.specs.Tree.{plain, reversal}
use Rattle.csg.specs.Words.{meaning, step, finish, run, parse, tree_refusal, tree_of}
use Rattle.csg.specs.Marks.{union_mark, intersection_mark, union_colour, intersection_colour}
use Rattle.csg.specs.Marks.{surface_mark, surface_colour, side_mark, side_colour, plain_mark, plain_colour}
use Rattle.csg.specs.Raw.{examine}
use Rattle.convert.specs.Answers.{one_tree_checks, two_trees_checks, raw_of_one, raw_of_two, merged_of_one}
use Rattle.pruned.specs.Left.{left_by, nodes, all_mark, all_left, all_nodes}
use Rattle.pruned.specs.Looked.{looked_at}
use Rattle.pruned.specs.Answers.{written_conversion, written_room, conversion_answer, conversion_room}
use Rattle.pruned.specs.Answers.{raw_of_one_answer, raw_of_one_buffer, merged_of_one_answer, merged_of_one_buffer, raw_of_two_answer, raw_of_two_buffer}
use Rattle.cases.specs.Prunings.{PruningCasesHold}

pub pruning_cases_hold : PruningCasesHold
unfolding
    sum total every overwritten round rounds universe_refusal bits_along levels order axis_at halvings block_side symbols size join merged
    within_limits rows_refusal centre_value colour_at_centre least greatest mark_over ball_within balls_refusal plain reversal
    meaning step finish run parse tree_refusal tree_of
    union_mark intersection_mark union_colour intersection_colour surface_mark surface_colour side_mark side_colour plain_mark plain_colour examine
    one_tree_checks two_trees_checks raw_of_one raw_of_two merged_of_one
    left_by nodes all_mark all_left all_nodes looked_at written_conversion written_room conversion_answer conversion_room
    raw_of_one_answer raw_of_one_buffer merged_of_one_answer merged_of_one_buffer raw_of_two_answer raw_of_two_buffer
pruning_cases_hold = refl
