-- The cases of balls hold: both sides are computed and compared.
use mathlib.Core.Path.{refl}
use Rattle.lemmas.specs.Sums.{sum, total, product, every}
use Rattle.universe.specs.Lent.{overwritten}
use Rattle.universe.specs.Rounds.{round, rounds}
use Rattle.universe.specs.Universe.{universe_refusal, bits_along, levels, order, axis_at, halvings, blocks_along, block_side}
use Rattle.universe.specs.Room.{blocks_at, inner_blocks_at, level_count, room, room_answer}
use Rattle.bintree.specs.Shape.{symbols, size}
use Rattle.bintree.specs.Answers.{written_answer, written_buffer}
use Rattle.bintree.specs.Merging.{join, merged}
use Rattle.csg.specs.Halfspace.{within_limits, rows_refusal, centre_value, colour_at_centre, least, greatest, mark_over}
use Rattle.csg.specs.Ball.{ball_within, balls_refusal, nearest, farthest, near_sum, far_sum, ball_least, ball_greatest, ball_mark, distance_at, ball_colour}
use Rattle.csg.specs.Tree.{plain, reversal}
use Rattle.csg.specs.Words.{meaning, step, finish, run, parse, tree_refusal, tree_of, count_words}
use Rattle.csg.specs.Marks.{union_mark, intersection_mark, union_colour, intersection_colour}
use Rattle.csg.specs.Marks.{surface_mark, surface_colour, side_mark, side_colour, plain_mark, plain_colour}
use Rattle.csg.specs.Raw.{examine}
use Rattle.convert.specs.Answers.{one_tree_checks, two_trees_checks, raw_of_one, merged_of_one, raw_of_one_answer, raw_of_one_buffer, merged_of_one_answer, merged_of_one_buffer}
use Rattle.cases.specs.Balls.{BallCasesHold}

pub ball_cases_hold : BallCasesHold
unfolding
    sum total product every overwritten
    round rounds universe_refusal bits_along levels order axis_at halvings blocks_along block_side
    blocks_at inner_blocks_at level_count room room_answer symbols size written_answer written_buffer join merged
    within_limits rows_refusal centre_value colour_at_centre least greatest mark_over
    ball_within balls_refusal nearest farthest near_sum far_sum ball_least ball_greatest ball_mark distance_at ball_colour plain reversal
    meaning step finish run parse tree_refusal tree_of count_words
    union_mark intersection_mark union_colour intersection_colour surface_mark surface_colour side_mark side_colour plain_mark plain_colour examine
    one_tree_checks two_trees_checks raw_of_one merged_of_one raw_of_one_answer raw_of_one_buffer merged_of_one_answer merged_of_one_buffer
ball_cases_hold = refl
