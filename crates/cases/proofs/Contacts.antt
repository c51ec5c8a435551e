-- The cases of sure and possible contact hold: both sides are computed and compared.
use mathlib.Core.Path.{refl}
use Rattle.lemmas.specs.Sums.{sum, total, every}
use Rattle.lemmas.specs.Grid.{put, grid, listed}
use Rattle.universe.specs.Rounds.{round, rounds}
use Rattle.universe.specs.Universe.{universe_refusal, bits_along, levels, order, axis_at, halvings, block_side}
use Rattle.universe.specs.Voxel.{window_refusal}
use Rattle.csg.specs.Halfspace.{within_limits, rows_refusal, centre_value, colour_at_centre, least, greatest, mark_over}
use Rattle.csg.specs.Ball.{ball_within, balls_refusal, nearest, farthest, near_sum, far_sum, ball_least, ball_greatest, ball_mark, distance_at, ball_colour}
use Rattle.csg.specs.Tree.{plain, reversal}
use Rattle.csg.specs.Words.{meaning, step, finish, run, parse, tree_refusal, tree_of}
use Rattle.csg.specs.Marks.{union_mark, intersection_mark, union_colour, intersection_colour}
use Rattle.csg.specs.Marks.{surface_mark, surface_colour, side_mark, side_colour, plain_mark, plain_colour}
use Rattle.demands.specs.Voxels.{black_voxels_at}
use Rattle.contacts.specs.Contacts.{sure_colour, possible_colour, window_voxels}
use Rattle.convert.specs.Answers.{two_trees_checks, clearance_checks}
use Rattle.at_once.specs.Contacts.{contacts_answer}
use Rattle.cases.specs.Contacts.{ContactCasesHold}

pub contact_cases_hold : ContactCasesHold
unfolding
    sum total every put grid listed round rounds universe_refusal bits_along levels order axis_at halvings block_side window_refusal
    within_limits rows_refusal centre_value colour_at_centre least greatest mark_over
    ball_within balls_refusal nearest farthest near_sum far_sum ball_least ball_greatest ball_mark distance_at ball_colour plain reversal
    meaning step finish run parse tree_refusal tree_of
    union_mark intersection_mark union_colour intersection_colour surface_mark surface_colour side_mark side_colour plain_mark plain_colour
    black_voxels_at sure_colour possible_colour window_voxels two_trees_checks clearance_checks contacts_answer
contact_cases_hold = refl
