-- The cases of keyed movers hold: both sides are computed and compared.
use mathlib.Core.Path.{refl}
use Rattle.lemmas.specs.Sums.{sum, total, every}
use Rattle.lemmas.specs.Grid.{put, grid, listed}
use Rattle.universe.specs.Rounds.{round, rounds}
use Rattle.universe.specs.Universe.{universe_refusal, bits_along, levels, order, axis_at, halvings, block_side}
use Rattle.bintree.specs.Shape.{symbols}
use Rattle.bintree.specs.Verdicts.{first_frame, last_frame}
use Rattle.csg.specs.Halfspace.{within_limits, rows_refusal, centre_value, colour_at_centre, least, greatest, mark_over}
use Rattle.csg.specs.Ball.{ball_within, balls_refusal}
use Rattle.csg.specs.Tree.{plain, reversal}
use Rattle.csg.specs.Words.{meaning, step, finish, run, parse, tree_refusal, tree_of}
use Rattle.csg.specs.Marks.{union_mark, intersection_mark, union_colour, intersection_colour}
use Rattle.csg.specs.Marks.{surface_mark, surface_colour, side_mark, side_colour, plain_mark, plain_colour}
use Rattle.csg.specs.Raw.{examine}
use Rattle.demands.specs.Voxels.{black_voxels_at}
use Rattle.standin.specs.Sixteenths.{sixteenths, is_taken}
use Rattle.standin.specs.Rows.{takes_triple, in_order, takes_box}
use Rattle.mover.specs.Keys.{is_still, takes_still, size_of, still_refusal, corners_refusal, is_rising, are_within, keys_refusal}
use Rattle.mover.specs.Stretches.{is_step, step_of, steps_refusal, stretch_rows}
use Rattle.mover.specs.Frames.{box_tree, stretch_raw, stretch_of, own_colour, over_frames, mover_verdict}
use Rattle.mover.specs.Answers.{axes_refusal, static_refusal, mover_checks, largest, largest_need, mover_answer, after_stretches, mover_buffer}
use Rattle.cases.specs.Movers.{MoverCasesHold}

pub mover_cases_hold : MoverCasesHold
unfolding
    sum total every put grid listed round rounds universe_refusal bits_along levels order axis_at halvings block_side
    symbols first_frame last_frame within_limits rows_refusal centre_value colour_at_centre least greatest mark_over ball_within balls_refusal plain reversal
    meaning step finish run parse tree_refusal tree_of
    union_mark intersection_mark union_colour intersection_colour surface_mark surface_colour side_mark side_colour plain_mark plain_colour examine
    black_voxels_at sixteenths is_taken takes_triple in_order takes_box
    is_still takes_still size_of still_refusal corners_refusal is_rising are_within keys_refusal is_step step_of steps_refusal stretch_rows
    box_tree stretch_raw stretch_of own_colour over_frames mover_verdict
    axes_refusal static_refusal mover_checks largest largest_need mover_answer after_stretches mover_buffer
mover_cases_hold = refl
