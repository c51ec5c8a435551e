-- The cases of sweeps hold: both sides are computed and compared.
use mathlib.Core.Path.{refl}
use Rattle.lemmas.specs.Sums.{sum, total, product, every}
use Rattle.universe.specs.Lent.{overwritten}
use Rattle.universe.specs.Rounds.{round, rounds}
use Rattle.universe.specs.Universe.{universe_refusal, equal_bits, bits_along, levels, order, axis_at, halvings, blocks_along, block_side, without_axis}
use Rattle.universe.specs.Questions.{without_answer}
use Rattle.bintree.specs.Shape.{symbols, size}
use Rattle.bintree.specs.Reading.{read_leaf, with_high, read_halves, read_at, exactly, expression, expression_refusal}
use Rattle.bintree.specs.Answers.{written_answer, written_buffer}
use Rattle.bintree.specs.Merging.{join, merged}
use Rattle.csg.specs.Halfspace.{within_limits, rows_refusal, centre_value, colour_at_centre, least, greatest, mark_over}
use Rattle.csg.specs.Ball.{ball_within, balls_refusal}
use Rattle.csg.specs.Tree.{plain, reversal}
use Rattle.csg.specs.Words.{meaning, step, finish, run, parse, tree_refusal, tree_of}
use Rattle.csg.specs.Marks.{union_mark, intersection_mark, union_colour, intersection_colour}
use Rattle.csg.specs.Marks.{surface_mark, surface_colour, side_mark, side_colour, plain_mark, plain_colour}
use Rattle.csg.specs.Raw.{examine}
use Rattle.convert.specs.Answers.{one_tree_checks, two_trees_checks, merged_of_one, merged_of_two}
use Rattle.convert.specs.Answers.{merged_of_one_answer, merged_of_one_buffer, merged_of_two_answer, merged_of_two_buffer}
use Rattle.sweep.specs.Sweeping.{over, swept}
use Rattle.sweep.specs.Answers.{swept_answer, swept_buffer}
use Rattle.cases.specs.Swept.{Hold, two_axes, three_axes, four_axes, edges, scene}

pub two_axes_hold : Hold two_axes
unfolding
    sum every overwritten round rounds universe_refusal bits_along levels order without_axis without_answer
    symbols size read_leaf with_high read_halves read_at exactly expression expression_refusal written_answer written_buffer join merged
    over swept swept_answer swept_buffer
two_axes_hold = refl

pub three_axes_hold : Hold three_axes
unfolding
    sum every overwritten round rounds universe_refusal bits_along levels order without_axis without_answer
    symbols size read_leaf with_high read_halves read_at exactly expression expression_refusal written_answer written_buffer join merged
    over swept swept_answer swept_buffer
three_axes_hold = refl

pub four_axes_hold : Hold four_axes
unfolding
    sum every overwritten round rounds universe_refusal bits_along levels order without_axis without_answer
    symbols size read_leaf with_high read_halves read_at exactly expression expression_refusal written_answer written_buffer join merged
    over swept swept_answer swept_buffer
four_axes_hold = refl

pub edges_hold : Hold edges
unfolding
    sum every overwritten round rounds universe_refusal bits_along levels order without_axis without_answer
    symbols size read_leaf with_high read_halves read_at exactly expression expression_refusal written_answer written_buffer join merged
    over swept swept_answer swept_buffer
edges_hold = refl

pub scene_holds : Hold scene
unfolding
    sum total product every overwritten
    round rounds universe_refusal equal_bits bits_along levels order axis_at halvings blocks_along block_side without_axis without_answer
    symbols size read_leaf with_high read_halves read_at exactly expression expression_refusal written_answer written_buffer join merged
    within_limits rows_refusal centre_value colour_at_centre least greatest mark_over ball_within balls_refusal plain reversal
    meaning step finish run parse tree_refusal tree_of
    union_mark intersection_mark union_colour intersection_colour surface_mark surface_colour side_mark side_colour plain_mark plain_colour examine
    one_tree_checks two_trees_checks merged_of_one merged_of_two merged_of_one_answer merged_of_one_buffer merged_of_two_answer merged_of_two_buffer
    over swept swept_answer swept_buffer
scene_holds = refl
