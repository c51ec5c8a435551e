-- The cases of a prop cut from itself hold by computation, both sides being computed and compared.
use mathlib.Core.Path.{refl}
use Rattle.lemmas.specs.Sums.{sum, total, every}
use Rattle.universe.specs.Rounds.{round, rounds}
use Rattle.universe.specs.Universe.{universe_refusal, equal_bits, bits_along, levels, order, axis_at, halvings, block_side}
use Rattle.universe.specs.Lent.{overwritten}
use Rattle.bintree.specs.Shape.{symbols}
use Rattle.bintree.specs.Answers.{written_answer, written_buffer}
use Rattle.bintree.specs.Merging.{join, merged}
use Rattle.csg.specs.Halfspace.{within_limits, rows_refusal, centre_value, colour_at_centre, least, greatest, mark_over}
use Rattle.csg.specs.Ball.{ball_within, balls_refusal}
use Rattle.csg.specs.Tree.{plain, reversal}
use Rattle.csg.specs.Words.{meaning, step, finish, run, parse, tree_refusal, tree_of}
use Rattle.csg.specs.Marks.{union_mark, intersection_mark, union_colour, intersection_colour}
use Rattle.csg.specs.Marks.{surface_mark, surface_colour, side_mark, side_colour, plain_mark, plain_colour}
use Rattle.csg.specs.Raw.{examine}
use Rattle.convert.specs.Answers.{one_tree_checks, merged_of_one, merged_of_one_answer, merged_of_one_buffer}
use Rattle.cases.specs.CutFromItself.{CutCases}

pub cut_cases_hold : CutCases
unfolding
    sum total every
    round rounds universe_refusal equal_bits bits_along levels order axis_at halvings block_side overwritten
    symbols written_answer written_buffer join merged
    within_limits rows_refusal centre_value colour_at_centre least greatest mark_over ball_within balls_refusal plain reversal
    meaning step finish run parse tree_refusal tree_of
    union_mark intersection_mark union_colour intersection_colour
    surface_mark surface_colour side_mark side_colour plain_mark plain_colour examine
    one_tree_checks merged_of_one merged_of_one_answer merged_of_one_buffer
cut_cases_hold = refl
