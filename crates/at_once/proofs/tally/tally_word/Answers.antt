-- `tally_word` counts the ones of three words within the window, and nothing where none is possible.
use mathlib.Core.Path.{refl}
use native.Mathlib.Omega.{arith}
use Rattle.at_once.proofs.Jobs.{some_axis, last_axis, trees_job, framed, frames_are}
use Rattle.at_once.proofs.Tallies.{three_are, tally_none, tally_words}
use Rattle.at_once.proofs.tally.tally_word.Goals as goal

pub three_words-words-requires : goal.three_words-words-requires
three_words-words-requires c =
    record {
      fact = trees_job c.requires.fact c.requires.left_le_word_levels;
      three_shelves = c.requires.three_shelves;
      right_values = c.requires.right_values;
    }

pub returns-then-possible-eq0 : goal.returns-then-possible-eq0
returns-then-possible-eq0 c =
    let first = c.args.first in let last = c.args.last in let few = c.requires.left_le_word_levels in
    record {
      fact_2 = λ job. tally_none job first last refl (three_are job first last few c.three_words-words.ensures.fact_2) c.if-possible-eq0.true
          c.tally_of.ensures;
      three_shelves_2 = c.three_words-words.ensures.three_shelves_2;
    }

pub overflow_sub-frame_axis : goal.overflow_sub-frame_axis
overflow_sub-frame_axis c =
    some_axis c.requires.fact

pub offset_bounds-low-frame_axis : goal.offset_bounds-low-frame_axis
offset_bounds-low-frame_axis c =
    omega (arith, last_axis c.requires.fact)

pub bounds-low-frame_axis : goal.bounds-low-frame_axis
bounds-low-frame_axis c =
    last_axis c.requires.fact

pub offset_bounds-side-frame_axis : goal.offset_bounds-side-frame_axis
offset_bounds-side-frame_axis c =
    omega (arith, last_axis c.requires.fact)

pub bounds-side-frame_axis : goal.bounds-side-frame_axis
bounds-side-frame_axis c =
    last_axis c.requires.fact

pub frames_word-window-requires : goal.frames_word-window-requires
frames_word-window-requires c =
    framed c.requires.fact c.requires.left_le_word_levels

pub returns : goal.returns
returns c =
    let first = c.args.first in let last = c.args.last in let few = c.requires.left_le_word_levels in
    record {
      fact_2 = λ job. tally_words job first last (frames_are job few first last c.frames_word-window.ensures)
          (three_are job first last few c.three_words-words.ensures.fact_2)
          c.ones_of.ensures c.ones_of-2.ensures c.ones_of-3.ensures;
      three_shelves_2 = c.three_words-words.ensures.three_shelves_2;
    }
