-- `lay_words`: the words of both halves, their texts laid one behind the other, and joined.
use native.Mathlib.Omega.{arith}
use mathlib.Core.Path.{◌∙◌}
use Rattle.at_once.proofs.Moving.{half_power}
use Rattle.at_once.proofs.Layings.{block_fits}
use Rattle.at_once.proofs.BothWords.{axis_here, low_trees, high_trees, low_text, high_text, words_end, words_laid}
use Rattle.at_once.proofs.lay.lay_words.Goals as goal

pub offset_bounds-side-axis : goal.offset_bounds-side-axis
offset_bounds-side-axis c = omega (arith, axis_here c.requires.fact)

pub bounds-side-axis : goal.bounds-side-axis
bounds-side-axis c = omega (arith, axis_here c.requires.fact)

pub both_words-words-requires : goal.both_words-words-requires
both_words-words-requires c =
    record {
      fact = low_trees c.requires.fact;
      fact_2 = high_trees c.requires.fact;
      axis_lt_most_axes = axis_here c.requires.fact;
      both_shelves = c.requires.both_shelves;
      power_place = half_power c.requires.fact (omega arith);
      right_values = c.requires.right_values;
    }

pub overflow_add-at : goal.overflow_add-at
overflow_add-at c =
    omega (arith, block_fits c.requires.fact c.requires.at_place)

pub lay_word-below-requires : goal.lay_word-below-requires
lay_word-below-requires c =
    low_text c.requires.fact c.requires.at_place c.both_words-words.ensures.fact_3 c.both_words-words.ensures.fact_4

pub lay_word-above-requires : goal.lay_word-above-requires
lay_word-above-requires c =
    high_text c.requires.fact c.requires.at_place c.both_words-words.ensures.fact_3 c.both_words-words.ensures.fact_4 c.lay_word-below.ensures

pub join-requires : goal.join-requires
join-requires c =
    record {
      at_bound = block_fits c.requires.fact c.requires.at_place;
      end_lt_end_limit = words_end c.requires.fact c.requires.at_place c.both_words-words.ensures.fact_3 c.both_words-words.ensures.fact_4
          c.lay_word-below.ensures c.lay_word-above.ensures;
    }

pub shape_of-out : goal.shape_of-out
shape_of-out c =
    c.join.auto.out ∙ c.lay_word-above.auto.out ∙ c.lay_word-below.auto.out

pub returns : goal.returns
returns c =
    record {
      fact_2 = λ job. words_laid job c.requires.at_place c.both_words-words.ensures.fact_3 c.both_words-words.ensures.fact_4 c.lay_word-below.ensures
          c.lay_word-above.ensures c.join.ensures.value c.join.ensures.out_after;
      both_shelves_2 = c.both_words-words.ensures.both_shelves_2;
    }
