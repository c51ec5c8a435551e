-- `row_words`: all ones, 0, in pairs where the values are small, else each by itself; thrice.
use Rattle.at_once.proofs.Rows.{fewer_digits}
use Rattle.at_once.proofs.Falling.{small_steps, same_ready, least_fits, greatest_fits}
use Rattle.at_once.proofs.Threes.{three_ones, three_none, three_fits, few_below, few_centre, few_above, held_mask}
use Rattle.at_once.proofs.three.row_words.Goals as goal

pub all_ones-ones-requires : goal.all_ones-ones-requires
all_ones-ones-requires c = c.requires.left_le_word_levels

pub fall_of-requires : goal.fall_of-requires
fall_of-requires c =
    small_steps c.requires.three_ready.sure

pub overflow_add-least : goal.overflow_add-least
overflow_add-least c =
    least_fits c.requires.three_ready.sure c.fall_of.ensures

pub returns-then-least-ge0 : goal.returns-then-least-ge0
returns-then-least-ge0 c =
    three_ones c.requires.three_ready c.fall_of.ensures c.if-least-ge0.true c.requires.left_le_word_levels c.all_ones-ones.ensures c.alike.ensures

pub rise_of-requires : goal.rise_of-requires
rise_of-requires c =
    small_steps c.requires.three_ready.sure

pub overflow_add-greatest : goal.overflow_add-greatest
overflow_add-greatest c =
    greatest_fits c.requires.three_ready.possible c.fall_of.ensures c.rise_of.ensures

pub returns-then-greatest-lt0 : goal.returns-then-greatest-lt0
returns-then-greatest-lt0 c =
    three_none c.requires.three_ready c.fall_of.ensures c.rise_of.ensures c.if-greatest-lt0.true c.requires.left_le_word_levels
    c.alike-then-greatest-lt0.ensures

pub overflow_sub-greatest : goal.overflow_sub-greatest
overflow_sub-greatest c =
    three_fits c.requires.three_ready c.fall_of.ensures c.rise_of.ensures

pub pairs_words-words-requires : goal.pairs_words-words-requires
pairs_words-words-requires c =
    let low = c.if-least-ge0.false in let high = c.if-greatest-lt0.false in let apart = c.if-greatest-least-lt-MOST_APART.true in
    record {
      few_values = few_below c.requires.three_ready c.fall_of.ensures c.rise_of.ensures low high apart c.ranges.below;
      few_values_2 = few_centre c.requires.three_ready c.fall_of.ensures c.rise_of.ensures low high apart c.ranges.v;
      few_values_3 = few_above c.requires.three_ready c.fall_of.ensures c.rise_of.ensures low high apart c.ranges.above;
    }

pub returns-then-greatest-least-lt-MOST_APART : goal.returns-then-greatest-least-lt-MOST_APART
returns-then-greatest-least-lt-MOST_APART c =
    let steps = c.args.steps.now in let left = c.args.left in let few = c.requires.left_le_word_levels in record {
      sure = fewer_digits c.args.below steps left few c.ranges.below c.pairs_words-words.ensures.sure c.all_ones-ones.ensures;
      centre = fewer_digits c.args.v steps left few c.ranges.v c.pairs_words-words.ensures.centre c.all_ones-ones.ensures;
      possible = fewer_digits c.args.above steps left few c.ranges.above c.pairs_words-words.ensures.possible c.all_ones-ones.ensures;
    }

pub row_word-requires : goal.row_word-requires
row_word-requires c =
    record { row_ready = same_ready c.requires.three_ready.sure; left_le_word_levels = c.requires.left_le_word_levels }

pub row_word-requires-2 : goal.row_word-requires-2
row_word-requires-2 c =
    record { row_ready = same_ready c.requires.three_ready.centre; left_le_word_levels = c.requires.left_le_word_levels }

pub row_word-requires-3 : goal.row_word-requires-3
row_word-requires-3 c =
    record { row_ready = same_ready c.requires.three_ready.possible; left_le_word_levels = c.requires.left_le_word_levels }

pub returns : goal.returns
returns c =
    let steps = c.args.steps.now in let left = c.args.left in
    record {
      sure = held_mask c.ranges.below steps left c.row_word.ensures;
      centre = held_mask c.ranges.v steps left c.row_word-2.ensures;
      possible = held_mask c.ranges.above steps left c.row_word-3.ensures;
    }
