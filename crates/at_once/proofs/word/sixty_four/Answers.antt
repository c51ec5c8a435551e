-- `sixty_four`: all ones, 0, in pairs where the values are small, else each by itself.
use Rattle.at_once.proofs.Falling.{small_steps, same_ready, as_held, least_fits, ones_are, greatest_fits, none_are, apart_fits, few_values}
use Rattle.at_once.proofs.word.sixty_four.Goals as goal

pub fall_of-requires : goal.fall_of-requires
fall_of-requires c = small_steps c.requires

pub overflow_add-least : goal.overflow_add-least
overflow_add-least c = least_fits c.requires c.fall_of.ensures

pub returns-then-least-ge0 : goal.returns-then-least-ge0
returns-then-least-ge0 c = ones_are c.requires c.fall_of.ensures c.if-least-ge0.true

pub rise_of-requires : goal.rise_of-requires
rise_of-requires c = small_steps c.requires

pub overflow_add-greatest : goal.overflow_add-greatest
overflow_add-greatest c = greatest_fits c.requires c.fall_of.ensures c.rise_of.ensures

pub returns-then-greatest-lt0 : goal.returns-then-greatest-lt0
returns-then-greatest-lt0 c = none_are c.requires c.fall_of.ensures c.rise_of.ensures c.if-greatest-lt0.true

pub overflow_sub-greatest : goal.overflow_sub-greatest
overflow_sub-greatest c = apart_fits c.requires c.fall_of.ensures c.rise_of.ensures

pub pairs_word-requires : goal.pairs_word-requires
pairs_word-requires c =
    few_values c.requires c.fall_of.ensures c.rise_of.ensures c.if-least-ge0.false c.if-greatest-lt0.false
    c.if-greatest-least-lt-MOST_APART.true

pub returns-then-greatest-least-lt-MOST_APART : goal.returns-then-greatest-least-lt-MOST_APART
returns-then-greatest-least-lt-MOST_APART c = as_held c.requires c.pairs_word.ensures

pub each_of_sixty_four-requires : goal.each_of_sixty_four-requires
each_of_sixty_four-requires c = same_ready c.requires

pub returns : goal.returns
returns c = as_held c.requires c.each_of_sixty_four.ensures
