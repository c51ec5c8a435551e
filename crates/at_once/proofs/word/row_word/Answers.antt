-- `row_word` keeps the digits that the block has.
use Rattle.at_once.proofs.Rows.{all_digits, fewer_digits}
use Rattle.at_once.proofs.word.row_word.Goals as goal

pub returns-then-left : goal.returns-then-left
returns-then-left c = all_digits c.args.v c.args.steps.now c.if-left.true c.ranges.v c.sixty_four.ensures

pub returns : goal.returns
returns c = fewer_digits c.args.v c.args.steps.now c.args.left c.requires.left_le_word_levels c.ranges.v c.sixty_four-2.ensures c.all_ones.ensures
