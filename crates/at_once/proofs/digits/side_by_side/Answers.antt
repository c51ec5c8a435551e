-- `side_by_side` is a sum, since the two have no digit together.
use Rattle.at_once.proofs.Shifts.{half_fits, joined_is}
use Rattle.at_once.proofs.digits.side_by_side.Goals as goal

pub overflow_shl-result-2 : goal.overflow_shl-result-2
overflow_shl-result-2 c = half_fits c.args.n c.requires.n_lt_word_levels

pub returns : goal.returns
returns c = joined_is c.args.n c.requires.n_lt_word_levels c.args.low c.args.high c.requires.low_bound c.requires.high_bound
