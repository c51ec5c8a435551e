-- `four` is made of its halves, the second one step further.
use lib.Dec.{lit<}
use Rattle.at_once.proofs.Rows.{step_fits, low_ready, high_ready, both_halves}
use Rattle.at_once.proofs.word.four.Goals as goal

pub two-requires : goal.two-requires
two-requires c = low_ready 1 (lit< tt) c.requires

pub overflow_add-v : goal.overflow_add-v
overflow_add-v c = step_fits 1 (lit< tt) c.requires

pub two-requires-2 : goal.two-requires-2
two-requires-2 c = high_ready 1 (lit< tt) c.requires

pub returns : goal.returns
returns c = both_halves 1 (lit< tt) c.requires c.two.ensures c.two-2.ensures
