-- `eight` is made of its halves, the second one step further.
use lib.Dec.{lit<}
use Rattle.at_once.proofs.Rows.{step_fits, low_ready, high_ready, both_halves}
use Rattle.at_once.proofs.word.eight.Goals as goal

pub four-requires : goal.four-requires
four-requires c = low_ready 2 (lit< tt) c.requires

pub overflow_add-v : goal.overflow_add-v
overflow_add-v c = step_fits 2 (lit< tt) c.requires

pub four-requires-2 : goal.four-requires-2
four-requires-2 c = high_ready 2 (lit< tt) c.requires

pub returns : goal.returns
returns c = both_halves 2 (lit< tt) c.requires c.four.ensures c.four-2.ensures
