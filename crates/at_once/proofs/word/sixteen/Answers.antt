-- `sixteen` is made of its halves, the second one step further.
use lib.Dec.{lit<}
use Rattle.at_once.proofs.Rows.{step_fits, low_ready, high_ready, both_halves}
use Rattle.at_once.proofs.word.sixteen.Goals as goal

pub eight-requires : goal.eight-requires
eight-requires c = low_ready 3 (lit< tt) c.requires

pub overflow_add-v : goal.overflow_add-v
overflow_add-v c = step_fits 3 (lit< tt) c.requires

pub eight-requires-2 : goal.eight-requires-2
eight-requires-2 c = high_ready 3 (lit< tt) c.requires

pub returns : goal.returns
returns c = both_halves 3 (lit< tt) c.requires c.eight.ensures c.eight-2.ensures
