-- `thirty_two` is made of its halves, the second one step further.
use lib.Dec.{lit<}
use Rattle.at_once.proofs.Rows.{step_fits, low_ready, high_ready, both_halves}
use Rattle.at_once.proofs.word.thirty_two.Goals as goal

pub sixteen-requires : goal.sixteen-requires
sixteen-requires c = low_ready 4 (lit< tt) c.requires

pub overflow_add-v : goal.overflow_add-v
overflow_add-v c = step_fits 4 (lit< tt) c.requires

pub sixteen-requires-2 : goal.sixteen-requires-2
sixteen-requires-2 c = high_ready 4 (lit< tt) c.requires

pub returns : goal.returns
returns c = both_halves 4 (lit< tt) c.requires c.sixteen.ensures c.sixteen-2.ensures
