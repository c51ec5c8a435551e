-- `each_of_sixty_four` is made of its halves, the second one step further.
use lib.Dec.{lit<}
use Rattle.at_once.proofs.Rows.{step_fits, low_ready, high_ready, both_halves}
use Rattle.at_once.proofs.word.each_of_sixty_four.Goals as goal

pub thirty_two-requires : goal.thirty_two-requires
thirty_two-requires c = low_ready 5 (lit< tt) c.requires

pub overflow_add-v : goal.overflow_add-v
overflow_add-v c = step_fits 5 (lit< tt) c.requires

pub thirty_two-requires-2 : goal.thirty_two-requires-2
thirty_two-requires-2 c = high_ready 5 (lit< tt) c.requires

pub returns : goal.returns
returns c = both_halves 5 (lit< tt) c.requires c.thirty_two.ensures c.thirty_two-2.ensures
