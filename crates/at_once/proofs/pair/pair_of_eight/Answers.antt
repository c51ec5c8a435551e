-- `pair_of_eight` is made of its halves, the second one step further.
use lib.Dec.{lit<}
use Rattle.at_once.proofs.Pairs.{pair_fits, low_pair, high_pair, both_pairs}
use Rattle.at_once.proofs.pair.pair_of_eight.Goals as goal

pub pair_of_four-requires : goal.pair_of_four-requires
pair_of_four-requires c = low_pair 2 (lit< tt) c.requires

pub overflow_add-pair : goal.overflow_add-pair
overflow_add-pair c = pair_fits 2 (lit< tt) c.requires

pub pair_of_four-requires-2 : goal.pair_of_four-requires-2
pair_of_four-requires-2 c = high_pair 2 (lit< tt) c.requires

pub returns : goal.returns
returns c = λ job. both_pairs 2 (lit< tt) job c.pair_of_four.ensures c.pair_of_four-2.ensures
