-- `pair_of_sixteen` is made of its halves, the second one step further.
use lib.Dec.{lit<}
use Rattle.at_once.proofs.Pairs.{pair_fits, low_pair, high_pair, both_pairs}
use Rattle.at_once.proofs.pair.pair_of_sixteen.Goals as goal

pub pair_of_eight-requires : goal.pair_of_eight-requires
pair_of_eight-requires c = low_pair 3 (lit< tt) c.requires

pub overflow_add-pair : goal.overflow_add-pair
overflow_add-pair c = pair_fits 3 (lit< tt) c.requires

pub pair_of_eight-requires-2 : goal.pair_of_eight-requires-2
pair_of_eight-requires-2 c = high_pair 3 (lit< tt) c.requires

pub returns : goal.returns
returns c = λ job. both_pairs 3 (lit< tt) job c.pair_of_eight.ensures c.pair_of_eight-2.ensures
