-- `pair_of_two` is made of its halves, the second one step further.
use lib.Dec.{lit<}
use Rattle.at_once.proofs.Pairs.{pair_fits, low_pair, high_pair, both_pairs, as_one, from_one}
use Rattle.at_once.proofs.pair.pair_of_two.Goals as goal

pub pair_of_one-requires : goal.pair_of_one-requires
pair_of_one-requires c = as_one (low_pair 0 (lit< tt) c.requires)

pub overflow_add-pair : goal.overflow_add-pair
overflow_add-pair c = pair_fits 0 (lit< tt) c.requires

pub pair_of_one-requires-2 : goal.pair_of_one-requires-2
pair_of_one-requires-2 c = as_one (high_pair 0 (lit< tt) c.requires)

pub returns : goal.returns
returns c = λ job. both_pairs 0 (lit< tt) job (λ j. from_one c.pair_of_one.ensures j) (λ j. from_one c.pair_of_one-2.ensures j)
