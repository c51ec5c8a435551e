-- `first_pair`: none of its sums overflows.
use Rattle.at_once.proofs.Pairs.{high_fits, more_fits, placed_fits, low_fits, whole_fits, whole_is}
use Rattle.at_once.proofs.pair.first_pair.Goals as goal

pub overflow_add-result : goal.overflow_add-result
overflow_add-result c =
    high_fits c.requires

pub overflow_add-result-2 : goal.overflow_add-result-2
overflow_add-result-2 c =
    more_fits c.requires

pub overflow_mul-result : goal.overflow_mul-result
overflow_mul-result c =
    placed_fits c.requires

pub overflow_add-result-3 : goal.overflow_add-result-3
overflow_add-result-3 c =
    low_fits c.requires

pub overflow_add-result-4 : goal.overflow_add-result-4
overflow_add-result-4 c =
    whole_fits c.requires

pub returns : goal.returns
returns c =
    whole_is c.requires
