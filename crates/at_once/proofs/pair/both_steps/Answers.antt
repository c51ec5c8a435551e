-- `both_steps`: five products, none of which overflows.
use lib.Dec.{lit<}
use Rattle.at_once.proofs.Pairs.{both_fits, twice_are}
use Rattle.at_once.proofs.pair.both_steps.Goals as goal

pub overflow_mul-result : goal.overflow_mul-result
overflow_mul-result c = both_fits c.requires 0 (lit< tt)

pub overflow_mul-result-2 : goal.overflow_mul-result-2
overflow_mul-result-2 c = both_fits c.requires 1 (lit< tt)

pub overflow_mul-result-3 : goal.overflow_mul-result-3
overflow_mul-result-3 c = both_fits c.requires 2 (lit< tt)

pub overflow_mul-result-4 : goal.overflow_mul-result-4
overflow_mul-result-4 c = both_fits c.requires 3 (lit< tt)

pub overflow_mul-result-5 : goal.overflow_mul-result-5
overflow_mul-result-5 c = both_fits c.requires 4 (lit< tt)

pub returns : goal.returns
returns c = twice_are c.requires
