-- `pair_of_one`: a number that is not negative, of which digit 30 and digit 62 are kept.
use Rattle.at_once.proofs.Pairs.{one_cast, one_digits}
use Rattle.at_once.proofs.pair.pair_of_one.Goals as goal

pub overflow_cast-result : goal.overflow_cast-result
overflow_cast-result c = one_cast c.requires

pub returns : goal.returns
returns c = λ job. one_digits job
