-- `lower` is a remainder.
use Rattle.at_once.proofs.Shifts.{half_fits, one_some, lower_is}
use Rattle.at_once.proofs.digits.lower.Goals as goal

pub overflow_shl-result-2 : goal.overflow_shl-result-2
overflow_shl-result-2 c = half_fits c.args.n c.requires

pub overflow_sub-result : goal.overflow_sub-result
overflow_sub-result c = one_some c.args.n c.requires

pub returns : goal.returns
returns c = lower_is c.args.n c.requires c.args.word
