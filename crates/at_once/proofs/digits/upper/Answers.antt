-- `upper` is a quotient.
use Rattle.at_once.proofs.Shifts.{half_fits, upper_is}
use Rattle.at_once.proofs.digits.upper.Goals as goal

pub overflow_shr-result : goal.overflow_shr-result
overflow_shr-result c = half_fits c.args.n c.requires

pub returns : goal.returns
returns c = upper_is c.args.n c.requires c.args.word
