-- `amount` shifts the coefficient left: that is its product with a power of two, as crate pruned tells it.
use Rattle.pruned.proofs.Doublings.{shifted_is}
use Rattle.at_once.proofs.moves.amount.Goals as goal

pub returns : goal.returns
returns c = shifted_is c.args.times c.requires.small_coefficient c.requires.small_place
