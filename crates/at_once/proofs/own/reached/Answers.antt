-- `reached` by its cases.
use Rattle.at_once.proofs.OwnValues.{above_reached, below_reached}
use Rattle.at_once.proofs.own.reached.Goals as goal

pub returns-then-possible : goal.returns-then-possible
returns-then-possible c = rw c.saturating_sub.ensures (above_reached c.requires c.if-possible.true)

pub returns : goal.returns
returns c = below_reached c.requires c.if-possible.false
