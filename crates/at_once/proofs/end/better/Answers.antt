-- `better` gives the later of two frames, or the earlier.
use Rattle.at_once.proofs.Betters.{better_last, better_first}
use Rattle.at_once.proofs.end.better.Goals as goal

pub returns-then-backward : goal.returns-then-backward
returns-then-backward c = better_last c.args.one c.args.other c.if-backward.true c.max.ensures

pub returns : goal.returns
returns c = better_first c.args.one c.args.other c.if-backward.false c.min.ensures
