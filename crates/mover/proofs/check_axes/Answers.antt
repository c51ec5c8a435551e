-- `check_axes`: the universe that it gives is the one that it is asked of.
use Rattle.std.proofs.Common.{refl}
use Rattle.universe.proofs.Telling.{number-not_zero}
use Rattle.universe.proofs.Acceptance.{accepted_same}
use Rattle.mover.proofs.Accepted.{axes_taken, axes_not}
use Rattle.mover.proofs.check_axes.Goals as goal

pub returns-in-Ok-clause-is : goal.returns-in-Ok-clause-is
returns-in-Ok-clause-is c = axes_taken c.args.universe c.in-Ok.ensures refl c.if-universe-eq-PROXY_AXES.true

pub returns-in-Ok-clause-same : goal.returns-in-Ok-clause-same
returns-in-Ok-clause-same c = accepted_same c.args.universe c.in-Ok.ensures refl

pub returns-in_default-2-clause-is : goal.returns-in_default-2-clause-is
returns-in_default-2-clause-is c = axes_not c.args.universe c.in_default.ensures (number-not_zero _)
