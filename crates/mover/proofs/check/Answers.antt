-- `check`: what its later checks ask the earlier ones have seen.
use Rattle.std.proofs.Common.{sym}
use Rattle.mover.proofs.Accepted.{has_stretches}
use Rattle.mover.proofs.check.Goals as goal

pub check_steps-requires : goal.check_steps-requires
check_steps-requires c =
    let accepted = c.in_ok-accepted.accepted in
    has_stretches accepted.universe c.args.mover.moments.now c.args.mover.corners.now accepted.not_refused (sym c.in_ok-check_corners.ensures)
    (sym c.in_ok-check_keys.ensures)
