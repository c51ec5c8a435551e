-- `verdict_at_once` ends in a refusal, or in the verdict of the whole universe.
use Rattle.std.proofs.Common.{◌≡◌, Err, rules}
use Rattle.at_once.proofs.Checks.{all_ready, judged_refused, judged_done}
use Rattle.at_once.proofs.verdict.verdict_at_once.Goals as goal

pub returns-in_err-check_clearance : goal.returns-in_err-check_clearance
returns-in_err-check_clearance c =
    let e : c.from_residual.result ≡ Err c.in_err-check_clearance.field-0.0 = search rules in
    rw e (judged_refused _ _ _ _ _ _ _ c.in_err-check_clearance.ensures)

pub whole_verdict-requires : goal.whole_verdict-requires
whole_verdict-requires c = all_ready _ _ _ _ _ _ c.in_ok-check_clearance.ensures

pub returns : goal.returns
returns c = judged_done _ _ _ _ _ _ c.in_ok-check_clearance.ensures c.whole_verdict.ensures
