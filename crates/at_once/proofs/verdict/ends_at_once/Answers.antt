-- `ends_at_once` ends in a refusal, or in the ends of that of the whole universe.
use Rattle.std.proofs.Common.{◌≡◌, Err, rules}
use Rattle.at_once.proofs.Checks.{all_ready, spanned_refused, spanned_done}
use Rattle.at_once.proofs.verdict.ends_at_once.Goals as goal

pub returns-in_err-check_clearance : goal.returns-in_err-check_clearance
returns-in_err-check_clearance c =
    let e : c.from_residual.result ≡ Err c.in_err-check_clearance.field-0.0 = search rules in
    rw e (spanned_refused _ _ _ _ _ _ _ c.in_err-check_clearance.ensures)

pub whole_span-requires : goal.whole_span-requires
whole_span-requires c = all_ready _ _ _ _ _ _ c.in_ok-check_clearance.ensures

pub returns : goal.returns
returns c = spanned_done _ _ _ _ _ _ c.in_ok-check_clearance.ensures c.whole_span.ensures
