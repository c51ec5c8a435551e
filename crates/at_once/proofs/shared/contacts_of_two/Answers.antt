-- `contacts_of_two` ends in a refusal, or in the counts of the whole universe.
use Rattle.std.proofs.Common.{◌≡◌, Err, rules}
use Rattle.at_once.proofs.Checks.{all_ready, contacts_refused, contacts_done}
use Rattle.at_once.proofs.shared.contacts_of_two.Goals as goal

pub returns-in_err-check_clearance : goal.returns-in_err-check_clearance
returns-in_err-check_clearance c =
    let e : c.from_residual.result ≡ Err c.in_err-check_clearance.field-0.0 = search rules in
    rw e (contacts_refused _ _ _ _ _ _ _ c.in_err-check_clearance.ensures)

pub whole_tally-requires : goal.whole_tally-requires
whole_tally-requires c = all_ready _ _ _ _ _ _ c.in_ok-check_clearance.ensures

pub returns : goal.returns
returns c = contacts_done _ _ _ _ _ _ c.in_ok-check_clearance.ensures c.whole_tally.ensures
