-- `check` tells the first check that refuses.
use Rattle.report.proofs.Reports.{refusal_laws}
use Rattle.report.proofs.answer.check.Goals as goal

pub returns-in_err-check : goal.returns-in_err-check
returns-in_err-check c = search refusal_laws

pub check_list-requires : goal.check_list-requires
check_list-requires c = search refusal_laws

pub returns-in_err-check_list : goal.returns-in_err-check_list
returns-in_err-check_list c = search refusal_laws

pub returns : goal.returns
returns c = search refusal_laws
