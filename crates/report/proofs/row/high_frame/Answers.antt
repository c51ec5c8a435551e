-- `high_frame` tells where a high half's frames begin; nothing overflows, since the block is in the longest side.
use Rattle.report.proofs.Rows.{later_laws}
use Rattle.report.proofs.row.high_frame.Goals as goal

pub overflow_shl-result : goal.overflow_shl-result
overflow_shl-result c = search later_laws

pub overflow_shl-result-2 : goal.overflow_shl-result-2
overflow_shl-result-2 c = search later_laws

pub overflow_sub-result : goal.overflow_sub-result
overflow_sub-result c = search later_laws

pub returns : goal.returns
returns c = search later_laws
