-- Each answer is a law of proofs/Frames.antt.
use Rattle.bintree.proofs.Frames.{table_laws}
use Rattle.bintree.proofs.window.frame_bits.Goals as goal

pub loop-left-init : goal.loop-left-init
loop-left-init c = search table_laws

pub offset_bounds-table-left : goal.offset_bounds-table-left
offset_bounds-table-left c = search table_laws

pub bounds-table-left : goal.bounds-table-left
bounds-table-left c = search table_laws

pub offset_bounds-axes-left : goal.offset_bounds-axes-left
offset_bounds-axes-left c = search table_laws

pub bounds-axes-left : goal.bounds-axes-left
bounds-axes-left c = search table_laws

pub overflow_add-table : goal.overflow_add-table
overflow_add-table c = search table_laws

pub offset_bounds-table-left-in-loop-left : goal.offset_bounds-table-left-in-loop-left
offset_bounds-table-left-in-loop-left c = search table_laws

pub bounds-table-left-in-loop-left : goal.bounds-table-left-in-loop-left
bounds-table-left-in-loop-left c = search table_laws

pub loop-left-preserved : goal.loop-left-preserved
loop-left-preserved c = search table_laws

pub returns : goal.returns
returns c = search table_laws
