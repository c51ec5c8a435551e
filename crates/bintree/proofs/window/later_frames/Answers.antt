-- Each answer is a law of proofs/Frames.antt.
use Rattle.bintree.proofs.Frames.{later_laws}
use Rattle.bintree.proofs.window.later_frames.Goals as goal

pub offset_bounds-bits-left : goal.offset_bounds-bits-left
offset_bounds-bits-left c = search later_laws

pub bounds-bits-left : goal.bounds-bits-left
bounds-bits-left c = search later_laws

pub overflow_shl-table : goal.overflow_shl-table
overflow_shl-table c = search later_laws

pub offset_bounds-bits-left-in-loop-left : goal.offset_bounds-bits-left-in-loop-left
offset_bounds-bits-left-in-loop-left c = search later_laws

pub bounds-bits-left-in-loop-left : goal.bounds-bits-left-in-loop-left
bounds-bits-left-in-loop-left c = search later_laws

pub overflow_shl-table-in-loop-left : goal.overflow_shl-table-in-loop-left
overflow_shl-table-in-loop-left c = search later_laws

pub overflow_sub-table : goal.overflow_sub-table
overflow_sub-table c = search later_laws

pub offset_bounds-table-left : goal.offset_bounds-table-left
offset_bounds-table-left c = search later_laws

pub bounds-table-left : goal.bounds-table-left
bounds-table-left c = search later_laws

pub loop-left-preserved : goal.loop-left-preserved
loop-left-preserved c = search later_laws

pub returns : goal.returns
returns c = search later_laws
