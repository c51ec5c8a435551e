-- The table is right as far as it is made.
use Rattle.bintree.proofs.Frames.{Later}
use Rattle.bintree.proofs.window.later_frames.Given as goal

abbrev pub invariant-loop-left : goal.invariant-loop-left
invariant-loop-left l = Later l.bits l.table l.levels l.left
