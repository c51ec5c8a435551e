-- The table is right as far as it is made.
use Rattle.bintree.proofs.Frames.{Tabled}
use Rattle.bintree.proofs.window.frame_bits.Given as goal

abbrev pub invariant-loop-left : goal.invariant-loop-left
invariant-loop-left l = Tabled l.accepted.universe l.table l.left
