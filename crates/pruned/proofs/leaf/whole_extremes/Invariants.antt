-- `whole_extremes` adds axis by axis what each gives.
use Rattle.std.proofs.Common.{◌≡◌}
use Rattle.csg.specs.Halfspace.{row_at}
use Rattle.pruned.specs.Loading.{whole_extremes}
use Rattle.pruned.proofs.leaf.whole_extremes.Given as goal

abbrev pub invariant-loop-axis : goal.invariant-loop-axis
invariant-loop-axis l = l.values ≡ whole_extremes l.axis (row_at l.rows l.i) l.side
