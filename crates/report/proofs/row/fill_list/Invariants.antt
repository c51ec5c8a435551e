-- `fill_list` keeps that what is filled in and what the trees still to come have is what the whole list has.
use Rattle.std.proofs.Common.{◌-◌, length}
use Rattle.report.proofs.FillingLists.{Going}
use Rattle.report.proofs.row.fill_list.Given as goal

abbrev pub invariant-loop-at : goal.invariant-loop-at
invariant-loop-at l = Going l.window l.axes l.expressions l.initial.counts l.levels l.bits l.at l.counts

abbrev pub decreases-loop-at : goal.decreases-loop-at
decreases-loop-at l = length l.expressions - l.at
