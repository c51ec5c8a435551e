-- `check_list` keeps that what is told of the rest of the list is what is asked.
use Rattle.std.proofs.Common.{◌-◌}
use Rattle.report.specs.Lists.{most_expressions}
use Rattle.report.proofs.Lists.{Judging}
use Rattle.report.proofs.list.check_list.Given as goal

abbrev pub invariant-loop : goal.invariant-loop
invariant-loop l = Judging l.universe l.expressions l.at (most_expressions - l.counter)
