-- `set_steps` goes from the block down: what it has set, and the sides of the block that it has come to, are those of any
-- universe that has them.
use Rattle.csg.specs.Halfspace.{row_at}
use Rattle.pruned.specs.Alone.{StepsJob}
use Rattle.pruned.proofs.Amounts.{Filled}
use Rattle.pruned.proofs.lone.set_steps.Given as goal

abbrev pub invariant-loop-n : goal.invariant-loop-n
invariant-loop-n l =
    (job : StepsJob l.rows l.row l.table l.side l.left) → Filled job.universe (row_at l.rows l.row) job.low l.n l.left l.steps l.sides
