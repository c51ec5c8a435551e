-- `prune` reads node by node over the shapes pending (`Going`): an operator joins the two last, a leaf is judged and pushed.
use Rattle.csg.specs.Surfaces.{surfaces_of}
use Rattle.pruned.specs.Nodes.{doubled, Pruning}
use Rattle.pruned.proofs.Pruning.{Going}
use Rattle.pruned.proofs.prune.prune.Given as goal

abbrev pub invariant-loop-i : goal.invariant-loop-i
invariant-loop-i l =
    (job : Pruning (surfaces_of l.rows l.balls) l.axes l.low l.side l.axis (doubled l.times) l.high l.centre l.fn.work l.from l.count l.to)
    → Going job l.work l.starts l.codes l.pending l.end l.i
