-- `prune` reads code by code over the shapes pending (`Going`): an operator joins the two last, a leaf is judged, by the value of its row that is carried, and
-- pushed.
use Rattle.csg.specs.Surfaces.{surfaces_of}
use Rattle.at_once.specs.Pruning.{PruneJob}
use Rattle.at_once.proofs.Pruning.{Going}
use Rattle.at_once.proofs.prune.prune.Given as goal

abbrev pub invariant-loop-i : goal.invariant-loop-i
invariant-loop-i l =
    (job : PruneJob (surfaces_of l.rows l.balls) l.axes l.low l.side l.fn.codes l.from l.count) → Going job l.codes l.starts l.marks l.pending l.end l.i
