-- `load` reads word by word (`Loads`).
use Rattle.pruned.specs.Loading.{Loading}
use Rattle.pruned.proofs.Loadings.{Loads}
use Rattle.pruned.proofs.load.load.Given as goal

abbrev pub invariant-loop-i : goal.invariant-loop-i
invariant-loop-i l =
    (job : Loading l.axes l.rows l.side l.words l.fn.work l.from l.fn.starts) → Loads job l.work l.starts l.pending l.i
