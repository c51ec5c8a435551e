-- `load` reads word by word (`Loads`).
use Rattle.at_once.specs.Loading.{LoadJob}
use Rattle.at_once.proofs.Loading.{Loads}
use Rattle.at_once.proofs.load.load.Given as goal

abbrev pub invariant-loop-i : goal.invariant-loop-i
invariant-loop-i l = (job : LoadJob l.words l.fn.codes l.from l.fn.starts) → Loads job l.codes l.starts l.pending l.i
