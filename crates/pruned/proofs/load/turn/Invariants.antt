-- `turn` turns over node by node (`Turns`).
use Rattle.pruned.specs.Loading.{Turning}
use Rattle.pruned.proofs.Turning.{Turns}
use Rattle.pruned.proofs.load.turn.Given as goal

abbrev pub invariant-loop-place : goal.invariant-loop-place
invariant-loop-place l = (job : Turning l.fn.work l.from l.to) → Turns job l.work l.place
