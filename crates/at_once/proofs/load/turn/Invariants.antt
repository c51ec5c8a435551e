-- `turn` turns over code by code (`Turns`).
use Rattle.at_once.specs.Loading.{TurnJob}
use Rattle.at_once.proofs.Turning.{Turns}
use Rattle.at_once.proofs.load.turn.Given as goal

abbrev pub invariant-loop-place : goal.invariant-loop-place
invariant-loop-place l = (job : TurnJob l.fn.codes l.from l.to) → Turns job l.codes l.place
