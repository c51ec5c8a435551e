-- `push_past` keeps what is still to be written, of the places still to come.
use Rattle.sweep.proofs.Pushes.{Ending}
use Rattle.sweep.proofs.places.push_past.Given as goal

abbrev pub invariant-loop-place : goal.invariant-loop-place
invariant-loop-place l = Ending l.expression l.initial.places l.places l.place-index
