-- `push_lows` keeps what is still to be written, from `next` on.
use Rattle.sweep.proofs.Pushes.{Pushing}
use Rattle.sweep.proofs.places.push_lows.Given as goal

abbrev pub invariant-loop-place : goal.invariant-loop-place
invariant-loop-place l = Pushing l.expression l.places l.initial.lows l.lows l.next l.place-index
