-- `pull_back` keeps what is still to be written, and the ends that are left.
use Rattle.sweep.proofs.Pulls.{Pulling}
use Rattle.sweep.proofs.places.pull_back.Given as goal

abbrev pub invariant-loop-place : goal.invariant-loop-place
invariant-loop-place l = Pulling l.expression l.ends l.initial.places l.places l.next l.place-index
