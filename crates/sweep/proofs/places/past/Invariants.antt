-- `past` keeps what is still to be passed: the tree at hand and `more` behind it.
use Rattle.std.proofs.Common.{◌≤◌, length, max}
use Rattle.sweep.proofs.Slots.{Passing}
use Rattle.sweep.proofs.places.past.Given as goal

abbrev pub invariant-loop-place : goal.invariant-loop-place
invariant-loop-place l = record {
  passing : Passing l.expression l.at l.place l.more;
  most : l.place ≤ max l.at (length l.expression);
}
