-- What was read stands at the front of the room, and each read that goes on leaves less to read.
use Rattle.std.proofs.Common.{length, ◌-◌, ◌≤◌}
use Rattle.clearance.proofs.read_full.Given as goal

abbrev pub invariant-loop-got : goal.invariant-loop-got
invariant-loop-got g l = l.got ≤ length l.room

abbrev pub decreases-loop-got : goal.decreases-loop-got
decreases-loop-got g l = length l.room - l.got
