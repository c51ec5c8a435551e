-- The levels left and the halvings inside fall.
use Rattle.std.proofs.Common.{◌+◌, ◌*◌}
use Rattle.octree.proofs.runs.+run_end.Given as goal

abbrev pub decreases-run_end : goal.decreases-run_end
decreases-run_end l = 4 * l.left + l.inside
