-- The levels left and the halvings inside fall.
use Rattle.std.proofs.Common.{◌+◌, ◌*◌}
use Rattle.octree.proofs.runs.+lay_run.Given as goal

abbrev pub decreases-lay_run : goal.decreases-lay_run
decreases-lay_run l = 4 * l.left + l.inside
