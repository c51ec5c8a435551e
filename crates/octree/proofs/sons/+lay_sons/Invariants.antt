-- The levels left and the halvings inside fall.
use Rattle.std.proofs.Common.{◌+◌, ◌*◌}
use Rattle.octree.proofs.sons.+lay_sons.Given as goal

abbrev pub decreases-lay_sons : goal.decreases-lay_sons
decreases-lay_sons l = 4 * l.left + l.inside
