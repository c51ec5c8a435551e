-- The halves of the levels that are done lead from there to the voxel, and `rest` has its places there.
use Rattle.bintree.proofs.Voxels.{Leading}
use Rattle.bintree.proofs.voxel.path_to.Given as goal

abbrev pub invariant-loop-left : goal.invariant-loop-left
invariant-loop-left l = Leading l.fn.accepted.universe l.axes l.fn.voxel l.path l.rest l.levels l.left
