-- Each answer is a law of proofs/Voxels.antt.
use mathlib.Core.Path.{refl}
use native.Mathlib.Omega.{arith}
use Rattle.bintree.proofs.Voxels.{leading_next, path_whole, leading_laws}
use Rattle.bintree.proofs.voxel.path_to.Goals as goal

pub offset_bounds-axes-left : goal.offset_bounds-axes-left
offset_bounds-axes-left c = search leading_laws

pub bounds-axes-left : goal.bounds-axes-left
bounds-axes-left c = search leading_laws

pub offset_bounds-rest-axis : goal.offset_bounds-rest-axis
offset_bounds-rest-axis c = search leading_laws

pub bounds-rest-axis : goal.bounds-rest-axis
bounds-rest-axis c = search leading_laws

pub bounds-path-levels : goal.bounds-path-levels
bounds-path-levels c = search leading_laws

pub offset_bounds-rest-axis-in-loop-left : goal.offset_bounds-rest-axis-in-loop-left
offset_bounds-rest-axis-in-loop-left c = search leading_laws

pub bounds-rest-axis-in-loop-left : goal.bounds-rest-axis-in-loop-left
bounds-rest-axis-in-loop-left c = search leading_laws

pub bounds-rest-axis-in-loop-left-2 : goal.bounds-rest-axis-in-loop-left-2
bounds-rest-axis-in-loop-left-2 c = search leading_laws

pub loop-left-preserved : goal.loop-left-preserved
loop-left-preserved c = leading_next c.loop-left.invariant c.loop-left-test.true _ refl

pub returns : goal.returns
returns c = path_whole c.loop-left.invariant (omega arith)
