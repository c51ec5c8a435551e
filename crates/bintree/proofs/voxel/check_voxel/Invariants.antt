-- Along the axes before, the voxel is inside.
use Prim.Native.Nat.{ℕ, ◌<◌}
use mathlib.Core.Bool.{true}
use mathlib.Core.Path.{◌≡◌}
use Rattle.bintree.proofs.Voxels.{inside_along}
use Rattle.bintree.proofs.voxel.check_voxel.Given as goal

abbrev pub invariant-loop-axis : goal.invariant-loop-axis
invariant-loop-axis l = (i : ℕ) → i < l.axis → inside_along l.accepted.universe l.fn.voxel i ≡ true
