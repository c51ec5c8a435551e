-- Each answer is a law of proofs/Voxels.antt.
use mathlib.Core.Path.{sym, ◌∙◌}
use native.Mathlib.Omega.{arith}
use Rattle.bintree.proofs.Voxels.{outside_here, inside_all}
use Rattle.bintree.proofs.voxel.check_voxel.Goals as goal

pub returns-then-not-is_inside : goal.returns-then-not-is_inside
returns-then-not-is_inside c =
    outside_here _ _ _ c.loop-axis-test.true (sym c.is_inside.ensures ∙ c.if-not-is_inside.true)

pub returns : goal.returns
returns c = inside_all _ _ (λ i h. c.loop-axis.invariant i (omega arith))
