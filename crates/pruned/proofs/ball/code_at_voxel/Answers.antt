-- `code_at_voxel` adds up squares that are small, as the definition does: each answer is a law of `ball_laws`.
use Rattle.pruned.proofs.BallCodes.{ball_laws}
use Rattle.pruned.proofs.ball.code_at_voxel.Goals as goal

pub loop-axis-init : goal.loop-axis-init
loop-axis-init c = search ball_laws

pub loop-axis-preserved : goal.loop-axis-preserved
loop-axis-preserved c = search ball_laws
