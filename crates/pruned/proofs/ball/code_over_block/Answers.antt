-- `code_over_block` adds up squares that are small, as the definition does: each answer is a law of `ball_laws`.
use Rattle.pruned.proofs.BallCodes.{ball_laws}
use Rattle.pruned.proofs.ball.code_over_block.Goals as goal

pub loop-axis-init : goal.loop-axis-init
loop-axis-init c = search ball_laws

pub overflow_mul-near : goal.overflow_mul-near
overflow_mul-near c = search ball_laws

pub overflow_add-near : goal.overflow_add-near
overflow_add-near c = search ball_laws

pub overflow_mul-far : goal.overflow_mul-far
overflow_mul-far c = search ball_laws

pub overflow_add-far : goal.overflow_add-far
overflow_add-far c = search ball_laws

pub loop-axis-preserved : goal.loop-axis-preserved
loop-axis-preserved c = search ball_laws
