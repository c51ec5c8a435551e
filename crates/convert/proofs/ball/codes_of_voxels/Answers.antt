-- Each answer is a law of `ball_laws`.
use Rattle.convert.proofs.BallCodes.{ball_laws}
use Rattle.convert.proofs.ball.codes_of_voxels.Goals as goal

pub loop-axis-init : goal.loop-axis-init
loop-axis-init c = (search ball_laws, search ball_laws)

pub overflow_add-near : goal.overflow_add-near
overflow_add-near c = search ball_laws

pub overflow_add-far : goal.overflow_add-far
overflow_add-far c = search ball_laws

pub overflow_add-middle : goal.overflow_add-middle
overflow_add-middle c = search ball_laws

pub overflow_add-high_near : goal.overflow_add-high_near
overflow_add-high_near c = search ball_laws

pub overflow_add-high_far : goal.overflow_add-high_far
overflow_add-high_far c = search ball_laws

pub overflow_add-high_middle : goal.overflow_add-high_middle
overflow_add-high_middle c = search ball_laws

pub loop-axis-preserved : goal.loop-axis-preserved
loop-axis-preserved c = (search ball_laws, search ball_laws)

pub overflow_mul-middle : goal.overflow_mul-middle
overflow_mul-middle c = search ball_laws

pub overflow_add-middle-2 : goal.overflow_add-middle-2
overflow_add-middle-2 c = search ball_laws

pub code_by-below-requires : goal.code_by-below-requires
code_by-below-requires c = search ball_laws

pub overflow_mul-high_middle : goal.overflow_mul-high_middle
overflow_mul-high_middle c = search ball_laws

pub overflow_add-high_middle-2 : goal.overflow_add-high_middle-2
overflow_add-high_middle-2 c = search ball_laws

pub code_by-above-requires : goal.code_by-above-requires
code_by-above-requires c = search ball_laws

pub returns : goal.returns
returns c = search ball_laws
