-- By the farthest distance and the length, and the square to the voxel's centre.
use Rattle.convert.proofs.BallCodes.{near_fits, far_fits, squares_are}
use Rattle.convert.proofs.ball.squares_along.Goals as goal

pub overflow_mul-result : goal.overflow_mul-result
overflow_mul-result c = let q = c.requires in near_fits q.small_place q.ball_centre q.small_place_2 c.farthest-far.ensures c.saturating_sub-near.ensures

pub overflow_mul-result-2 : goal.overflow_mul-result-2
overflow_mul-result-2 c = let q = c.requires in far_fits q.small_place q.ball_centre q.small_place_2 c.farthest-far.ensures

pub returns : goal.returns
returns c =
    let q = c.requires in
    squares_are q.small_place q.ball_centre q.small_place_2 c.farthest-far.ensures c.saturating_sub-near.ensures c.middle_square.ensures
