-- `surface_digit` by the kind of the surface that the name has.
use Prim.Native.Nat.{◌-◌}
use Rattle.at_once.proofs.WordBlocks.{row_named, low_small, placed_row}
use Rattle.at_once.proofs.BallValues.{offs_small}
use Rattle.at_once.proofs.BallWords as balls
use Rattle.at_once.proofs.LeafWords.{row_value, row_some, row_place, ball_place, gives_row, gives_ball}
use Rattle.at_once.proofs.Voxels.{row_digit, ball_digit}
use Rattle.at_once.proofs.voxel.surface_digit.Goals as goal

pub overflow_sub-i : goal.overflow_sub-i
overflow_sub-i c = row_some c.requires.fact.word c.if-name-lt-FIRST_BALL.true

pub value_of_row-requires : goal.value_of_row-requires
value_of_row-requires c = let j = c.requires.fact.word in let l = c.if-name-lt-FIRST_BALL.true in
    record {
      row_named = row_named j.block (c.args.name - 256) (row_place j l);
      row_placed = placed_row j.block (row_value c.requires.value_of (row_some j l) l);
    }

pub returns-then-name-lt-FIRST_BALL : goal.returns-then-name-lt-FIRST_BALL
returns-then-name-lt-FIRST_BALL c = let l = c.if-name-lt-FIRST_BALL.true in
    λ job. let j = job.word in
    let v = c.value_of_row.ensures (placed_row j.block (row_value c.requires.value_of (row_some j l) l)) in
    gives_row j l (row_digit j.block (c.args.name - 256) (row_place j l) v c.test_digit.ensures)

pub offs_of_ball-offs-requires : goal.offs_of_ball-offs-requires
offs_of_ball-offs-requires c = let j = c.requires.fact.word in
    record {
      ball_named = balls.ball_named j.block (c.args.name - 512) (ball_place j c.if-name-lt-FIRST_BALL.false);
      small_places = low_small j.block;
    }

pub overflow_sub-axes : goal.overflow_sub-axes
overflow_sub-axes c = let j = c.requires.fact.word in
    balls.some_axes j.block (c.args.name - 512) (ball_place j c.if-name-lt-FIRST_BALL.false)

pub distance_of-distance-requires : goal.distance_of-distance-requires
distance_of-distance-requires c = let j = c.requires.fact.word in
    offs_small (balls.ball_named j.block (c.args.name - 512) (ball_place j c.if-name-lt-FIRST_BALL.false)) (low_small j.block) c.offs_of_ball-offs.ensures

pub most_of_ball-requires : goal.most_of_ball-requires
most_of_ball-requires c = let j = c.requires.fact.word in
    balls.ball_named j.block (c.args.name - 512) (ball_place j c.if-name-lt-FIRST_BALL.false)

pub returns : goal.returns
returns c =
    let l = c.if-name-lt-FIRST_BALL.false in
    λ job. let j = job.word in let i = c.args.name - 512 in let here = ball_place j l in
    gives_ball j l (balls.gives_ball j.block i here c.offs_of_ball-offs.ensures c.distance_of-distance.ensures c.most_of_ball.ensures
    (ball_digit (balls.ball_over j.block i here c.offs_of_ball-offs.ensures c.distance_of-distance.ensures c.most_of_ball.ensures)
    c.test_digit-2.ensures))
