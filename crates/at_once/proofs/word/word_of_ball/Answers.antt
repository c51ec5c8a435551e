-- `word_of_ball` is the mask of the ball, from the numbers at its first voxel.
use Rattle.at_once.proofs.WordBlocks.{low_small}
use Rattle.at_once.proofs.BallValues.{offs_small}
use Rattle.at_once.proofs.BallWords.{some_axes, ball_named, ball_over, gives_ball}
use Rattle.at_once.proofs.word.word_of_ball.Goals as goal

pub overflow_sub-places : goal.overflow_sub-places
overflow_sub-places c = some_axes c.requires.fact c.args.i c.requires.i_bound

pub offs_of_ball-offs-requires : goal.offs_of_ball-offs-requires
offs_of_ball-offs-requires c =
    record { ball_named = ball_named c.requires.fact c.args.i c.requires.i_bound; small_places = low_small c.requires.fact }

pub distance_of-distance-requires : goal.distance_of-distance-requires
distance_of-distance-requires c = offs_small (ball_named c.requires.fact c.args.i c.requires.i_bound) (low_small c.requires.fact) c.offs_of_ball-offs.ensures

pub most_of_ball-most-requires : goal.most_of_ball-most-requires
most_of_ball-most-requires c = ball_named c.requires.fact c.args.i c.requires.i_bound

pub ball_word-requires : goal.ball_word-requires
ball_word-requires c = ball_over c.requires.fact c.args.i c.requires.i_bound c.offs_of_ball-offs.ensures c.distance_of-distance.ensures
    c.most_of_ball-most.ensures

pub returns : goal.returns
returns c = λ w. gives_ball w c.args.i c.requires.i_bound c.offs_of_ball-offs.ensures c.distance_of-distance.ensures c.most_of_ball-most.ensures
    (c.ball_word.ensures (ball_over w c.args.i c.requires.i_bound c.offs_of_ball-offs.ensures c.distance_of-distance.ensures c.most_of_ball-most.ensures))
