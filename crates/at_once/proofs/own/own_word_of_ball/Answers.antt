-- `own_word_of_ball` is the mask of the ball's sure or possible contact, from the numbers at its first voxel.
use Rattle.at_once.proofs.WordBlocks.{low_small}
use Rattle.at_once.proofs.BallWords.{some_axes, ball_named}
use Rattle.at_once.proofs.OwnBalls.{own_over, gives_own_ball}
use Rattle.at_once.proofs.own.own_word_of_ball.Goals as goal

pub offs_of_ball-offs-requires : goal.offs_of_ball-offs-requires
offs_of_ball-offs-requires c =
    record { ball_named = ball_named c.requires.fact c.args.i c.requires.i_bound; small_places = low_small c.requires.fact }

pub most_of_ball-most-requires : goal.most_of_ball-most-requires
most_of_ball-most-requires c = ball_named c.requires.fact c.args.i c.requires.i_bound

pub overflow_sub-axes : goal.overflow_sub-axes
overflow_sub-axes c = some_axes c.requires.fact c.args.i c.requires.i_bound

pub own_ball_word-requires : goal.own_ball_word-requires
own_ball_word-requires c = own_over c.requires.fact c.args.i c.requires.i_bound c.offs_of_ball-offs.ensures c.most_of_ball-most.ensures

pub returns : goal.returns
returns c = λ w. gives_own_ball w c.args.i c.requires.i_bound c.offs_of_ball-offs.ensures c.most_of_ball-most.ensures c.args.possible
    (c.own_ball_word.ensures (own_over w c.args.i c.requires.i_bound c.offs_of_ball-offs.ensures c.most_of_ball-most.ensures))
