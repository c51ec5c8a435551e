-- `lay_lone_ball` reads which side the node is of, and lays both halves by it.
use Rattle.std.proofs.Common.{refl}
use Rattle.pruned.proofs.Handed.{lone_code, some_axes, ball_halves, ball_laid}
use Rattle.pruned.proofs.round.lay_lone_ball.Goals as goal

pub code_at-code-requires : goal.code_at-code-requires
code_at-code-requires c = lone_code c.requires.halves refl

pub overflow_sub-axes : goal.overflow_sub-axes
overflow_sub-axes c = some_axes c.requires

pub ball_halves-requires : goal.ball_halves-requires
ball_halves-requires c = ball_halves c.requires c.code_at-code.ensures c.is_turned.ensures

pub returns : goal.returns
returns c =
    let x = c.code_at-code.ensures in
    let y = c.is_turned.ensures in
    λ job. ball_laid job x y _ _ (c.ball_halves.ensures (ball_halves job x y))
