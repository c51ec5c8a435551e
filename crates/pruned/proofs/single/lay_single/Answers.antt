-- `lay_single` reads what the node is a side of, and goes its way.
use Rattle.std.proofs.Common.{refl}
use Rattle.pruned.proofs.Handed.{lone_code, lone_job, lone_back, ball_job, ball_back}
use Rattle.pruned.proofs.single.lay_single.Goals as goal

pub code_at-code-requires : goal.code_at-code-requires
code_at-code-requires c = lone_code c.requires.halves refl

pub lay_lone-requires : goal.lay_lone-requires
lay_lone-requires c = lone_job c.requires c.code_at-code.ensures c.if-code-lt-FIRST_BALL_SIDE.true

pub returns-then-code-lt-FIRST_BALL_SIDE : goal.returns-then-code-lt-FIRST_BALL_SIDE
returns-then-code-lt-FIRST_BALL_SIDE c =
    let e = c.code_at-code.ensures in
    let h = c.if-code-lt-FIRST_BALL_SIDE.true in
    λ job. lone_back job e h _ _ (c.lay_lone.ensures (lone_job job e h))

pub lay_lone_ball-requires : goal.lay_lone_ball-requires
lay_lone_ball-requires c = ball_job c.requires c.code_at-code.ensures c.if-code-lt-FIRST_BALL_SIDE.false

pub returns : goal.returns
returns c =
    let e = c.code_at-code.ensures in
    let h = c.if-code-lt-FIRST_BALL_SIDE.false in
    λ job. ball_back job e h _ _ (c.lay_lone_ball.ensures (ball_job job e h))
