-- Each chunk is a ball (proofs/BallChecks.antt).
use Rattle.std.proofs.Common.{◌≡◌, true, false, refl, ◌∙◌, rules, arith}
use Rattle.std.proofs.lemmas.Iterator.{cases_from_all}
use Rattle.lemmas.proofs.Chains.{every_cong, every_chunk_told, YieldsList-from_chunks_exact}
use Rattle.csg.specs.Ball.{ball_length, ball_count, ball_at, ball_within}
use Rattle.csg.proofs.BallChecks.{ball_chunk}
use Rattle.csg.proofs.ball.balls_within.Goals as goal

pub returns : goal.returns
returns c =
    let u = c.args.universe in
    let balls = c.args.balls.now in
    every_chunk_told ball_length (λ ball. ball_within u (ball_at ball 0)) (ball_count balls) balls _
    (cases_from_all _ _ _ (λ ball. ball_within u (ball_at ball 0) ≡ true) (λ ball. ball_within u (ball_at ball 0) ≡ false) c.all.ensures.ran
    (YieldsList-from_chunks_exact ball_length balls (ball_count balls) c.chunks_exact.ensures.rest c.chunks_exact.ensures.size (omega arith) refl)
    (λ x q k. search rules)
    (λ x q k. search rules))
    ∙ every_cong (ball_count balls) _ _ (λ i h. ball_chunk u balls i)
