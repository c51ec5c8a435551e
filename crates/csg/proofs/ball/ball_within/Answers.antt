-- The radius is judged first, then the number of each axis of the centre.
use Rattle.std.proofs.Common.{◌≡◌, true, false, pos, get_or, refl, rules}
use Rattle.std.proofs.lemmas.Iterator.{YieldsList-from_range, cases_from_all}
use Rattle.lemmas.proofs.Chains.{every_told}
use Rattle.csg.specs.Ball.{most_places, radius_within}
use Rattle.csg.proofs.BallChecks.{centre_within, radius_off, centre_told}
use Rattle.csg.proofs.ball.ball_within.Goals as goal

pub returns-then-not-radius_within : goal.returns-then-not-radius_within
returns-then-not-radius_within c =
    let ball = c.args.ball.now in
    let e : c.radius_within.result ≡ radius_within (get_or ball most_places (pos 0)) = search rules in
    radius_off c.args.universe ball e c.if-not-radius_within.true

pub returns : goal.returns
returns c =
    let u = c.args.universe in
    let ball = c.args.ball.now in
    let e : c.radius_within.result ≡ radius_within (get_or ball most_places (pos 0)) = search rules in
    centre_told u ball e c.if-not-radius_within.false
    (every_told (centre_within u ball) most_places _
    (cases_from_all _ _ _ (λ x. centre_within u ball x ≡ true) (λ x. centre_within u ball x ≡ false) c.all.ensures.ran
    (YieldsList-from_range 0 3 3 refl refl)
    (λ x q k. search rules)
    (λ x q k. search rules)))
