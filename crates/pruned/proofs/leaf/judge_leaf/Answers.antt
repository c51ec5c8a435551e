-- `judge_leaf` tells by the code which leaf the node is of: a constant, a halfspace whose values it moves, or a ball.
use Rattle.std.proofs.Common.{◌<◌}
use Rattle.pruned.specs.Nodes.{first_ball_side}
use Rattle.pruned.proofs.Doublings.{no_centre, moving, still}
use Rattle.pruned.proofs.Leaves.{told_job, white_told, black_told, row_in, moved_asks, code_asks, side_told, over_told, stays, ball_asks, ball_told}
use Rattle.pruned.proofs.Moving.{unmoved}
use Rattle.pruned.proofs.leaf.judge_leaf.Goals.{Then-code-moving_below}
use Rattle.pruned.proofs.leaf.judge_leaf.Goals as goal

moves : (c : Then-code-moving_below) → (c.args.times < 64) × (c.args.code < first_ball_side)
moves c = moving c.args.times c.args.code c.moving_below.ensures c.if-code-lt-FIRST_SIDE.false c.if-code-moving_below.true

pub returns-then-code-eq0 : goal.returns-then-code-eq0
returns-then-code-eq0 c = λ j. told_job j (white_told j.step j.tree j.leaf j.stands j.code_is j.least_is j.greatest_is c.if-code-eq0.true)

pub returns-else-code-eq0 : goal.returns-else-code-eq0
returns-else-code-eq0 c = λ j.
    told_job j (black_told j.step j.tree j.leaf j.stands j.code_is j.least_is j.greatest_is c.if-code-lt-FIRST_SIDE.true c.if-code-eq0.false)

pub bounds-rows-row : goal.bounds-rows-row
bounds-rows-row c =
    let j = c.requires in
    let m = moves (goal.at.bounds-rows-row c).Then-code-moving_below in
    row_in j.step j.tree j.leaf j.stands j.code_is j.least_is j.greatest_is c.if-code-lt-FIRST_SIDE.false m.1

pub moved-values-requires : goal.moved-values-requires
moved-values-requires c =
    let j = c.requires in
    let m = moves (goal.at.moved-values-requires c).Then-code-moving_below in
    let a = moved_asks j.step j.tree j.leaf j.stands j.code_is j.least_is j.greatest_is c.if-code-lt-FIRST_SIDE.false m.1 in
    record { small_coefficient = a.0; times_bound = m.0; small_place = a.1.0; small_extreme = a.1.1.0; small_extreme_2 = a.1.1.1 }

pub judge_over-requires : goal.judge_over-requires
judge_over-requires c =
    let j = c.requires in
    let m = moves (goal.at.judge_over-requires c).Then-code-moving_below in
    let v = c.moved-values.ensures in
    let a = code_asks j.step j.tree j.leaf j.stands j.code_is j.least_is j.greatest_is c.if-code-lt-FIRST_SIDE.false m.1 v.least_value v.greatest_value in
    record { small_extreme = a.0; small_extreme_2 = a.1 }

pub returns-then-code-moving_below : goal.returns-then-code-moving_below
returns-then-code-moving_below c =
    let m = moves (goal.at.returns-then-code-moving_below c).Then-code-moving_below in
    let v = c.moved-values.ensures in
    let o = c.judge_over.ensures in
    λ j. told_job j (over_told j.step j.tree j.leaf j.stands j.code_is j.least_is j.greatest_is c.if-code-lt-FIRST_SIDE.false m.1
    v.least_value v.greatest_value (no_centre m.0 j.rests) o.code_value o.least_value)

pub judge_side-requires : goal.judge_side-requires
judge_side-requires c =
    let j = c.requires in
    let z = c.if-code-lt-FIRST_SIDE.false in
    let b = c.if-code-lt-FIRST_BALL_SIDE.true in
    let w = still c.args.times c.args.code c.moving_below.ensures c.if-code-moving_below.false b in
    let s = stays j.step j.tree j.leaf j.stands j.code_is j.least_is j.greatest_is z b (λ a y. unmoved a c.args.high y y w) in
    let a = code_asks j.step j.tree j.leaf j.stands j.code_is j.least_is j.greatest_is z b s.0 s.1 in
    record { small_extreme = a.0; small_extreme_2 = a.1 }

pub returns-then-code-lt-FIRST_BALL_SIDE : goal.returns-then-code-lt-FIRST_BALL_SIDE
returns-then-code-lt-FIRST_BALL_SIDE c =
    let z = c.if-code-lt-FIRST_SIDE.false in
    let b = c.if-code-lt-FIRST_BALL_SIDE.true in
    let w = still c.args.times c.args.code c.moving_below.ensures c.if-code-moving_below.false b in
    let o = c.judge_side.ensures in
    λ j. let s = stays j.step j.tree j.leaf j.stands j.code_is j.least_is j.greatest_is z b (λ a y. unmoved a c.args.high y y w) in
    told_job j (side_told j.step j.tree j.leaf j.stands j.code_is j.least_is j.greatest_is z b s.0 s.1
    c.is_turned-turned.ensures o.code_value o.least_value)

pub code_of_ball-bits-requires-clause-ball_ready : goal.code_of_ball-bits-requires-clause-ball_ready
code_of_ball-bits-requires-clause-ball_ready c =
    let j = c.requires in
    (ball_asks j.step j.tree j.leaf j.stands j.code_is j.least_is j.greatest_is c.if-code-lt-FIRST_BALL_SIDE.false).1.0

pub returns : goal.returns
returns c = λ j.
    told_job j (ball_told j.step j.tree j.leaf j.stands j.code_is j.least_is j.greatest_is c.if-code-lt-FIRST_BALL_SIDE.false
    c.code_of_ball-bits.ensures c.is_turned-turned.ensures c.turned_code-judged.ensures)
