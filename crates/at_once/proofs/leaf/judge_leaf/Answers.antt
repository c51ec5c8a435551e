-- `judge_leaf` tells by the code which leaf it is: a halfspace whose extremes it finds from the value that is carried, a constant, or a ball.
use mathlib.Core.Path.{sym, ◌∙◌}
use Rattle.at_once.proofs.Leaves.{white_judged, black_judged, from_ball, row_stands, row_judged}
use Rattle.at_once.proofs.Leaves.{places_there, ball_ready, ball_judged}
use Rattle.at_once.proofs.leaf.judge_leaf.Goals as goal

pub row_of-requires : goal.row_of-requires
row_of-requires c = sym c.is_row_side.ensures ∙ c.if-is_row_side.true

pub extremes_of_row-ends-requires : goal.extremes_of_row-ends-requires
extremes_of_row-ends-requires c =
    let e = sym c.is_row_side.ensures ∙ c.if-is_row_side.true in
    row_stands c.requires.fact e c.row_of.ensures c.requires.value_of c.requires.times_value

pub returns-then-is_row_side : goal.returns-then-is_row_side
returns-then-is_row_side c =
    let e = sym c.is_row_side.ensures ∙ c.if-is_row_side.true in
    let s = rw c.is_turned.ensures at c.side_code.ensures in
    λ j. row_judged j e c.row_of.ensures c.requires.value_of c.requires.times_value c.extremes_of_row-ends.ensures s

pub returns-then-code-eq0 : goal.returns-then-code-eq0
returns-then-code-eq0 c = λ j. white_judged j c.if-code-eq0.true

pub returns-then-code-lt-FIRST_SIDE : goal.returns-then-code-lt-FIRST_SIDE
returns-then-code-lt-FIRST_SIDE c = λ j. black_judged j c.if-code-lt-FIRST_SIDE.true c.if-code-eq0.false

pub overflow_sub-ball : goal.overflow_sub-ball
overflow_sub-ball c =
    let e = sym c.is_row_side.ensures ∙ c.if-is_row_side.false in
    from_ball c.args.code e c.if-code-lt-FIRST_SIDE.false

pub overflow_sub-axes : goal.overflow_sub-axes
overflow_sub-axes c = places_there c.requires.fact

pub code_of_ball-bits-requires : goal.code_of_ball-bits-requires
code_of_ball-bits-requires c =
    let e = sym c.is_row_side.ensures ∙ c.if-is_row_side.false in
    let b = ball_ready c.requires.fact (from_ball c.args.code e c.if-code-lt-FIRST_SIDE.false) in
    record { ball_ready = b.0; small_places = b.1 }

pub returns : goal.returns
returns c =
    let e = sym c.is_row_side.ensures ∙ c.if-is_row_side.false in
    λ j. ball_judged j (from_ball c.args.code e c.if-code-lt-FIRST_SIDE.false)
    c.code_of_ball-bits.ensures c.is_turned-turned.ensures c.turned_code.ensures
