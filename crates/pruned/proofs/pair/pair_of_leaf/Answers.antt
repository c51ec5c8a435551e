-- `pair_of_leaf` tells by the code which leaf the node is of: a constant, a halfspace by its values, or a ball.
use Rattle.pruned.proofs.Pairs.{white_pair, black_pair, pair_row_in, pair_row_asks, row_leaf_pair, pair_ball_asks, ball_leaf_pair}
use Rattle.pruned.proofs.pair.pair_of_leaf.Goals as goal

pub returns-then-code-eq0 : goal.returns-then-code-eq0
returns-then-code-eq0 c = λ j. white_pair j c.if-code-eq0.true

pub returns-then-code-lt-FIRST_SIDE : goal.returns-then-code-lt-FIRST_SIDE
returns-then-code-lt-FIRST_SIDE c = λ j. black_pair j c.if-code-lt-FIRST_SIDE.true c.if-code-eq0.false

pub bounds-rows-row : goal.bounds-rows-row
bounds-rows-row c = pair_row_in c.requires c.if-code-lt-FIRST_SIDE.false c.if-code-lt-FIRST_BALL_SIDE.true

pub pair_of_row-pair-requires : goal.pair_of_row-pair-requires
pair_of_row-pair-requires c =
    let a = pair_row_asks c.requires c.if-code-lt-FIRST_SIDE.false c.if-code-lt-FIRST_BALL_SIDE.true in
    record { small_coefficient = a.0; small_extreme = a.1.0; small_extreme_2 = a.1.1 }

pub returns-then-code-lt-FIRST_BALL_SIDE : goal.returns-then-code-lt-FIRST_BALL_SIDE
returns-then-code-lt-FIRST_BALL_SIDE c = λ j.
    row_leaf_pair j c.if-code-lt-FIRST_SIDE.false c.if-code-lt-FIRST_BALL_SIDE.true c.pair_of_row-pair.ensures c.turned_pair.ensures

pub pair_of_ball-pair-requires : goal.pair_of_ball-pair-requires
pair_of_ball-pair-requires c =
    let a = pair_ball_asks c.requires c.if-code-lt-FIRST_BALL_SIDE.false in
    record { ball_ready = a.0; ball_ready_2 = a.1.0; low_len = a.1.1.0; axis_lt_most_axes = a.1.1.1 }

pub returns : goal.returns
returns c = λ j. ball_leaf_pair j c.if-code-lt-FIRST_BALL_SIDE.false c.pair_of_ball-pair.ensures c.turned_pair-2.ensures
