-- The codes of the leaf that a word pushes: by the values in its slot, by a ball's squares, or a colour's.
use mathlib.Core.Path.{sym, ◌∙◌}
use Rattle.convert.proofs.Carrying.{values_asks, values_codes, ball_asks, ball_codes, white_word, black_word}
use Rattle.convert.proofs.judge.codes_of_word.Goals as goal

pub codes_of_values-requires-clause-small_amount : goal.codes_of_values-requires-clause-small_amount
codes_of_values-requires-clause-small_amount c =
    let q = c.requires in
    let h = sym c.names_halfspace.ensures ∙ c.if-names_halfspace.true in
    (values_asks q.fact _ _ q.word_value h (q.fact_2 h)).0

pub codes_of_values-requires-clause-small_value_2 : goal.codes_of_values-requires-clause-small_value_2
codes_of_values-requires-clause-small_value_2 c =
    let q = c.requires in
    let h = sym c.names_halfspace.ensures ∙ c.if-names_halfspace.true in
    (values_asks q.fact _ _ q.word_value h (q.fact_2 h)).1.1.0

pub codes_of_values-requires-clause-small_value_3 : goal.codes_of_values-requires-clause-small_value_3
codes_of_values-requires-clause-small_value_3 c =
    let q = c.requires in
    let h = sym c.names_halfspace.ensures ∙ c.if-names_halfspace.true in
    (values_asks q.fact _ _ q.word_value h (q.fact_2 h)).1.1.1

pub returns-then-names_halfspace : goal.returns-then-names_halfspace
returns-then-names_halfspace c =
    let q = c.requires in
    let h = sym c.names_halfspace.ensures ∙ c.if-names_halfspace.true in
    values_codes q.fact _ _ q.word_value h (q.fact_2 h) c.codes_of_values.ensures

pub codes_of_ball-requires-clause-least_axes_le_axes : goal.codes_of_ball-requires-clause-least_axes_le_axes
codes_of_ball-requires-clause-least_axes_le_axes c = (ball_asks c.requires.fact _ c.requires.word_value c.if-word-ge-FIRST_BALL.true).0

pub codes_of_ball-requires-clause-ball_ready : goal.codes_of_ball-requires-clause-ball_ready
codes_of_ball-requires-clause-ball_ready c = (ball_asks c.requires.fact _ c.requires.word_value c.if-word-ge-FIRST_BALL.true).1.0

pub codes_of_ball-requires-clause-ball_ready_2 : goal.codes_of_ball-requires-clause-ball_ready_2
codes_of_ball-requires-clause-ball_ready_2 c = (ball_asks c.requires.fact _ c.requires.word_value c.if-word-ge-FIRST_BALL.true).1.1.0

pub returns-then-word-ge-FIRST_BALL : goal.returns-then-word-ge-FIRST_BALL
returns-then-word-ge-FIRST_BALL c = ball_codes c.requires.fact _ c.requires.word_value c.if-word-ge-FIRST_BALL.true c.codes_of_ball.ensures

pub returns-then-word-eq-WHITE : goal.returns-then-word-eq-WHITE
returns-then-word-eq-WHITE c = white_word c.requires.fact _ c.if-word-eq-WHITE.true c.plain_codes.ensures

pub returns : goal.returns
returns c =
    let h = sym c.names_halfspace.ensures ∙ c.if-names_halfspace.false in
    black_word c.requires.fact _ c.requires.word_value h c.if-word-ge-FIRST_BALL.false c.if-word-eq-WHITE.false c.plain_codes-2.ensures
