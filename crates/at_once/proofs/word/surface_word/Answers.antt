-- `surface_word` by the kind of the surface that the name has.
use Rattle.at_once.proofs.LeafWords.{row_some, row_place, ball_place, row_value, gives_row, gives_ball}
use Rattle.at_once.proofs.word.surface_word.Goals as goal

pub overflow_sub-i : goal.overflow_sub-i
overflow_sub-i c = row_some c.requires.fact c.if-name-lt-FIRST_BALL.true

pub word_of_row-requires : goal.word_of_row-requires
word_of_row-requires c =
    let job = c.requires.fact in let l = c.if-name-lt-FIRST_BALL.true in
    record { fact = job.block; i_bound = row_place job l; row_value = row_value c.requires.value_of (row_some job l) l }

pub returns-then-name-lt-FIRST_BALL : goal.returns-then-name-lt-FIRST_BALL
returns-then-name-lt-FIRST_BALL c = λ job. gives_row job c.if-name-lt-FIRST_BALL.true (c.word_of_row.ensures job.block)

pub word_of_ball-requires : goal.word_of_ball-requires
word_of_ball-requires c =
    record { fact = c.requires.fact.block; i_bound = ball_place c.requires.fact c.if-name-lt-FIRST_BALL.false }

pub returns : goal.returns
returns c = λ job. gives_ball job c.if-name-lt-FIRST_BALL.false (c.word_of_ball.ensures job.block)
