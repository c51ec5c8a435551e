-- `surface_words` by the kind of the surface that the name has.
use Rattle.at_once.proofs.LeafWords.{row_value, row_some, row_place, ball_place}
use Rattle.at_once.proofs.OwnLeaves.{three_row, three_ball}
use Rattle.at_once.proofs.three.surface_words.Goals as goal

pub overflow_sub-i : goal.overflow_sub-i
overflow_sub-i c =
    row_some c.requires.fact c.if-name-lt-FIRST_BALL.true

pub words_of_row-requires : goal.words_of_row-requires
words_of_row-requires c =
    let l = c.if-name-lt-FIRST_BALL.true in
    record {
      fact = c.requires.fact.block;
      i_bound = row_place c.requires.fact l;
      row_value = row_value c.requires.value_of (row_some c.requires.fact l) l;
    }

pub returns-then-name-lt-FIRST_BALL : goal.returns-then-name-lt-FIRST_BALL
returns-then-name-lt-FIRST_BALL c =
    λ job. three_row job c.if-name-lt-FIRST_BALL.true (c.words_of_row.ensures job.block)

pub words_of_ball-requires : goal.words_of_ball-requires
words_of_ball-requires c =
    record { fact = c.requires.fact.block; i_bound = ball_place c.requires.fact c.if-name-lt-FIRST_BALL.false }

pub returns : goal.returns
returns c =
    λ job. three_ball job c.if-name-lt-FIRST_BALL.false (c.words_of_ball.ensures job.block)
