-- `both_of_surface` by the kind of the surface that the name has.
use Rattle.at_once.proofs.LeafWords.{row_value, row_some, row_place, ball_place, gives_row, gives_ball}
use Rattle.at_once.proofs.both.both_of_surface.Goals as goal

pub overflow_sub-i : goal.overflow_sub-i
overflow_sub-i c = row_some c.requires.fact c.if-name-lt-FIRST_BALL.true

pub both_of_row-requires : goal.both_of_row-requires
both_of_row-requires c =
    let l = c.if-name-lt-FIRST_BALL.true in
    record {
      fact = c.requires.fact.block;
      fact_2 = c.requires.fact_2.block;
      axis_lt_most_axes = c.requires.axis_lt_most_axes;
      i_bound = row_place c.requires.fact l;
      power_place = c.requires.power_place;
      row_value = row_value c.requires.value_of (row_some c.requires.fact l) l;
    }

pub returns-then-name-lt-FIRST_BALL : goal.returns-then-name-lt-FIRST_BALL
returns-then-name-lt-FIRST_BALL c =
    let l = c.if-name-lt-FIRST_BALL.true in
    record {
      fact_3 = λ job. gives_row job l (c.both_of_row.ensures.fact_3 job.block);
      fact_4 = λ job. gives_row job l (c.both_of_row.ensures.fact_4 job.block);
    }

pub both_of_ball-requires : goal.both_of_ball-requires
both_of_ball-requires c =
    record {
      fact = c.requires.fact.block;
      fact_2 = c.requires.fact_2.block;
      axis_lt_most_axes = c.requires.axis_lt_most_axes;
      i_bound = ball_place c.requires.fact c.if-name-lt-FIRST_BALL.false;
    }

pub returns : goal.returns
returns c =
    let l = c.if-name-lt-FIRST_BALL.false in
    record {
      fact_3 = λ job. gives_ball job l (c.both_of_ball.ensures.fact_3 job.block);
      fact_4 = λ job. gives_ball job l (c.both_of_ball.ensures.fact_4 job.block);
    }
