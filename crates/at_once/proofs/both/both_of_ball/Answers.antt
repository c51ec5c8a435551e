-- `both_of_ball`: two words, each by the low places of its half.
use Rattle.at_once.proofs.BothWords.{low_long, along_fits, ball_along}
use Rattle.at_once.proofs.both.both_of_ball.Goals as goal

pub places_along-high-requires : goal.places_along-high-requires
places_along-high-requires c =
    let along = c.requires.axis_lt_most_axes in
    record {
      low_len = low_long c.args.half c.requires.fact c.requires.fact_2 along;
      axis_lt_most_axes = along;
      half_bound = along_fits c.args.half c.requires.fact c.requires.fact_2 along;
    }

pub word_of_ball-requires-2 : goal.word_of_ball-requires-2
word_of_ball-requires-2 c =
    record { fact = rw c.places_along-high.ensures c.requires.fact_2; i_bound = c.requires.i_bound }

pub returns : goal.returns
returns c =
    record { fact_3 = c.word_of_ball.ensures; fact_4 = ball_along c.args.i c.places_along-high.ensures c.word_of_ball-2.ensures }
