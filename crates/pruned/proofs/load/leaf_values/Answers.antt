-- `leaf_values`: 0 for a constant and for a ball, and a halfspace's values over the whole universe.
use Rattle.pruned.proofs.Loadings.{whole_ready, values_halfspace}
use Rattle.pruned.proofs.load.leaf_values.Goals as goal

pub whole_extremes-requires : goal.whole_extremes-requires
whole_extremes-requires c = whole_ready c.requires c.if-word-lt-FIRST_HALFSPACE.false c.if-word-ge-FIRST_BALL.false

pub returns : goal.returns
returns c = λ job.
    values_halfspace job c.if-word-lt-FIRST_HALFSPACE.false c.if-word-ge-FIRST_BALL.false c.whole_extremes.ensures
