-- `spread_square` by its cases.
use Rattle.at_once.proofs.OwnValues.{square_none, ready_off, square_fits, square_is}
use Rattle.at_once.proofs.own.spread_square.Goals as goal

pub returns-then-places-axis : goal.returns-then-places-axis
returns-then-places-axis c = square_none c.args.possible c.args.off c.if-places-axis.true

pub spread-far-requires : goal.spread-far-requires
spread-far-requires c = ready_off c.requires c.if-places-axis.false

pub overflow_mul-result : goal.overflow_mul-result
overflow_mul-result c = record { fits = square_fits c.requires c.if-places-axis.false c.args.possible c.spread-far.ensures }

pub returns : goal.returns
returns c = square_is c.requires c.if-places-axis.false c.args.possible c.spread-far.ensures
