-- `spread_sum` is a sum of small squares.
use lib.Dec.{lit<}
use native.Mathlib.Omega.{arith}
use Rattle.at_once.proofs.OwnValues.{ready_asks, squares_few, squares_are}
use Rattle.at_once.proofs.own.spread_sum.Goals as goal

pub spread_square-one-requires : goal.spread_square-one-requires
spread_square-one-requires c = ready_asks c.requires 0 (lit< tt)

pub spread_square-two-requires : goal.spread_square-two-requires
spread_square-two-requires c = ready_asks c.requires 1 (lit< tt)

pub spread_square-three-requires : goal.spread_square-three-requires
spread_square-three-requires c = ready_asks c.requires 2 (lit< tt)

pub overflow_add-result : goal.overflow_add-result
overflow_add-result c =
    omega (
      arith,
      squares_few c.requires c.args.possible,
      squares_are c.requires c.args.possible c.spread_square-one.ensures c.spread_square-two.ensures
          c.spread_square-three.ensures,
    )

pub overflow_add-result-2 : goal.overflow_add-result-2
overflow_add-result-2 c =
    omega (
      arith,
      squares_few c.requires c.args.possible,
      squares_are c.requires c.args.possible c.spread_square-one.ensures c.spread_square-two.ensures
          c.spread_square-three.ensures,
    )

pub returns : goal.returns
returns c =
    squares_are c.requires c.args.possible c.spread_square-one.ensures c.spread_square-two.ensures
    c.spread_square-three.ensures
