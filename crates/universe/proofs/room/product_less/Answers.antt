-- Each factor is one of the blocks'.
use Rattle.std.proofs.Common.{◌<◌, arith, length-take-le}
use Rattle.std.proofs.lemmas.List.{get_or-take}
use Rattle.universe.proofs.Levels.{product_fits}
use Rattle.universe.proofs.room.product_less.Goals as goal

pub overflow_mul-found : goal.overflow_mul-found
overflow_mul-found c =
    let h : c.loop-along.along-index < c.args.axes = omega (arith, length-take-le c.args.axes c.args.blocks) in
    rw (get_or-take c.args.axes c.args.blocks _ 0 h) (product_fits _ _ _ _ _ c.requires.few_blocks h c.loop-along.invariant)
