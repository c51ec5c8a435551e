-- `moved_by` adds what falls of the amount towards the half to the greatest value, and what is left of it to the least.
use Rattle.std.proofs.Common.{◌∙◌}
use Rattle.pruned.proofs.Moving.{held, moves, min_lesser}
use Rattle.pruned.proofs.leaf.moved_by.Goals as goal

pub returns : goal.returns
returns c =
    let k = c.requires in
    moves c.args.high k.small_amount k.small_extreme k.small_extreme_2 c.towards-step.ensures (c.min-fall.ensures.value ∙ min_lesser (held c.towards-step.result))
