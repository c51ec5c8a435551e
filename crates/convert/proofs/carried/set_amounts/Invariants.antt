-- Amount after amount is set.
use Rattle.std.proofs.Common.{◌*◌}
use Rattle.convert.specs.Slots.{row_in, part_of}
use Rattle.convert.proofs.Slots.{Storing}
use Rattle.convert.proofs.carried.set_amounts.Given as goal

abbrev pub invariant-loop-i : goal.invariant-loop-i
invariant-loop-i l =
    Storing (λ k. part_of l.above ((row_in l.rows l.slots k).coefficient l.axis) * l.side) l.from l.count l.initial.amounts l.amounts l.i
