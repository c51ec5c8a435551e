-- They grow from the point at 0, where the least and the greatest values are the offsets.
use Rattle.std.proofs.Common.{◌≡◌, arith}
use Rattle.convert.proofs.Slots.{grown_none}
use Rattle.convert.proofs.carried.begin.Goals as goal

pub loop-axis-init : goal.loop-axis-init
loop-axis-init c =
    let q = c.requires in
    grown_none q.slotted q.small_places _ _ q.least_len.0 q.least_len.1 c.set_offsets.ensures c.set_offsets-2.ensures q.amounts_value

pub grow-requires-clause-growing : goal.grow-requires-clause-growing
grow-requires-clause-growing c = c.loop-axis.invariant

pub loop-axis-preserved : goal.loop-axis-preserved
loop-axis-preserved c = c.grow.ensures

pub returns : goal.returns
returns c =
    let e : c.loop-axis.axis ≡ c.args.axes = omega arith in
    rw (← e) c.loop-axis.invariant
