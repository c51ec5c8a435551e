-- A small coefficient times a side fits.
use Rattle.convert.proofs.Slots.{storing_start, storing_end, product_fits, next_amount}
use Rattle.convert.proofs.carried.set_amounts.Goals as goal

pub loop-i-init : goal.loop-i-init
loop-i-init c = storing_start

pub overflow_mul-amounts : goal.overflow_mul-amounts
overflow_mul-amounts c =
    let q = c.requires in
    record { fits = product_fits q.slotted q.axis_lt_most_axes q.small_place c.args.above c.loop-i-test.true c.part_of.ensures }

pub loop-i-preserved : goal.loop-i-preserved
loop-i-preserved c =
    let q = c.requires in
    next_amount q.slotted q.axis_lt_most_axes q.small_place c.args.above c.loop-i.invariant c.loop-i-test.true c.part_of.ensures

pub returns : goal.returns
returns c = storing_end c.loop-i.invariant c.loop-i-test.false
