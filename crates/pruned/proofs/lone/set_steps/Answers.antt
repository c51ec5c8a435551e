-- `set_steps`: each place, each axis and each number of the row is inside, and the level's amount is set.
use Rattle.std.proofs.Common.{◌+◌, ◌-◌, ◌*◌, ◌<◌, ◌^◌, slice_index_or, arith}
use Rattle.universe.specs.Universe.{most_axes, most_levels}
use Rattle.pruned.proofs.Amounts.{place_in, axis_in, row_in, place_fits, amount_asks, filled_next}
use Rattle.pruned.proofs.lone.set_steps.Goals.{In-loop-n}
use Rattle.pruned.proofs.lone.set_steps.Goals as goal

level : (c : In-loop-n) → c.loop-n.n - 1 < most_levels
level c = let j = c.requires.steps_job in place_in j (c.loop-n.invariant j) c.loop-n-test.true

axis : (c : In-loop-n) → slice_index_or c.args.table.now (c.loop-n.n - 1) 0 < most_axes
axis c = let j = c.requires.steps_job in axis_in j (c.loop-n.invariant j) c.loop-n-test.true

fits : (c : In-loop-n) → (5 * c.args.row + 1 + slice_index_or c.args.table.now (c.loop-n.n - 1) 0) * 8 < 2 ^ 64
fits c = let j = c.requires.steps_job in place_fits j (c.loop-n.invariant j) c.loop-n-test.true

pub offset_bounds-table-n : goal.offset_bounds-table-n
offset_bounds-table-n c = omega (arith, level c)

pub bounds-table-n : goal.bounds-table-n
bounds-table-n c = level (goal.at.bounds-table-n c).In-loop-n

pub offset_bounds-sides-axis : goal.offset_bounds-sides-axis
offset_bounds-sides-axis c = omega (arith, axis (goal.at.offset_bounds-sides-axis c).In-loop-n)

pub bounds-sides-axis : goal.bounds-sides-axis
bounds-sides-axis c = axis (goal.at.bounds-sides-axis c).In-loop-n

pub offset_bounds-sides-axis-in-loop-n : goal.offset_bounds-sides-axis-in-loop-n
offset_bounds-sides-axis-in-loop-n c = omega (arith, axis (goal.at.offset_bounds-sides-axis-in-loop-n c).In-loop-n)

pub bounds-sides-axis-in-loop-n : goal.bounds-sides-axis-in-loop-n
bounds-sides-axis-in-loop-n c = axis (goal.at.bounds-sides-axis-in-loop-n c).In-loop-n

pub overflow_add-first-in-loop-n : goal.overflow_add-first-in-loop-n
overflow_add-first-in-loop-n c = omega (arith, fits (goal.at.overflow_add-first-in-loop-n c).In-loop-n)

pub offset_bounds-rows-first : goal.offset_bounds-rows-first
offset_bounds-rows-first c = omega (arith, fits (goal.at.offset_bounds-rows-first c).In-loop-n)

pub bounds-rows-first : goal.bounds-rows-first
bounds-rows-first c = let j = c.requires.steps_job in row_in j (c.loop-n.invariant j) c.loop-n-test.true

pub amount-requires-clause-small_coefficient : goal.amount-requires-clause-small_coefficient
amount-requires-clause-small_coefficient c =
    let j = c.requires.steps_job in
    (amount_asks j (c.loop-n.invariant j) c.loop-n-test.true c.doublings.ensures).0

pub amount-requires-clause-times_bound : goal.amount-requires-clause-times_bound
amount-requires-clause-times_bound c =
    let j = c.requires.steps_job in
    (amount_asks j (c.loop-n.invariant j) c.loop-n-test.true c.doublings.ensures).1.0

pub amount-requires-clause-small_place : goal.amount-requires-clause-small_place
amount-requires-clause-small_place c =
    let j = c.requires.steps_job in
    (amount_asks j (c.loop-n.invariant j) c.loop-n-test.true c.doublings.ensures).1.1

pub offset_bounds-steps-n : goal.offset_bounds-steps-n
offset_bounds-steps-n c = omega (arith, level (goal.at.offset_bounds-steps-n c).In-loop-n)

pub bounds-steps-n : goal.bounds-steps-n
bounds-steps-n c = level (goal.at.bounds-steps-n c).In-loop-n

pub loop-n-preserved : goal.loop-n-preserved
loop-n-preserved c = λ job.
    filled_next job (c.loop-n.invariant job) c.loop-n-test.true c.doublings.ensures c.amount.ensures
