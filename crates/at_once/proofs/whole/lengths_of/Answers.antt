-- `lengths_of` doubles the length of an axis wherever it is halved: the lengths so far are those of the universe.
use native.Mathlib.Omega.{arith}
use Rattle.at_once.proofs.Lengths.{lengths_begin, lengths_end, in_place, lengths_step}
use Rattle.at_once.proofs.whole.lengths_of.Goals as goal

pub loop-left-init : goal.loop-left-init
loop-left-init c = lengths_begin _ c.requires.universe_value c.requires.table_value c.levels.ensures c.min-stop.ensures

pub offset_bounds-table-left : goal.offset_bounds-table-left
offset_bounds-table-left c = let p = in_place c.loop-left.invariant c.loop-left-test.true in omega arith

pub bounds-table-left : goal.bounds-table-left
bounds-table-left c = let p = in_place c.loop-left.invariant c.loop-left-test.true in omega arith

pub offset_bounds-side-axis : goal.offset_bounds-side-axis
offset_bounds-side-axis c = let p = in_place c.loop-left.invariant c.loop-left-test.true in omega arith

pub bounds-side-axis : goal.bounds-side-axis
bounds-side-axis c = let p = in_place c.loop-left.invariant c.loop-left-test.true in omega arith

pub offset_bounds-lengths-left : goal.offset_bounds-lengths-left
offset_bounds-lengths-left c = let p = in_place c.loop-left.invariant c.loop-left-test.true in omega arith

pub bounds-lengths-left : goal.bounds-lengths-left
bounds-lengths-left c = let p = in_place c.loop-left.invariant c.loop-left-test.true in omega arith

pub overflow_mul-side : goal.overflow_mul-side
overflow_mul-side c = let p = in_place c.loop-left.invariant c.loop-left-test.true in omega arith

pub offset_bounds-side-axis-in-loop-left : goal.offset_bounds-side-axis-in-loop-left
offset_bounds-side-axis-in-loop-left c = let p = in_place c.loop-left.invariant c.loop-left-test.true in omega arith

pub bounds-side-axis-in-loop-left : goal.bounds-side-axis-in-loop-left
bounds-side-axis-in-loop-left c = let p = in_place c.loop-left.invariant c.loop-left-test.true in omega arith

pub loop-left-preserved : goal.loop-left-preserved
loop-left-preserved c = lengths_step c.loop-left.invariant c.loop-left-test.true

pub returns : goal.returns
returns c = lengths_end c.loop-left.invariant c.loop-left-test.false
