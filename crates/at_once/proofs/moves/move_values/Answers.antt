-- `move_values` goes code by code: exactly the rows that the codes so far name have moved.
use Prim.Native.Nat.{◌-◌}
use mathlib.Core.Path.{◌≡◌, sym, ◌∙◌}
use native.Mathlib.Omega.{arith}
use Rattle.at_once.proofs.Rounds.{none_moved, no_side_more, side_job, side_more}
use Rattle.at_once.proofs.moves.move_values.Lts.{then-is_row_side, else-is_row_side}
use Rattle.at_once.proofs.moves.move_values.Goals as goal

pub overflow_add-to : goal.overflow_add-to
overflow_add-to c = let j = c.requires in omega (arith, j.inside, j.bounded)

pub loop-i-init : goal.loop-i-init
loop-i-init c =
    let e : c.args.from - c.args.from ≡ 0 = omega arith in
    rw e (none_moved c.args.up c.requires)

pub offset_bounds-codes-i : goal.offset_bounds-codes-i
offset_bounds-codes-i c = let j = c.requires in omega (arith, c.loop-i-test.true, j.inside, j.bounded)

pub bounds-codes-i : goal.bounds-codes-i
bounds-codes-i c = let j = c.requires in omega (arith, c.loop-i-test.true, j.inside)

pub row_of-requires : goal.row_of-requires
row_of-requires c = sym c.is_row_side.ensures ∙ c.if-is_row_side.true

pub move_row-requires : goal.move_row-requires
move_row-requires c =
    side_job c.args.up c.requires c.loop-i.auto.i c.loop-i-test.true c.loop-i.invariant (sym c.is_row_side.ensures ∙ c.if-is_row_side.true)
    c.row_of.ensures c.doublings-times.ensures

pub loop-i-preserved : goal.loop-i-preserved
loop-i-preserved c =
    let f = c.loop-i.auto.i in
    let g = c.loop-i.invariant in
    let h = c.loop-i-test.true in
    let e = c.is_row_side.ensures in
    elim c.if-is_row_side.branch [
      | then-is_row_side w ↦
          rw (w.values-is, w.rounds-is)
          (side_more c.args.up c.requires f h g (sym e ∙ w.if-is_row_side.true) w.row_of.ensures c.doublings-times.ensures w.move_row.ensures)
      | else-is_row_side w ↦ rw (w.values-is, w.rounds-is) (no_side_more c.args.up c.requires f h g (sym e ∙ w.if-is_row_side.false))
    ]

pub returns : goal.returns
returns c =
    let e : c.loop-i.i - c.args.from ≡ c.args.count = omega arith in
    rw e at c.loop-i.invariant
