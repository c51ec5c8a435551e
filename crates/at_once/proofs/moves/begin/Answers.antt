-- `begin` goes code by code: the rows that the codes so far name have their offsets.
use mathlib.Core.Path.{◌≡◌, sym, ◌∙◌}
use native.Mathlib.Omega.{arith}
use Rattle.at_once.proofs.Rounds.{none_begun, still_begun, row_here, row_below, more_begun}
use Rattle.at_once.proofs.moves.begin.Lts.{then-is_row_side, else-is_row_side}
use Rattle.at_once.proofs.moves.begin.Goals as goal

pub loop-i-init : goal.loop-i-init
loop-i-init c = none_begun c.requires

pub offset_bounds-codes-i : goal.offset_bounds-codes-i
offset_bounds-codes-i c = let j = c.requires in omega (arith, c.loop-i-test.true, j.inside, j.bounded)

pub bounds-codes-i : goal.bounds-codes-i
bounds-codes-i c = let j = c.requires in omega (arith, c.loop-i-test.true, j.inside)

pub row_of-row-requires : goal.row_of-row-requires
row_of-row-requires c = sym c.is_row_side.ensures ∙ c.if-is_row_side.true

pub overflow_mul-values : goal.overflow_mul-values
overflow_mul-values c =
    let j = c.requires in
    let h = c.loop-i-test.true in
    let e = sym c.is_row_side.ensures ∙ c.if-is_row_side.true in
    omega (arith, row_below j c.loop-i.invariant h e c.row_of-row.ensures)

pub offset_bounds-rows-row : goal.offset_bounds-rows-row
offset_bounds-rows-row c =
    let j = c.requires in
    let h = c.loop-i-test.true in
    let e = sym c.is_row_side.ensures ∙ c.if-is_row_side.true in
    omega (arith, row_below j c.loop-i.invariant h e c.row_of-row.ensures)

pub bounds-rows-row : goal.bounds-rows-row
bounds-rows-row c =
    let j = c.requires in
    let h = c.loop-i-test.true in
    let e = sym c.is_row_side.ensures ∙ c.if-is_row_side.true in
    row_here j c.loop-i.invariant h e c.row_of-row.ensures

pub offset_bounds-values-row : goal.offset_bounds-values-row
offset_bounds-values-row c =
    let j = c.requires in
    let h = c.loop-i-test.true in
    let e = sym c.is_row_side.ensures ∙ c.if-is_row_side.true in
    omega (arith, row_below j c.loop-i.invariant h e c.row_of-row.ensures)

pub bounds-values-row : goal.bounds-values-row
bounds-values-row c =
    let j = c.requires in
    let h = c.loop-i-test.true in
    let e = sym c.is_row_side.ensures ∙ c.if-is_row_side.true in
    row_below j c.loop-i.invariant h e c.row_of-row.ensures

pub loop-i-preserved : goal.loop-i-preserved
loop-i-preserved c =
    let j = c.requires in
    let h = c.loop-i-test.true in
    let e = c.is_row_side.ensures in
    elim c.if-is_row_side.branch [
      | then-is_row_side w ↦ rw w.values-is (more_begun j c.loop-i.invariant h (sym e ∙ w.if-is_row_side.true) w.row_of-row.ensures)
      | else-is_row_side w ↦ rw w.values-is (still_begun j c.loop-i.invariant h (sym e ∙ w.if-is_row_side.false))
    ]

pub returns : goal.returns
returns c =
    let e : c.loop-i.i ≡ c.args.count = omega arith in
    rw e at c.loop-i.invariant
