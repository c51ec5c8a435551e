-- `turn` turns over code by code (`Turns`).
use native.Mathlib.Omega.{arith}
use Rattle.at_once.proofs.Turning.{turns_start, inside, code_few, turns_on, turns_end}
use Rattle.at_once.proofs.load.turn.Goals as goal

pub loop-place-init : goal.loop-place-init
loop-place-init c = λ job. turns_start job

pub offset_bounds-codes-place : goal.offset_bounds-codes-place
offset_bounds-codes-place c = let j = c.requires in let g = c.loop-place.invariant j in let h = c.loop-place-test.true in
    let w = c.well_formed.0.1 in
    omega (arith, inside j g h, g.below.long, w)

pub bounds-codes-place : goal.bounds-codes-place
bounds-codes-place c = let j = c.requires in let g = c.loop-place.invariant j in let h = c.loop-place-test.true in
    inside j g h

pub turned_number-requires : goal.turned_number-requires
turned_number-requires c = let j = c.requires in let g = c.loop-place.invariant j in let h = c.loop-place-test.true in
    code_few j g h

pub offset_bounds-codes-place-in-loop-place : goal.offset_bounds-codes-place-in-loop-place
offset_bounds-codes-place-in-loop-place c = let j = c.requires in let g = c.loop-place.invariant j in
    let h = c.loop-place-test.true in let w = c.well_formed.0.1 in
    omega (arith, inside j g h, g.below.long, w)

pub bounds-codes-place-in-loop-place : goal.bounds-codes-place-in-loop-place
bounds-codes-place-in-loop-place c = let j = c.requires in let g = c.loop-place.invariant j in
    let h = c.loop-place-test.true in
    inside j g h

pub loop-place-preserved : goal.loop-place-preserved
loop-place-preserved c = λ j. turns_on j (c.loop-place.invariant j) c.loop-place-test.true c.turned_number.ensures

pub shape_of-codes : goal.shape_of-codes
shape_of-codes c = (c.loop-place.invariant c.requires).below.long

pub returns : goal.returns
returns c = λ job. turns_end job (c.loop-place.invariant job) c.loop-place-test.false
