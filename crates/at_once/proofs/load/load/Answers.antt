-- `load` reads word by word (`Loads`).
use native.Mathlib.Omega.{arith}
use mathlib.Core.Path.{sym, ◌∙◌}
use Rattle.at_once.proofs.Loading.{loads_start, place_few, inside, word_small, leaf_room, loads_leaf, join_room, joining_job}
use Rattle.at_once.proofs.Loading.{loads_join, loads_end}
use Rattle.at_once.proofs.load.load.Lts.{then-is_operator, else-is_operator}
use Rattle.at_once.proofs.load.load.Goals as goal

pub loop-i-init : goal.loop-i-init
loop-i-init c = λ job. loads_start job

pub offset_bounds-words-i : goal.offset_bounds-words-i
offset_bounds-words-i c = let j = c.requires in omega (arith, place_few j (c.loop-i.invariant j) c.loop-i-test.true)

pub bounds-words-i : goal.bounds-words-i
bounds-words-i c = c.loop-i-test.true

pub overflow_add-at : goal.overflow_add-at
overflow_add-at c = let j = c.requires in let g = c.loop-i.invariant j in
    omega (arith, inside j g c.loop-i-test.true, g.below.long, c.well_formed.1.0.1)

pub overflow_sub-start : goal.overflow_sub-start
overflow_sub-start c = let j = c.requires in let g = c.loop-i.invariant j in
    let h = c.loop-i-test.true in
    let o = sym c.is_operator.ensures ∙ c.if-is_operator.true in
    omega (arith, join_room j g h o)

pub offset_bounds-starts-pending : goal.offset_bounds-starts-pending
offset_bounds-starts-pending c = let j = c.requires in let g = c.loop-i.invariant j in
    let h = c.loop-i-test.true in
    let o = sym c.is_operator.ensures ∙ c.if-is_operator.true in
    omega (arith, join_room j g h o)

pub bounds-starts-pending : goal.bounds-starts-pending
bounds-starts-pending c = let j = c.requires in
    let g = c.loop-i.invariant j in let h = c.loop-i-test.true in
    let o = sym c.is_operator.ensures ∙ c.if-is_operator.true in
    omega (arith, join_room j g h o)

pub load_operator-requires : goal.load_operator-requires
load_operator-requires c = let j = c.requires in
    let g = c.loop-i.invariant j in let h = c.loop-i-test.true in
    let o = sym c.is_operator.ensures ∙ c.if-is_operator.true in
    joining_job j g h o

pub overflow_sub-pending : goal.overflow_sub-pending
overflow_sub-pending c = let j = c.requires in
    let g = c.loop-i.invariant j in let h = c.loop-i-test.true in
    let o = sym c.is_operator.ensures ∙ c.if-is_operator.true in
    omega (arith, join_room j g h o)

pub overflow_mul-codes : goal.overflow_mul-codes
overflow_mul-codes c = let j = c.requires in let g = c.loop-i.invariant j in
    let h = c.loop-i-test.true in
    let o = sym c.is_operator.ensures ∙ c.if-is_operator.false in
    omega (arith, word_small j g h o)

pub offset_bounds-codes-at : goal.offset_bounds-codes-at
offset_bounds-codes-at c = let j = c.requires in
    let g = c.loop-i.invariant j in let h = c.loop-i-test.true in
    let w = c.well_formed.1.0.1 in
    omega (arith, inside j g h, g.below.long, w)

pub bounds-codes-at : goal.bounds-codes-at
bounds-codes-at c = let j = c.requires in
    let g = c.loop-i.invariant j in let h = c.loop-i-test.true in
    inside j g h

pub offset_bounds-starts-pending-else-is_operator : goal.offset_bounds-starts-pending-else-is_operator
offset_bounds-starts-pending-else-is_operator c = let j = c.requires in
    let g = c.loop-i.invariant j in let h = c.loop-i-test.true in
    let o = sym c.is_operator.ensures ∙ c.if-is_operator.false in
    omega (arith, leaf_room j g h o)

pub bounds-starts-pending-else-is_operator : goal.bounds-starts-pending-else-is_operator
bounds-starts-pending-else-is_operator c = let j = c.requires in
    let g = c.loop-i.invariant j in let h = c.loop-i-test.true in
    let o = sym c.is_operator.ensures ∙ c.if-is_operator.false in
    omega (arith, leaf_room j g h o)

pub overflow_add-pending : goal.overflow_add-pending
overflow_add-pending c = let j = c.requires in
    let g = c.loop-i.invariant j in let h = c.loop-i-test.true in
    let o = sym c.is_operator.ensures ∙ c.if-is_operator.false in
    omega (arith, leaf_room j g h o)

pub loop-i-preserved : goal.loop-i-preserved
loop-i-preserved c = let h = c.loop-i-test.true in let e = c.is_operator.ensures in
    λ j. let g = c.loop-i.invariant j in
    elim c.if-is_operator.branch [
      | then-is_operator w ↦ let o = sym e ∙ w.if-is_operator.true in rw (w.codes-is, w.starts-is, w.pending-is)
          (loads_join j g h o (w.load_operator.ensures (joining_job j g h o)))
      | else-is_operator w ↦ let o = sym e ∙ w.if-is_operator.false in rw (w.codes-is, w.starts-is, w.pending-is) (loads_leaf j g h o)
    ]

pub shape_of-codes : goal.shape_of-codes
shape_of-codes c = (c.loop-i.invariant c.requires).below.long

pub returns : goal.returns
returns c = λ job. loads_end job (c.loop-i.invariant job) c.loop-i-test.false
