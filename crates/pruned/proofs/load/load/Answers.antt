-- `load`: an operator has a shape pending to turn over, and a leaf finds room for one more.
use Rattle.std.proofs.Common.{◌<◌, ◌∙◌, sym, arith}
use Rattle.csg.specs.Words.{most_pending}
use Rattle.pruned.proofs.Loadings.{loads_start, leaf_word, leaf_room, leaf_storable, loads_leaf, join_room, joining_job, loads_join, loads_end}
use Rattle.pruned.proofs.load.load.Goals.{Then-is_operator, Else-is_operator, then-is_operator, else-is_operator}
use Rattle.pruned.proofs.load.load.Goals as goal

one_more : (c : Else-is_operator) → c.loop-i.pending < most_pending
one_more c =
    let j = c.requires in
    leaf_room j (c.loop-i.invariant j) c.loop-i-test.true (sym c.is_operator.ensures ∙ c.if-is_operator.false)

pub loop-i-init : goal.loop-i-init
loop-i-init c = λ job. loads_start job

pub overflow_sub-start : goal.overflow_sub-start
overflow_sub-start c =
    let j = c.requires in
    omega (arith, join_room j (c.loop-i.invariant j) c.loop-i-test.true (sym c.is_operator.ensures ∙ c.if-is_operator.true))

pub offset_bounds-starts-pending : goal.offset_bounds-starts-pending
offset_bounds-starts-pending c =
    let j = c.requires in
    omega (arith, join_room j (c.loop-i.invariant j) c.loop-i-test.true (sym c.is_operator.ensures ∙ c.if-is_operator.true))

pub bounds-starts-pending : goal.bounds-starts-pending
bounds-starts-pending c =
    let j = c.requires in
    omega (arith, join_room j (c.loop-i.invariant j) c.loop-i-test.true (sym c.is_operator.ensures ∙ c.if-is_operator.true))

pub load_operator-requires : goal.load_operator-requires
load_operator-requires c =
    let j = c.requires in
    joining_job j (c.loop-i.invariant j) c.loop-i-test.true (sym c.is_operator.ensures ∙ c.if-is_operator.true)

pub overflow_sub-pending : goal.overflow_sub-pending
overflow_sub-pending c =
    let j = c.requires in
    omega (arith, join_room j (c.loop-i.invariant j) c.loop-i-test.true (sym c.is_operator.ensures ∙ c.if-is_operator.true))

pub leaf_values-values-requires : goal.leaf_values-values-requires
leaf_values-values-requires c =
    let j = c.requires in
    leaf_word j (c.loop-i.invariant j) c.loop-i-test.true (sym c.is_operator.ensures ∙ c.if-is_operator.false)

pub store_node-requires : goal.store_node-requires
store_node-requires c =
    let j = c.requires in
    let g = c.loop-i.invariant j in
    let h = c.loop-i-test.true in
    let o = sym c.is_operator.ensures ∙ c.if-is_operator.false in
    leaf_storable j g h o (c.leaf_values-values.ensures (leaf_word j g h o))

pub offset_bounds-starts-pending-else-is_operator : goal.offset_bounds-starts-pending-else-is_operator
offset_bounds-starts-pending-else-is_operator c =
    omega (arith, one_more (goal.at.offset_bounds-starts-pending-else-is_operator c).Else-is_operator)

pub bounds-starts-pending-else-is_operator : goal.bounds-starts-pending-else-is_operator
bounds-starts-pending-else-is_operator c = omega (arith, one_more (goal.at.bounds-starts-pending-else-is_operator c).Else-is_operator)

pub overflow_add-pending : goal.overflow_add-pending
overflow_add-pending c = omega (arith, one_more (goal.at.overflow_add-pending c).Else-is_operator)

pub loop-i-preserved : goal.loop-i-preserved
loop-i-preserved c =
    let h = c.loop-i-test.true in
    let e = c.is_operator.ensures in
    λ j. let g = c.loop-i.invariant j in
    elim c.if-is_operator.branch [
      | then-is_operator w ↦
          let o = sym e ∙ w.if-is_operator.true in
          rw (w.work-is, w.starts-is, w.pending-is) (loads_join j g h o (w.load_operator.ensures (joining_job j g h o)))
      | else-is_operator w ↦
          let o = sym e ∙ w.if-is_operator.false in
          rw (w.work-is, w.starts-is, w.pending-is)
          (loads_leaf j g h o (w.leaf_values-values.ensures (leaf_word j g h o)) w.store_node.ensures)
    ]

pub returns : goal.returns
returns c = λ job. loads_end job (c.loop-i.invariant job) c.loop-i-test.false
