-- `prune` reads code by code over the shapes pending (`Going`): an operator joins the two last, a leaf is judged, by the value of its row that is carried, and
-- pushed.
use mathlib.Core.Path.{sym, ◌∙◌}
use native.Mathlib.Omega.{arith}
use Rattle.at_once.proofs.Pruning.{going_start, shelves_kept, store_in, read_in, leaf_room, leaf_job, leaf_value, going_leaf}
use Rattle.at_once.proofs.Pruning.{join_two, going_join, end_past, going_end}
use Rattle.at_once.proofs.prune.prune.Lts.{then-is_join, else-is_join}
use Rattle.at_once.proofs.prune.prune.Goals as goal

pub overflow_add-to : goal.overflow_add-to
overflow_add-to c = omega (arith, c.requires.fact.carried.inside, c.well_formed.1.1.1.1.1.0.1)

pub loop-i-init : goal.loop-i-init
loop-i-init c = λ job. going_start job c.requires.shelves

pub offset_bounds-codes-i : goal.offset_bounds-codes-i
offset_bounds-codes-i c = let j = c.requires.fact in let g = c.loop-i.invariant j in let h = c.loop-i-test.true in
    let w = c.well_formed.1.1.1.1.1.0.1 in
    omega (arith, read_in j g h, g.below.long, w)

pub bounds-codes-i : goal.bounds-codes-i
bounds-codes-i c = let j = c.requires.fact in let g = c.loop-i.invariant j in
    let h = c.loop-i-test.true in
    read_in j g h

pub offset_bounds-codes-end : goal.offset_bounds-codes-end
offset_bounds-codes-end c = let j = c.requires.fact in let g = c.loop-i.invariant j in let h = c.loop-i-test.true in
    let w = c.well_formed.1.1.1.1.1.0.1 in
    omega (arith, store_in j g h, g.below.long, w)

pub bounds-codes-end : goal.bounds-codes-end
bounds-codes-end c = let j = c.requires.fact in let g = c.loop-i.invariant j in
    let h = c.loop-i-test.true in
    store_in j g h

pub overflow_sub-second : goal.overflow_sub-second
overflow_sub-second c = let j = c.requires.fact in
    let g = c.loop-i.invariant j in
    let h = c.loop-i-test.true in
    let o = sym c.is_join.ensures ∙ c.if-is_join.true in
    omega (arith, join_two j g h o, g.few)

pub bounds-marks-pending : goal.bounds-marks-pending
bounds-marks-pending c = let j = c.requires.fact in
    let g = c.loop-i.invariant j in let h = c.loop-i-test.true in
    let o = sym c.is_join.ensures ∙ c.if-is_join.true in
    omega (arith, join_two j g h o, g.few)

pub overflow_sub-first : goal.overflow_sub-first
overflow_sub-first c = let j = c.requires.fact in
    let g = c.loop-i.invariant j in let h = c.loop-i-test.true in
    let o = sym c.is_join.ensures ∙ c.if-is_join.true in
    omega (arith, join_two j g h o, g.few)

pub bounds-marks-pending-then-is_join : goal.bounds-marks-pending-then-is_join
bounds-marks-pending-then-is_join c = let j = c.requires.fact in
    let g = c.loop-i.invariant j in let h = c.loop-i-test.true in
    let o = sym c.is_join.ensures ∙ c.if-is_join.true in
    omega (arith, join_two j g h o, g.few)

pub overflow_sub-start : goal.overflow_sub-start
overflow_sub-start c = let j = c.requires.fact in
    let g = c.loop-i.invariant j in let h = c.loop-i-test.true in
    let o = sym c.is_join.ensures ∙ c.if-is_join.true in
    omega (arith, join_two j g h o, g.few)

pub offset_bounds-starts-pending : goal.offset_bounds-starts-pending
offset_bounds-starts-pending c = let j = c.requires.fact in
    let g = c.loop-i.invariant j in let h = c.loop-i-test.true in
    let o = sym c.is_join.ensures ∙ c.if-is_join.true in
    omega (arith, join_two j g h o, g.few)

pub bounds-starts-pending : goal.bounds-starts-pending
bounds-starts-pending c = let j = c.requires.fact in
    let g = c.loop-i.invariant j in let h = c.loop-i-test.true in
    let o = sym c.is_join.ensures ∙ c.if-is_join.true in
    omega (arith, join_two j g h o, g.few)

pub end_after-end-requires : goal.end_after-end-requires
end_after-end-requires c = let j = c.requires.fact in
    let g = c.loop-i.invariant j in let h = c.loop-i-test.true in
    let w = c.well_formed.1.1.1.1.1.0.1 in
    omega (arith, store_in j g h, g.below.long, w)

pub overflow_sub-marks : goal.overflow_sub-marks
overflow_sub-marks c = let j = c.requires.fact in
    let g = c.loop-i.invariant j in let h = c.loop-i-test.true in
    let o = sym c.is_join.ensures ∙ c.if-is_join.true in
    omega (arith, join_two j g h o, g.few)

pub bounds-marks-pending-then-is_join-2 : goal.bounds-marks-pending-then-is_join-2
bounds-marks-pending-then-is_join-2 c = let j = c.requires.fact in
    let g = c.loop-i.invariant j in let h = c.loop-i-test.true in
    let o = sym c.is_join.ensures ∙ c.if-is_join.true in
    omega (arith, join_two j g h o, g.few)

pub overflow_sub-pending : goal.overflow_sub-pending
overflow_sub-pending c = let j = c.requires.fact in
    let g = c.loop-i.invariant j in let h = c.loop-i-test.true in
    let o = sym c.is_join.ensures ∙ c.if-is_join.true in
    omega (arith, join_two j g h o, g.few)

pub judge_leaf-bits-requires : goal.judge_leaf-bits-requires
judge_leaf-bits-requires c =
    let j = c.requires.fact in
    let g = c.loop-i.invariant j in let h = c.loop-i-test.true in
    let o = sym c.is_join.ensures ∙ c.if-is_join.false in
    record { fact = leaf_job j g h o; value_of = leaf_value j g h c.requires.right_values; times_value = c.times_of-times.ensures }

pub offset_bounds-starts-pending-else-is_join : goal.offset_bounds-starts-pending-else-is_join
offset_bounds-starts-pending-else-is_join c = let j = c.requires.fact in
    let g = c.loop-i.invariant j in let h = c.loop-i-test.true in
    let o = sym c.is_join.ensures ∙ c.if-is_join.false in
    omega (arith, leaf_room j g h o)

pub bounds-starts-pending-else-is_join : goal.bounds-starts-pending-else-is_join
bounds-starts-pending-else-is_join c = let j = c.requires.fact in
    let g = c.loop-i.invariant j in let h = c.loop-i-test.true in
    let o = sym c.is_join.ensures ∙ c.if-is_join.false in
    omega (arith, leaf_room j g h o)

pub bounds-marks-pending-else-is_join : goal.bounds-marks-pending-else-is_join
bounds-marks-pending-else-is_join c = let j = c.requires.fact in
    let g = c.loop-i.invariant j in let h = c.loop-i-test.true in
    let o = sym c.is_join.ensures ∙ c.if-is_join.false in
    omega (arith, leaf_room j g h o)

pub end_after-end-requires-else-is_join : goal.end_after-end-requires-else-is_join
end_after-end-requires-else-is_join c = let j = c.requires.fact in
    let g = c.loop-i.invariant j in let h = c.loop-i-test.true in
    let w = c.well_formed.1.1.1.1.1.0.1 in
    omega (arith, store_in j g h, g.below.long, w)

pub overflow_add-pending : goal.overflow_add-pending
overflow_add-pending c = let j = c.requires.fact in
    let g = c.loop-i.invariant j in let h = c.loop-i-test.true in
    let o = sym c.is_join.ensures ∙ c.if-is_join.false in
    omega (arith, leaf_room j g h o)

pub loop-i-preserved : goal.loop-i-preserved
loop-i-preserved c = let h = c.loop-i-test.true in let e = c.is_join.ensures in
    λ j. let g = c.loop-i.invariant j in
    elim c.if-is_join.branch [
      | then-is_join w ↦ rw (w.starts-is, w.marks-is, w.pending-is, w.end-is)
          (going_join j g h (sym e ∙ w.if-is_join.true) w.joined_code-joined.ensures w.end_after-end.ensures)
      | else-is_join w ↦ let o = sym e ∙ w.if-is_join.false in rw (w.starts-is, w.marks-is, w.pending-is, w.end-is)
          (going_leaf j g h o (w.judge_leaf-bits.ensures (leaf_job j g h o)) w.end_after-end-else-is_join.ensures)
    ]

pub overflow_sub-result : goal.overflow_sub-result
overflow_sub-result c = let j = c.requires.fact in
    end_past j (c.loop-i.invariant j) c.loop-i-test.false

pub shape_of-codes : goal.shape_of-codes
shape_of-codes c = (c.loop-i.invariant c.requires.fact).below.long

pub returns : goal.returns
returns c = record {
  fact_2 = λ job. going_end job (c.loop-i.invariant job) c.loop-i-test.false c.whole_mark.ensures;
  shelves_2 = shelves_kept c.requires.fact (c.loop-i.invariant c.requires.fact);
}
