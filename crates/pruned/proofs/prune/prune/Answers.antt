-- `prune`: an operator has the two last shapes pending, a leaf finds room for one more, and each is stored where the nodes end.
use Rattle.std.proofs.Common.{◌+◌, ◌≤◌, ◌<◌, ◌^◌, ◌∙◌, sym, arith}
use Rattle.pruned.specs.Nodes.{most_shapes}
use Rattle.pruned.proofs.Pruning.{going_start, shelves_kept, store_in, code_ready, leaf_room, leaf_job, leaf_storable, going_leaf}
use Rattle.pruned.proofs.Pruning.{join_two, join_storable, going_join, end_past, going_end}
use Rattle.pruned.proofs.prune.prune.Goals.{In-loop-i, Then-is_join, Else-is_join, then-is_join, else-is_join}
use Rattle.pruned.proofs.prune.prune.Goals as goal

two : (c : Then-is_join) → (2 ≤ c.loop-i.pending) × (c.loop-i.pending ≤ most_shapes)
two c =
    let j = c.requires.fact in
    let g = c.loop-i.invariant j in
    (join_two j g c.loop-i-test.true c.code_at-code.ensures (sym c.is_join.ensures ∙ c.if-is_join.true), g.few)

one_more : (c : Else-is_join) → c.loop-i.pending < most_shapes
one_more c =
    let j = c.requires.fact in
    leaf_room j (c.loop-i.invariant j) c.loop-i-test.true c.code_at-code.ensures (sym c.is_join.ensures ∙ c.if-is_join.false)

inside : (c : In-loop-i) → c.loop-i.end + 1 < 2 ^ 64
inside c =
    let j = c.requires.fact in
    let g = c.loop-i.invariant j in
    omega (arith, store_in j g c.loop-i-test.true, g.long)

pub loop-i-init : goal.loop-i-init
loop-i-init c = λ job. going_start job c.requires.shelves

pub code_at-code-requires : goal.code_at-code-requires
code_at-code-requires c = let j = c.requires.fact in code_ready j (c.loop-i.invariant j) c.loop-i-test.true

pub overflow_sub-second : goal.overflow_sub-second
overflow_sub-second c = omega (arith, two c)

pub bounds-codes-pending : goal.bounds-codes-pending
bounds-codes-pending c = omega (arith, two (goal.at.bounds-codes-pending c).Then-is_join)

pub overflow_sub-first : goal.overflow_sub-first
overflow_sub-first c = omega (arith, two (goal.at.overflow_sub-first c).Then-is_join)

pub bounds-codes-pending-then-is_join : goal.bounds-codes-pending-then-is_join
bounds-codes-pending-then-is_join c = omega (arith, two (goal.at.bounds-codes-pending-then-is_join c).Then-is_join)

pub overflow_sub-start : goal.overflow_sub-start
overflow_sub-start c = omega (arith, two (goal.at.overflow_sub-start c).Then-is_join)

pub offset_bounds-starts-pending : goal.offset_bounds-starts-pending
offset_bounds-starts-pending c = omega (arith, two (goal.at.offset_bounds-starts-pending c).Then-is_join)

pub bounds-starts-pending : goal.bounds-starts-pending
bounds-starts-pending c = omega (arith, two (goal.at.bounds-starts-pending c).Then-is_join)

pub store_node-requires : goal.store_node-requires
store_node-requires c =
    let j = c.requires.fact in
    join_storable j (c.loop-i.invariant j) c.loop-i-test.true c.code_at-code.ensures (sym c.is_join.ensures ∙ c.if-is_join.true)

pub end_after-end-requires : goal.end_after-end-requires
end_after-end-requires c = inside (goal.at.end_after-end-requires c).In-loop-i

pub overflow_sub-codes : goal.overflow_sub-codes
overflow_sub-codes c = omega (arith, two (goal.at.overflow_sub-codes c).Then-is_join)

pub bounds-codes-pending-then-is_join-2 : goal.bounds-codes-pending-then-is_join-2
bounds-codes-pending-then-is_join-2 c = omega (arith, two (goal.at.bounds-codes-pending-then-is_join-2 c).Then-is_join)

pub overflow_sub-pending : goal.overflow_sub-pending
overflow_sub-pending c = omega (arith, two (goal.at.overflow_sub-pending c).Then-is_join)

pub judge_leaf-judged-requires : goal.judge_leaf-judged-requires
judge_leaf-judged-requires c =
    let j = c.requires.fact in
    leaf_job j (c.loop-i.invariant j) c.loop-i-test.true c.code_at-code.ensures (sym c.is_join.ensures ∙ c.if-is_join.false)

pub store_node-requires-else-is_join : goal.store_node-requires-else-is_join
store_node-requires-else-is_join c =
    let j = c.requires.fact in
    let g = c.loop-i.invariant j in
    let h = c.loop-i-test.true in
    let r = c.code_at-code.ensures in
    let o = sym c.is_join.ensures ∙ c.if-is_join.false in
    leaf_storable j g h r o (c.judge_leaf-judged.ensures (leaf_job j g h r o))

pub offset_bounds-starts-pending-else-is_join : goal.offset_bounds-starts-pending-else-is_join
offset_bounds-starts-pending-else-is_join c =
    omega (arith, one_more (goal.at.offset_bounds-starts-pending-else-is_join c).Else-is_join)

pub bounds-starts-pending-else-is_join : goal.bounds-starts-pending-else-is_join
bounds-starts-pending-else-is_join c = omega (arith, one_more (goal.at.bounds-starts-pending-else-is_join c).Else-is_join)

pub bounds-codes-pending-else-is_join : goal.bounds-codes-pending-else-is_join
bounds-codes-pending-else-is_join c = omega (arith, one_more (goal.at.bounds-codes-pending-else-is_join c).Else-is_join)

pub end_after-end-requires-else-is_join : goal.end_after-end-requires-else-is_join
end_after-end-requires-else-is_join c = inside (goal.at.end_after-end-requires-else-is_join c).In-loop-i

pub overflow_add-pending : goal.overflow_add-pending
overflow_add-pending c = omega (arith, one_more (goal.at.overflow_add-pending c).Else-is_join)

pub loop-i-preserved : goal.loop-i-preserved
loop-i-preserved c =
    let h = c.loop-i-test.true in
    let r = c.code_at-code.ensures in
    let e = c.is_join.ensures in
    λ j. let g = c.loop-i.invariant j in
    elim c.if-is_join.branch [
      | then-is_join w ↦
          rw (w.work-is, w.starts-is, w.codes-is, w.pending-is, w.end-is)
          (going_join j g h r (sym e ∙ w.if-is_join.true) w.joined_code-joined.ensures w.end_after-end.ensures w.store_node.ensures)
      | else-is_join w ↦
          let o = sym e ∙ w.if-is_join.false in
          rw (w.work-is, w.starts-is, w.codes-is, w.pending-is, w.end-is)
          (going_leaf j g h r o (w.judge_leaf-judged.ensures (leaf_job j g h r o)) w.end_after-end-else-is_join.ensures w.store_node-else-is_join.ensures)
    ]

pub overflow_sub-result : goal.overflow_sub-result
overflow_sub-result c = let j = c.requires.fact in end_past j (c.loop-i.invariant j) c.loop-i-test.false

pub returns-clause-fact_2 : goal.returns-clause-fact_2
returns-clause-fact_2 c = λ job. going_end job (c.loop-i.invariant job) c.loop-i-test.false c.whole_mark.ensures

pub returns-clause-shelves_2 : goal.returns-clause-shelves_2
returns-clause-shelves_2 c = let j = c.requires.fact in shelves_kept j (c.loop-i.invariant j)
