-- `trees_digit` reads node by node over the digits pending (`Going`): an operator joins the two last, a leaf is pushed.
use mathlib.Core.Path.{sym, ◌∙◌}
use native.Mathlib.Omega.{arith}
use Rattle.at_once.proofs.TreeWords.{tree_word, word_joins, all_word_lem, going_start, code_inside, leaf_room, leaf_is, going_leaf}
use Rattle.at_once.proofs.TreeWords.{join_two, going_join, going_end}
use Rattle.at_once.proofs.RowValues.{value_here}
use Rattle.at_once.proofs.Voxels.{voxel_leaf}
use Rattle.at_once.proofs.voxel.trees_digit.Lts.{then-is_join, else-is_join}
use Rattle.at_once.proofs.voxel.trees_digit.Goals as goal

pub overflow_add-stop : goal.overflow_add-stop
overflow_add-stop c = omega (arith, c.requires.fact.word.carried.inside)

pub loop-i-init : goal.loop-i-init
loop-i-init c = λ job. going_start job.word (tree_word job.word.block) c.requires.digits_len

pub offset_bounds-codes-i : goal.offset_bounds-codes-i
offset_bounds-codes-i c =
    let j = c.requires.fact in
    omega (arith, code_inside j.word (c.loop-i.invariant j) c.loop-i-test.true)

pub bounds-codes-i : goal.bounds-codes-i
bounds-codes-i c =
    let j = c.requires.fact in
    code_inside j.word (c.loop-i.invariant j) c.loop-i-test.true

pub overflow_sub-pending : goal.overflow_sub-pending
overflow_sub-pending c =
    let j = c.requires.fact in
    let g = c.loop-i.invariant j in
    let h = c.loop-i-test.true in
    let o = sym c.is_join.ensures ∙ c.if-is_join.true in
    omega (arith, join_two j.word g h o, g.few)

pub bounds-digits-pending : goal.bounds-digits-pending
bounds-digits-pending c =
    let j = c.requires.fact in
    let g = c.loop-i.invariant j in
    let h = c.loop-i-test.true in
    let o = sym c.is_join.ensures ∙ c.if-is_join.true in
    omega (arith, join_two j.word g h o, g.few)

pub overflow_sub-pending-then-is_join : goal.overflow_sub-pending-then-is_join
overflow_sub-pending-then-is_join c =
    let j = c.requires.fact in
    let g = c.loop-i.invariant j in
    let h = c.loop-i-test.true in
    let o = sym c.is_join.ensures ∙ c.if-is_join.true in
    omega (arith, join_two j.word g h o, g.few)

pub bounds-digits-pending-then-is_join : goal.bounds-digits-pending-then-is_join
bounds-digits-pending-then-is_join c =
    let j = c.requires.fact in
    let g = c.loop-i.invariant j in
    let h = c.loop-i-test.true in
    let o = sym c.is_join.ensures ∙ c.if-is_join.true in
    omega (arith, join_two j.word g h o, g.few)

pub overflow_sub-digits : goal.overflow_sub-digits
overflow_sub-digits c =
    let j = c.requires.fact in
    let g = c.loop-i.invariant j in
    let h = c.loop-i-test.true in
    let o = sym c.is_join.ensures ∙ c.if-is_join.true in
    omega (arith, join_two j.word g h o, g.few)

pub bounds-digits-pending-then-is_join-2 : goal.bounds-digits-pending-then-is_join-2
bounds-digits-pending-then-is_join-2 c =
    let j = c.requires.fact in
    let g = c.loop-i.invariant j in
    let h = c.loop-i-test.true in
    let o = sym c.is_join.ensures ∙ c.if-is_join.true in
    omega (arith, join_two j.word g h o, g.few)

pub overflow_sub-pending-then-is_join-2 : goal.overflow_sub-pending-then-is_join-2
overflow_sub-pending-then-is_join-2 c =
    let j = c.requires.fact in
    let g = c.loop-i.invariant j in
    let h = c.loop-i-test.true in
    let o = sym c.is_join.ensures ∙ c.if-is_join.true in
    omega (arith, join_two j.word g h o, g.few)

pub leaf_digit-requires : goal.leaf_digit-requires
leaf_digit-requires c =
    let j = c.requires.fact in
    let g = c.loop-i.invariant j in
    let h = c.loop-i-test.true in
    let o = sym c.is_join.ensures ∙ c.if-is_join.false in
    record { fact = voxel_leaf j g h o; value_of = value_here c.requires.right_values c.loop-i.auto.i h }

pub bounds-digits-pending-else-is_join : goal.bounds-digits-pending-else-is_join
bounds-digits-pending-else-is_join c =
    let j = c.requires.fact in
    let g = c.loop-i.invariant j in
    let h = c.loop-i-test.true in
    let o = sym c.is_join.ensures ∙ c.if-is_join.false in
    omega (arith, leaf_room j.word g h o)

pub overflow_add-pending : goal.overflow_add-pending
overflow_add-pending c =
    let j = c.requires.fact in
    let g = c.loop-i.invariant j in
    let h = c.loop-i-test.true in
    let o = sym c.is_join.ensures ∙ c.if-is_join.false in
    omega (arith, leaf_room j.word g h o)

pub loop-i-preserved : goal.loop-i-preserved
loop-i-preserved c =
    let h = c.loop-i-test.true in
    let e = c.is_join.ensures in
    λ job. let j = job.word in let g = c.loop-i.invariant job in
    elim c.if-is_join.branch [
      | then-is_join w ↦ rw (w.digits-is, w.pending-is) (going_join j g h (sym e ∙ w.if-is_join.true) (word_joins j.block) w.joined_digit-joined.ensures)
      | else-is_join w ↦ let o = sym e ∙ w.if-is_join.false in
          rw (w.digits-is, w.pending-is) (going_leaf j g h o (leaf_is j g h o (w.leaf_digit.ensures (voxel_leaf job g h o))))
    ]

pub returns : goal.returns
returns c = record {
  fact_2 = λ job. going_end job.word (c.loop-i.invariant job) c.loop-i-test.false c.whole_digit.ensures
      ∙ all_word_lem job.word.block job.word.carried.few;
  digits_len_2 = (c.loop-i.invariant c.requires.fact).words_long;
}
