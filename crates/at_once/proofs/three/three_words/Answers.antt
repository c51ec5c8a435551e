-- `three_words` reads node by node over the words pending (`GoingThree`): an operator joins the two last, a leaf is pushed.
use mathlib.Core.Path.{sym, ◌∙◌}
use native.Mathlib.Omega.{arith}
use Rattle.at_once.proofs.TreeWords.{code_inside, leaf_room, leaf_job, join_two}
use Rattle.at_once.proofs.RowValues.{value_here}
use Rattle.at_once.proofs.OwnLeaves.{three_start, three_leaf, three_join, three_end, three_long}
use Rattle.at_once.proofs.three.three_words.Lts.{then-is_join, else-is_join}
use Rattle.at_once.proofs.three.three_words.Goals as goal

pub overflow_add-stop : goal.overflow_add-stop
overflow_add-stop c =
    omega (arith, c.requires.fact.carried.inside)

pub loop-i-init : goal.loop-i-init
loop-i-init c =
    λ job. three_start job c.requires.three_shelves

pub offset_bounds-codes-i : goal.offset_bounds-codes-i
offset_bounds-codes-i c =
    let j = c.requires.fact in
    omega (arith, code_inside j (c.loop-i.invariant j).centre c.loop-i-test.true)

pub bounds-codes-i : goal.bounds-codes-i
bounds-codes-i c =
    let j = c.requires.fact in code_inside j (c.loop-i.invariant j).centre c.loop-i-test.true

pub overflow_sub-pending : goal.overflow_sub-pending
overflow_sub-pending c =
    let j = c.requires.fact in let g = (c.loop-i.invariant j).centre in let h = c.loop-i-test.true in let o = sym c.is_join.ensures ∙ c.if-is_join.true in
    omega (arith, join_two j g h o, g.few)

pub offset_bounds-sures-pending : goal.offset_bounds-sures-pending
offset_bounds-sures-pending c =
    let j = c.requires.fact in let g = (c.loop-i.invariant j).centre in let h = c.loop-i-test.true in let o = sym c.is_join.ensures ∙ c.if-is_join.true in
    omega (arith, join_two j g h o, g.few)

pub bounds-sures-pending : goal.bounds-sures-pending
bounds-sures-pending c =
    let j = c.requires.fact in let g = (c.loop-i.invariant j).centre in let h = c.loop-i-test.true in let o = sym c.is_join.ensures ∙ c.if-is_join.true in
    omega (arith, join_two j g h o, g.few)

pub overflow_sub-pending-then-is_join : goal.overflow_sub-pending-then-is_join
overflow_sub-pending-then-is_join c =
    let j = c.requires.fact in let g = (c.loop-i.invariant j).centre in let h = c.loop-i-test.true in let o = sym c.is_join.ensures ∙ c.if-is_join.true in
    omega (arith, join_two j g h o, g.few)

pub offset_bounds-sures-pending-then-is_join : goal.offset_bounds-sures-pending-then-is_join
offset_bounds-sures-pending-then-is_join c =
    let j = c.requires.fact in let g = (c.loop-i.invariant j).centre in let h = c.loop-i-test.true in let o = sym c.is_join.ensures ∙ c.if-is_join.true in
    omega (arith, join_two j g h o, g.few)

pub bounds-sures-pending-then-is_join : goal.bounds-sures-pending-then-is_join
bounds-sures-pending-then-is_join c =
    let j = c.requires.fact in let g = (c.loop-i.invariant j).centre in let h = c.loop-i-test.true in let o = sym c.is_join.ensures ∙ c.if-is_join.true in
    omega (arith, join_two j g h o, g.few)

pub overflow_sub-pending-then-is_join-2 : goal.overflow_sub-pending-then-is_join-2
overflow_sub-pending-then-is_join-2 c =
    let j = c.requires.fact in let g = (c.loop-i.invariant j).centre in let h = c.loop-i-test.true in let o = sym c.is_join.ensures ∙ c.if-is_join.true in
    omega (arith, join_two j g h o, g.few)

pub offset_bounds-centres-pending : goal.offset_bounds-centres-pending
offset_bounds-centres-pending c =
    let j = c.requires.fact in let g = (c.loop-i.invariant j).centre in let h = c.loop-i-test.true in let o = sym c.is_join.ensures ∙ c.if-is_join.true in
    omega (arith, join_two j g h o, g.few)

pub bounds-centres-pending : goal.bounds-centres-pending
bounds-centres-pending c =
    let j = c.requires.fact in let g = (c.loop-i.invariant j).centre in let h = c.loop-i-test.true in let o = sym c.is_join.ensures ∙ c.if-is_join.true in
    omega (arith, join_two j g h o, g.few)

pub overflow_sub-pending-then-is_join-3 : goal.overflow_sub-pending-then-is_join-3
overflow_sub-pending-then-is_join-3 c =
    let j = c.requires.fact in let g = (c.loop-i.invariant j).centre in let h = c.loop-i-test.true in let o = sym c.is_join.ensures ∙ c.if-is_join.true in
    omega (arith, join_two j g h o, g.few)

pub offset_bounds-centres-pending-then-is_join : goal.offset_bounds-centres-pending-then-is_join
offset_bounds-centres-pending-then-is_join c =
    let j = c.requires.fact in let g = (c.loop-i.invariant j).centre in let h = c.loop-i-test.true in let o = sym c.is_join.ensures ∙ c.if-is_join.true in
    omega (arith, join_two j g h o, g.few)

pub bounds-centres-pending-then-is_join : goal.bounds-centres-pending-then-is_join
bounds-centres-pending-then-is_join c =
    let j = c.requires.fact in let g = (c.loop-i.invariant j).centre in let h = c.loop-i-test.true in let o = sym c.is_join.ensures ∙ c.if-is_join.true in
    omega (arith, join_two j g h o, g.few)

pub overflow_sub-pending-then-is_join-4 : goal.overflow_sub-pending-then-is_join-4
overflow_sub-pending-then-is_join-4 c =
    let j = c.requires.fact in let g = (c.loop-i.invariant j).centre in let h = c.loop-i-test.true in let o = sym c.is_join.ensures ∙ c.if-is_join.true in
    omega (arith, join_two j g h o, g.few)

pub offset_bounds-possibles-pending : goal.offset_bounds-possibles-pending
offset_bounds-possibles-pending c =
    let j = c.requires.fact in let g = (c.loop-i.invariant j).centre in let h = c.loop-i-test.true in let o = sym c.is_join.ensures ∙ c.if-is_join.true in
    omega (arith, join_two j g h o, g.few)

pub bounds-possibles-pending : goal.bounds-possibles-pending
bounds-possibles-pending c =
    let j = c.requires.fact in let g = (c.loop-i.invariant j).centre in let h = c.loop-i-test.true in let o = sym c.is_join.ensures ∙ c.if-is_join.true in
    omega (arith, join_two j g h o, g.few)

pub overflow_sub-pending-then-is_join-5 : goal.overflow_sub-pending-then-is_join-5
overflow_sub-pending-then-is_join-5 c =
    let j = c.requires.fact in let g = (c.loop-i.invariant j).centre in let h = c.loop-i-test.true in let o = sym c.is_join.ensures ∙ c.if-is_join.true in
    omega (arith, join_two j g h o, g.few)

pub offset_bounds-possibles-pending-then-is_join : goal.offset_bounds-possibles-pending-then-is_join
offset_bounds-possibles-pending-then-is_join c =
    let j = c.requires.fact in let g = (c.loop-i.invariant j).centre in let h = c.loop-i-test.true in let o = sym c.is_join.ensures ∙ c.if-is_join.true in
    omega (arith, join_two j g h o, g.few)

pub bounds-possibles-pending-then-is_join : goal.bounds-possibles-pending-then-is_join
bounds-possibles-pending-then-is_join c =
    let j = c.requires.fact in let g = (c.loop-i.invariant j).centre in let h = c.loop-i-test.true in let o = sym c.is_join.ensures ∙ c.if-is_join.true in
    omega (arith, join_two j g h o, g.few)

pub overflow_sub-sures : goal.overflow_sub-sures
overflow_sub-sures c =
    let j = c.requires.fact in let g = (c.loop-i.invariant j).centre in let h = c.loop-i-test.true in let o = sym c.is_join.ensures ∙ c.if-is_join.true in
    omega (arith, join_two j g h o, g.few)

pub offset_bounds-sures-pending-then-is_join-2 : goal.offset_bounds-sures-pending-then-is_join-2
offset_bounds-sures-pending-then-is_join-2 c =
    let j = c.requires.fact in let g = (c.loop-i.invariant j).centre in let h = c.loop-i-test.true in let o = sym c.is_join.ensures ∙ c.if-is_join.true in
    omega (arith, join_two j g h o, g.few)

pub bounds-sures-pending-then-is_join-2 : goal.bounds-sures-pending-then-is_join-2
bounds-sures-pending-then-is_join-2 c =
    let j = c.requires.fact in let g = (c.loop-i.invariant j).centre in let h = c.loop-i-test.true in let o = sym c.is_join.ensures ∙ c.if-is_join.true in
    omega (arith, join_two j g h o, g.few)

pub overflow_sub-centres : goal.overflow_sub-centres
overflow_sub-centres c =
    let j = c.requires.fact in let g = (c.loop-i.invariant j).centre in let h = c.loop-i-test.true in let o = sym c.is_join.ensures ∙ c.if-is_join.true in
    omega (arith, join_two j g h o, g.few)

pub offset_bounds-centres-pending-then-is_join-2 : goal.offset_bounds-centres-pending-then-is_join-2
offset_bounds-centres-pending-then-is_join-2 c =
    let j = c.requires.fact in let g = (c.loop-i.invariant j).centre in let h = c.loop-i-test.true in let o = sym c.is_join.ensures ∙ c.if-is_join.true in
    omega (arith, join_two j g h o, g.few)

pub bounds-centres-pending-then-is_join-2 : goal.bounds-centres-pending-then-is_join-2
bounds-centres-pending-then-is_join-2 c =
    let j = c.requires.fact in let g = (c.loop-i.invariant j).centre in let h = c.loop-i-test.true in let o = sym c.is_join.ensures ∙ c.if-is_join.true in
    omega (arith, join_two j g h o, g.few)

pub overflow_sub-possibles : goal.overflow_sub-possibles
overflow_sub-possibles c =
    let j = c.requires.fact in let g = (c.loop-i.invariant j).centre in let h = c.loop-i-test.true in let o = sym c.is_join.ensures ∙ c.if-is_join.true in
    omega (arith, join_two j g h o, g.few)

pub offset_bounds-possibles-pending-then-is_join-2 : goal.offset_bounds-possibles-pending-then-is_join-2
offset_bounds-possibles-pending-then-is_join-2 c =
    let j = c.requires.fact in let g = (c.loop-i.invariant j).centre in let h = c.loop-i-test.true in let o = sym c.is_join.ensures ∙ c.if-is_join.true in
    omega (arith, join_two j g h o, g.few)

pub bounds-possibles-pending-then-is_join-2 : goal.bounds-possibles-pending-then-is_join-2
bounds-possibles-pending-then-is_join-2 c =
    let j = c.requires.fact in let g = (c.loop-i.invariant j).centre in let h = c.loop-i-test.true in let o = sym c.is_join.ensures ∙ c.if-is_join.true in
    omega (arith, join_two j g h o, g.few)

pub overflow_sub-pending-then-is_join-6 : goal.overflow_sub-pending-then-is_join-6
overflow_sub-pending-then-is_join-6 c =
    let j = c.requires.fact in let g = (c.loop-i.invariant j).centre in let h = c.loop-i-test.true in let o = sym c.is_join.ensures ∙ c.if-is_join.true in
    omega (arith, join_two j g h o, g.few)

pub leaf_words-leaf-requires : goal.leaf_words-leaf-requires
leaf_words-leaf-requires c =
    let j = c.requires.fact in let g = (c.loop-i.invariant j).centre in let h = c.loop-i-test.true in let o = sym c.is_join.ensures ∙ c.if-is_join.false in
    record { fact = leaf_job j g h o; value_of = value_here c.requires.right_values c.loop-i.auto.i h }

pub offset_bounds-sures-pending-else-is_join : goal.offset_bounds-sures-pending-else-is_join
offset_bounds-sures-pending-else-is_join c =
    let j = c.requires.fact in let g = (c.loop-i.invariant j).centre in let h = c.loop-i-test.true in let o = sym c.is_join.ensures ∙ c.if-is_join.false in
    omega (arith, leaf_room j g h o)

pub bounds-sures-pending-else-is_join : goal.bounds-sures-pending-else-is_join
bounds-sures-pending-else-is_join c =
    let j = c.requires.fact in let g = (c.loop-i.invariant j).centre in let h = c.loop-i-test.true in let o = sym c.is_join.ensures ∙ c.if-is_join.false in
    omega (arith, leaf_room j g h o)

pub offset_bounds-centres-pending-else-is_join : goal.offset_bounds-centres-pending-else-is_join
offset_bounds-centres-pending-else-is_join c =
    let j = c.requires.fact in let g = (c.loop-i.invariant j).centre in let h = c.loop-i-test.true in let o = sym c.is_join.ensures ∙ c.if-is_join.false in
    omega (arith, leaf_room j g h o)

pub bounds-centres-pending-else-is_join : goal.bounds-centres-pending-else-is_join
bounds-centres-pending-else-is_join c =
    let j = c.requires.fact in let g = (c.loop-i.invariant j).centre in let h = c.loop-i-test.true in let o = sym c.is_join.ensures ∙ c.if-is_join.false in
    omega (arith, leaf_room j g h o)

pub offset_bounds-possibles-pending-else-is_join : goal.offset_bounds-possibles-pending-else-is_join
offset_bounds-possibles-pending-else-is_join c =
    let j = c.requires.fact in let g = (c.loop-i.invariant j).centre in let h = c.loop-i-test.true in let o = sym c.is_join.ensures ∙ c.if-is_join.false in
    omega (arith, leaf_room j g h o)

pub bounds-possibles-pending-else-is_join : goal.bounds-possibles-pending-else-is_join
bounds-possibles-pending-else-is_join c =
    let j = c.requires.fact in let g = (c.loop-i.invariant j).centre in let h = c.loop-i-test.true in let o = sym c.is_join.ensures ∙ c.if-is_join.false in
    omega (arith, leaf_room j g h o)

pub overflow_add-pending : goal.overflow_add-pending
overflow_add-pending c =
    let j = c.requires.fact in let g = (c.loop-i.invariant j).centre in let h = c.loop-i-test.true in let o = sym c.is_join.ensures ∙ c.if-is_join.false in
    omega (arith, leaf_room j g h o)

pub loop-i-preserved : goal.loop-i-preserved
loop-i-preserved c =
    let h = c.loop-i-test.true in
    let e = c.is_join.ensures in
    λ j. let g = c.loop-i.invariant j in
    elim c.if-is_join.branch [
      | then-is_join w ↦
          rw (w.sures-is, w.centres-is, w.possibles-is, w.pending-is)
          (three_join j g h (sym e ∙ w.if-is_join.true) w.joined_word-sure.ensures w.joined_word-centre.ensures w.joined_word-possible.ensures)
      | else-is_join w ↦
          rw (w.sures-is, w.centres-is, w.possibles-is, w.pending-is) (three_leaf j g h (sym e ∙ w.if-is_join.false) w.leaf_words-leaf.ensures)
    ]

pub returns : goal.returns
returns c = record {
  fact_2 = λ job. three_end job (c.loop-i.invariant job) c.loop-i-test.false c.whole_word.ensures c.whole_word-2.ensures c.whole_word-3.ensures;
  three_shelves_2 = three_long c.requires.fact (c.loop-i.invariant c.requires.fact);
}
