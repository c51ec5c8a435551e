-- `trees_word` reads node by node over the words pending (`Going`): an operator joins the two last, a leaf is pushed.
use mathlib.Core.Path.{refl, sym, ◌∙◌}
use native.Mathlib.Omega.{arith}
use Rattle.at_once.proofs.TreeWords.{tree_word, word_joins, all_word_lem, going_start, code_inside, leaf_room, leaf_job}
use Rattle.at_once.proofs.RowValues.{value_here}
use Rattle.at_once.proofs.TreeWords.{leaf_is, going_leaf, join_two, going_join, going_end}
use Rattle.at_once.proofs.word.trees_word.Lts.{then-is_join, else-is_join}
use Rattle.at_once.proofs.word.trees_word.Goals as goal

pub overflow_add-stop : goal.overflow_add-stop
overflow_add-stop c = omega (arith, c.requires.fact.carried.inside)

pub loop-i-init : goal.loop-i-init
loop-i-init c = λ job. going_start job (tree_word job.block) refl

pub offset_bounds-codes-i : goal.offset_bounds-codes-i
offset_bounds-codes-i c = let j = c.requires.fact in omega (arith, code_inside j (c.loop-i.invariant j) c.loop-i-test.true)

pub bounds-codes-i : goal.bounds-codes-i
bounds-codes-i c = let j = c.requires.fact in code_inside j (c.loop-i.invariant j) c.loop-i-test.true

pub overflow_sub-pending : goal.overflow_sub-pending
overflow_sub-pending c =
    let j = c.requires.fact in let g = c.loop-i.invariant j in let h = c.loop-i-test.true in let o = sym c.is_join.ensures ∙ c.if-is_join.true in
    omega (arith, join_two j g h o, g.few)

pub offset_bounds-words-pending : goal.offset_bounds-words-pending
offset_bounds-words-pending c =
    let j = c.requires.fact in let g = c.loop-i.invariant j in let h = c.loop-i-test.true in let o = sym c.is_join.ensures ∙ c.if-is_join.true in
    omega (arith, join_two j g h o, g.few)

pub bounds-words-pending : goal.bounds-words-pending
bounds-words-pending c =
    let j = c.requires.fact in let g = c.loop-i.invariant j in let h = c.loop-i-test.true in let o = sym c.is_join.ensures ∙ c.if-is_join.true in
    omega (arith, join_two j g h o, g.few)

pub overflow_sub-pending-then-is_join : goal.overflow_sub-pending-then-is_join
overflow_sub-pending-then-is_join c =
    let j = c.requires.fact in let g = c.loop-i.invariant j in let h = c.loop-i-test.true in let o = sym c.is_join.ensures ∙ c.if-is_join.true in
    omega (arith, join_two j g h o, g.few)

pub offset_bounds-words-pending-then-is_join : goal.offset_bounds-words-pending-then-is_join
offset_bounds-words-pending-then-is_join c =
    let j = c.requires.fact in let g = c.loop-i.invariant j in let h = c.loop-i-test.true in let o = sym c.is_join.ensures ∙ c.if-is_join.true in
    omega (arith, join_two j g h o, g.few)

pub bounds-words-pending-then-is_join : goal.bounds-words-pending-then-is_join
bounds-words-pending-then-is_join c =
    let j = c.requires.fact in let g = c.loop-i.invariant j in let h = c.loop-i-test.true in let o = sym c.is_join.ensures ∙ c.if-is_join.true in
    omega (arith, join_two j g h o, g.few)

pub overflow_sub-words : goal.overflow_sub-words
overflow_sub-words c =
    let j = c.requires.fact in let g = c.loop-i.invariant j in
    let h = c.loop-i-test.true in let o = sym c.is_join.ensures ∙ c.if-is_join.true in
    omega (arith, join_two j g h o, g.few)

pub offset_bounds-words-pending-then-is_join-2 : goal.offset_bounds-words-pending-then-is_join-2
offset_bounds-words-pending-then-is_join-2 c =
    let j = c.requires.fact in let g = c.loop-i.invariant j in
    let h = c.loop-i-test.true in let o = sym c.is_join.ensures ∙ c.if-is_join.true in
    omega (arith, join_two j g h o, g.few)

pub bounds-words-pending-then-is_join-2 : goal.bounds-words-pending-then-is_join-2
bounds-words-pending-then-is_join-2 c =
    let j = c.requires.fact in let g = c.loop-i.invariant j in
    let h = c.loop-i-test.true in let o = sym c.is_join.ensures ∙ c.if-is_join.true in
    omega (arith, join_two j g h o, g.few)

pub overflow_sub-pending-then-is_join-2 : goal.overflow_sub-pending-then-is_join-2
overflow_sub-pending-then-is_join-2 c =
    let j = c.requires.fact in let g = c.loop-i.invariant j in
    let h = c.loop-i-test.true in let o = sym c.is_join.ensures ∙ c.if-is_join.true in
    omega (arith, join_two j g h o, g.few)

pub leaf_word-requires : goal.leaf_word-requires
leaf_word-requires c =
    let j = c.requires.fact in let g = c.loop-i.invariant j in let h = c.loop-i-test.true in let o = sym c.is_join.ensures ∙ c.if-is_join.false in
    record { fact = leaf_job j g h o; value_of = value_here c.requires.right_values g.begun h }

pub offset_bounds-words-pending-else-is_join : goal.offset_bounds-words-pending-else-is_join
offset_bounds-words-pending-else-is_join c =
    let j = c.requires.fact in let g = c.loop-i.invariant j in
    let h = c.loop-i-test.true in let o = sym c.is_join.ensures ∙ c.if-is_join.false in
    omega (arith, leaf_room j g h o)

pub bounds-words-pending-else-is_join : goal.bounds-words-pending-else-is_join
bounds-words-pending-else-is_join c =
    let j = c.requires.fact in let g = c.loop-i.invariant j in
    let h = c.loop-i-test.true in let o = sym c.is_join.ensures ∙ c.if-is_join.false in
    omega (arith, leaf_room j g h o)

pub overflow_add-pending : goal.overflow_add-pending
overflow_add-pending c =
    let j = c.requires.fact in let g = c.loop-i.invariant j in
    let h = c.loop-i-test.true in let o = sym c.is_join.ensures ∙ c.if-is_join.false in
    omega (arith, leaf_room j g h o)

pub loop-i-preserved : goal.loop-i-preserved
loop-i-preserved c = let h = c.loop-i-test.true in
    let e = c.is_join.ensures in
    λ j. let g = c.loop-i.invariant j in
    elim c.if-is_join.branch [
      | then-is_join w ↦ rw (w.words-is, w.pending-is) (going_join j g h (sym e ∙ w.if-is_join.true) (word_joins j.block) w.joined_word-joined.ensures)
      | else-is_join w ↦ let o = sym e ∙ w.if-is_join.false in rw (w.words-is, w.pending-is)
          (going_leaf j g h o (leaf_is j g h o (w.leaf_word.ensures (leaf_job j g h o))))
    ]

pub returns : goal.returns
returns c =
    λ job. going_end job (c.loop-i.invariant job) c.loop-i-test.false c.whole_word.ensures
    ∙ all_word_lem job.block job.carried.few
