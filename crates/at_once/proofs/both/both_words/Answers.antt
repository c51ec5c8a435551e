-- `both_words` reads node by node over the words pending of both halves (`Going`, twice): an operator joins the two last, a leaf is pushed.
use mathlib.Core.Path.{sym, ◌∙◌}
use native.Mathlib.Omega.{arith}
use Rattle.at_once.proofs.TreeWords.{tree_word, word_joins, all_word_lem, going_start, code_inside, leaf_room, leaf_job, leaf_is, going_leaf}
use Rattle.at_once.proofs.TreeWords.{join_two, going_join, going_end}
use Rattle.at_once.proofs.RowValues.{value_here}
use Rattle.at_once.proofs.both.both_words.Lts.{then-is_join, else-is_join}
use Rattle.at_once.proofs.both.both_words.Goals as goal

pub overflow_add-stop : goal.overflow_add-stop
overflow_add-stop c = omega (arith, c.requires.fact.carried.inside)

pub loop-i-init : goal.loop-i-init
loop-i-init c =
    let s = c.requires.both_shelves in
    (λ job. going_start job (tree_word job.block) s.belows_long, λ job. going_start job (tree_word job.block) s.aboves_long)

pub offset_bounds-codes-i : goal.offset_bounds-codes-i
offset_bounds-codes-i c =
    let j = c.requires.fact in
    omega (arith, code_inside j (c.loop-i.invariant.0 j) c.loop-i-test.true)

pub bounds-codes-i : goal.bounds-codes-i
bounds-codes-i c =
    let j = c.requires.fact in let g = c.loop-i.invariant.0 j in let h = c.loop-i-test.true in
    code_inside j g h

pub overflow_sub-pending : goal.overflow_sub-pending
overflow_sub-pending c =
    let j = c.requires.fact in let g = c.loop-i.invariant.0 j in let h = c.loop-i-test.true in
    let o = sym c.is_join.ensures ∙ c.if-is_join.true in
    omega (arith, join_two j g h o, g.few)

pub offset_bounds-belows-pending : goal.offset_bounds-belows-pending
offset_bounds-belows-pending c =
    let j = c.requires.fact in let g = c.loop-i.invariant.0 j in let h = c.loop-i-test.true in
    let o = sym c.is_join.ensures ∙ c.if-is_join.true in
    omega (arith, join_two j g h o, g.few)

pub bounds-belows-pending : goal.bounds-belows-pending
bounds-belows-pending c =
    let j = c.requires.fact in let g = c.loop-i.invariant.0 j in let h = c.loop-i-test.true in
    let o = sym c.is_join.ensures ∙ c.if-is_join.true in
    omega (arith, join_two j g h o, g.few)

pub overflow_sub-pending-then-is_join : goal.overflow_sub-pending-then-is_join
overflow_sub-pending-then-is_join c =
    let j = c.requires.fact in let g = c.loop-i.invariant.0 j in let h = c.loop-i-test.true in
    let o = sym c.is_join.ensures ∙ c.if-is_join.true in
    omega (arith, join_two j g h o, g.few)

pub offset_bounds-belows-pending-then-is_join : goal.offset_bounds-belows-pending-then-is_join
offset_bounds-belows-pending-then-is_join c =
    let j = c.requires.fact in let g = c.loop-i.invariant.0 j in let h = c.loop-i-test.true in
    let o = sym c.is_join.ensures ∙ c.if-is_join.true in
    omega (arith, join_two j g h o, g.few)

pub bounds-belows-pending-then-is_join : goal.bounds-belows-pending-then-is_join
bounds-belows-pending-then-is_join c =
    let j = c.requires.fact in let g = c.loop-i.invariant.0 j in let h = c.loop-i-test.true in
    let o = sym c.is_join.ensures ∙ c.if-is_join.true in
    omega (arith, join_two j g h o, g.few)

pub overflow_sub-pending-then-is_join-2 : goal.overflow_sub-pending-then-is_join-2
overflow_sub-pending-then-is_join-2 c =
    let j = c.requires.fact in let g = c.loop-i.invariant.0 j in let h = c.loop-i-test.true in
    let o = sym c.is_join.ensures ∙ c.if-is_join.true in
    omega (arith, join_two j g h o, g.few)

pub offset_bounds-aboves-pending : goal.offset_bounds-aboves-pending
offset_bounds-aboves-pending c =
    let j = c.requires.fact in let g = c.loop-i.invariant.0 j in let h = c.loop-i-test.true in
    let o = sym c.is_join.ensures ∙ c.if-is_join.true in
    omega (arith, join_two j g h o, g.few)

pub bounds-aboves-pending : goal.bounds-aboves-pending
bounds-aboves-pending c =
    let j = c.requires.fact in let g = c.loop-i.invariant.0 j in let h = c.loop-i-test.true in
    let o = sym c.is_join.ensures ∙ c.if-is_join.true in
    omega (arith, join_two j g h o, g.few)

pub overflow_sub-pending-then-is_join-3 : goal.overflow_sub-pending-then-is_join-3
overflow_sub-pending-then-is_join-3 c =
    let j = c.requires.fact in let g = c.loop-i.invariant.0 j in let h = c.loop-i-test.true in
    let o = sym c.is_join.ensures ∙ c.if-is_join.true in
    omega (arith, join_two j g h o, g.few)

pub offset_bounds-aboves-pending-then-is_join : goal.offset_bounds-aboves-pending-then-is_join
offset_bounds-aboves-pending-then-is_join c =
    let j = c.requires.fact in let g = c.loop-i.invariant.0 j in let h = c.loop-i-test.true in
    let o = sym c.is_join.ensures ∙ c.if-is_join.true in
    omega (arith, join_two j g h o, g.few)

pub bounds-aboves-pending-then-is_join : goal.bounds-aboves-pending-then-is_join
bounds-aboves-pending-then-is_join c =
    let j = c.requires.fact in let g = c.loop-i.invariant.0 j in let h = c.loop-i-test.true in
    let o = sym c.is_join.ensures ∙ c.if-is_join.true in
    omega (arith, join_two j g h o, g.few)

pub overflow_sub-belows : goal.overflow_sub-belows
overflow_sub-belows c =
    let j = c.requires.fact in let g = c.loop-i.invariant.0 j in let h = c.loop-i-test.true in
    let o = sym c.is_join.ensures ∙ c.if-is_join.true in
    omega (arith, join_two j g h o, g.few)

pub offset_bounds-belows-pending-then-is_join-2 : goal.offset_bounds-belows-pending-then-is_join-2
offset_bounds-belows-pending-then-is_join-2 c =
    let j = c.requires.fact in let g = c.loop-i.invariant.0 j in let h = c.loop-i-test.true in
    let o = sym c.is_join.ensures ∙ c.if-is_join.true in
    omega (arith, join_two j g h o, g.few)

pub bounds-belows-pending-then-is_join-2 : goal.bounds-belows-pending-then-is_join-2
bounds-belows-pending-then-is_join-2 c =
    let j = c.requires.fact in let g = c.loop-i.invariant.0 j in let h = c.loop-i-test.true in
    let o = sym c.is_join.ensures ∙ c.if-is_join.true in
    omega (arith, join_two j g h o, g.few)

pub overflow_sub-aboves : goal.overflow_sub-aboves
overflow_sub-aboves c =
    let j = c.requires.fact in let g = c.loop-i.invariant.0 j in let h = c.loop-i-test.true in
    let o = sym c.is_join.ensures ∙ c.if-is_join.true in
    omega (arith, join_two j g h o, g.few)

pub offset_bounds-aboves-pending-then-is_join-2 : goal.offset_bounds-aboves-pending-then-is_join-2
offset_bounds-aboves-pending-then-is_join-2 c =
    let j = c.requires.fact in let g = c.loop-i.invariant.0 j in let h = c.loop-i-test.true in
    let o = sym c.is_join.ensures ∙ c.if-is_join.true in
    omega (arith, join_two j g h o, g.few)

pub bounds-aboves-pending-then-is_join-2 : goal.bounds-aboves-pending-then-is_join-2
bounds-aboves-pending-then-is_join-2 c =
    let j = c.requires.fact in let g = c.loop-i.invariant.0 j in let h = c.loop-i-test.true in
    let o = sym c.is_join.ensures ∙ c.if-is_join.true in
    omega (arith, join_two j g h o, g.few)

pub overflow_sub-pending-then-is_join-4 : goal.overflow_sub-pending-then-is_join-4
overflow_sub-pending-then-is_join-4 c =
    let j = c.requires.fact in let g = c.loop-i.invariant.0 j in let h = c.loop-i-test.true in
    let o = sym c.is_join.ensures ∙ c.if-is_join.true in
    omega (arith, join_two j g h o, g.few)

pub both_of_leaf-leaf-requires : goal.both_of_leaf-leaf-requires
both_of_leaf-leaf-requires c =
    let v = c.loop-i.invariant in let h = c.loop-i-test.true in let o = sym c.is_join.ensures ∙ c.if-is_join.false in
    let j = c.requires.fact in let k = c.requires.fact_2 in
    record {
      fact = leaf_job j (v.0 j) h o;
      fact_2 = leaf_job k (v.1 k) h o;
      axis_lt_most_axes = c.requires.axis_lt_most_axes;
      power_place = c.requires.power_place;
      value_of = value_here c.requires.right_values c.loop-i.auto.i h;
    }

pub offset_bounds-belows-pending-else-is_join : goal.offset_bounds-belows-pending-else-is_join
offset_bounds-belows-pending-else-is_join c =
    let j = c.requires.fact in let g = c.loop-i.invariant.0 j in let h = c.loop-i-test.true in
    let o = sym c.is_join.ensures ∙ c.if-is_join.false in
    omega (arith, leaf_room j g h o)

pub bounds-belows-pending-else-is_join : goal.bounds-belows-pending-else-is_join
bounds-belows-pending-else-is_join c =
    let j = c.requires.fact in let g = c.loop-i.invariant.0 j in let h = c.loop-i-test.true in
    let o = sym c.is_join.ensures ∙ c.if-is_join.false in
    omega (arith, leaf_room j g h o)

pub offset_bounds-aboves-pending-else-is_join : goal.offset_bounds-aboves-pending-else-is_join
offset_bounds-aboves-pending-else-is_join c =
    let j = c.requires.fact in let g = c.loop-i.invariant.0 j in let h = c.loop-i-test.true in
    let o = sym c.is_join.ensures ∙ c.if-is_join.false in
    omega (arith, leaf_room j g h o)

pub bounds-aboves-pending-else-is_join : goal.bounds-aboves-pending-else-is_join
bounds-aboves-pending-else-is_join c =
    let j = c.requires.fact in let g = c.loop-i.invariant.0 j in let h = c.loop-i-test.true in
    let o = sym c.is_join.ensures ∙ c.if-is_join.false in
    omega (arith, leaf_room j g h o)

pub overflow_add-pending : goal.overflow_add-pending
overflow_add-pending c =
    let j = c.requires.fact in let g = c.loop-i.invariant.0 j in let h = c.loop-i-test.true in
    let o = sym c.is_join.ensures ∙ c.if-is_join.false in
    omega (arith, leaf_room j g h o)

pub loop-i-preserved : goal.loop-i-preserved
loop-i-preserved c =
    let v = c.loop-i.invariant in let h = c.loop-i-test.true in let e = c.is_join.ensures in
    elim c.if-is_join.branch [
      | then-is_join w ↦ let o = sym e ∙ w.if-is_join.true in rw (w.belows-is, w.aboves-is, w.pending-is) (
        λ j. going_join j (v.0 j) h o (word_joins j.block) w.joined_word-below.ensures,
        λ j. going_join j (v.1 j) h o (word_joins j.block) w.joined_word-above.ensures,
      )
      | else-is_join w ↦ let o = sym e ∙ w.if-is_join.false in rw (w.belows-is, w.aboves-is, w.pending-is) (
        λ j. let g = v.0 j in going_leaf j g h o (leaf_is j g h o (w.both_of_leaf-leaf.ensures.fact_3 (leaf_job j g h o))),
        λ j. let g = v.1 j in going_leaf j g h o (leaf_is j g h o (w.both_of_leaf-leaf.ensures.fact_4 (leaf_job j g h o))),
      )
    ]

pub returns : goal.returns
returns c =
    let v = c.loop-i.invariant in let stop = c.loop-i-test.false in let k = c.requires in
    record {
      fact_3 = λ job. going_end job (v.0 job) stop c.whole_word.ensures ∙ all_word_lem job.block job.carried.few;
      fact_4 = λ job. going_end job (v.1 job) stop c.whole_word-2.ensures ∙ all_word_lem job.block job.carried.few;
      both_shelves_2 = record { belows_long = (v.0 k.fact).words_long; aboves_long = (v.1 k.fact_2).words_long };
    }
