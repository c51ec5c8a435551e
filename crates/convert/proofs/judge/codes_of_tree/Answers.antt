-- A leaf that is joined at once is two words read.
use Rattle.std.proofs.Common.{◌≡◌, ◌+◌, sym, ◌∙◌, arith, rules}
use Rattle.csg.proofs.Evaluation.{evaluating_start, evaluating_leaf, evaluating_room, evaluating_push, evaluating_two, evaluating_join}
use Rattle.csg.proofs.Evaluation.{evaluating_both, evaluating_end}
use Rattle.convert.proofs.Slots.{named_start, slot_next, slot_kept}
use Rattle.convert.proofs.Judging.{tree_codes}
use Rattle.convert.proofs.judge.codes_of_tree.Goals as goal

pub loop-i-init : goal.loop-i-init
loop-i-init c = (evaluating_start _ 0 (search rules) c.requires.words_value, named_start c.args.words.now c.args.from)

-- an operator's word
pub overflow_sub-n : goal.overflow_sub-n
overflow_sub-n c =
    omega (arith, evaluating_two c.loop-i.invariant.0 c.loop-i-test.true (sym c.is_operator.ensures ∙ c.if-is_operator.true))

pub loop-i-preserved-then-is_operator : goal.loop-i-preserved-then-is_operator
loop-i-preserved-then-is_operator c =
    let h = c.loop-i-test.true in
    let o = sym c.is_operator.ensures ∙ c.if-is_operator.true in
    (evaluating_join c.loop-i.invariant.0 h o _ c.join_code-top.ensures, slot_kept _ _ _ c.loop-i.invariant.1 h o)

-- a leaf's word
pub codes_of_word-code-requires-clause-word_value : goal.codes_of_word-code-requires-clause-word_value
codes_of_word-code-requires-clause-word_value c =
    evaluating_leaf c.loop-i.invariant.0 c.loop-i-test.true (sym c.is_operator.ensures ∙ c.if-is_operator.false)

pub codes_of_word-code-requires-clause-fact_2 : goal.codes_of_word-code-requires-clause-fact_2
codes_of_word-code-requires-clause-fact_2 c = λ e. c.requires.slots.named _ _ c.loop-i.invariant.1 c.loop-i-test.true e

pub slot_after-slot-requires : goal.slot_after-slot-requires
slot_after-slot-requires c =
    λ e. omega (arith, (c.requires.slots.named _ _ c.loop-i.invariant.1 c.loop-i-test.true e).0, c.requires.fact.least_moves.few)

-- the operator behind it
pub loop-i-preserved-else-is_operator : goal.loop-i-preserved-else-is_operator
loop-i-preserved-else-is_operator c =
    let h = c.loop-i-test.true in
    let o = sym c.is_operator.ensures ∙ c.if-is_operator.false in
    let next = c.in-Some.ensures.lookup.3 in
    let p = rw (next.1 0) at (sym c.is_operator-else-is_operator.ensures ∙ c.if-is_operator-2.true) in
    let joined = rw (next.1 0) at c.join_code-top-else-is_operator.ensures in
    let z : c.loop-i.i + 2 ≡ c.loop-i.i + 1 + 1 = omega arith in (
      evaluating_both c.loop-i.invariant.0 h o p _ _ c.codes_of_word-code.ensures joined,
      rw z (slot_kept _ _ _ (slot_next _ _ _ c.loop-i.invariant.1 h c.slot_after-slot.ensures) next.0 p),
    )

-- no operator behind it
pub bounds-pending-n-in_default : goal.bounds-pending-n-in_default
bounds-pending-n-in_default c =
    evaluating_room c.loop-i.invariant.0 c.loop-i-test.true (sym c.is_operator.ensures ∙ c.if-is_operator.false)

pub loop-i-preserved : goal.loop-i-preserved
loop-i-preserved c =
    let h = c.loop-i-test.true in
    let o = sym c.is_operator.ensures ∙ c.if-is_operator.false in (
      evaluating_push c.loop-i.invariant.0 h o _ c.codes_of_word-code.ensures,
      slot_next _ _ _ c.loop-i.invariant.1 h c.slot_after-slot.ensures,
    )

pub returns : goal.returns
returns c = evaluating_end c.loop-i.invariant.0 c.loop-i-test.false ∙ tree_codes _ _ _ _ _
