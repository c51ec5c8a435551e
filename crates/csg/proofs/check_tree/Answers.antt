-- The loop counts the shapes pending (proofs/Checking.antt).
use Rattle.std.proofs.Common.{sym, ◌∙◌, arith}
use Rattle.csg.proofs.Words.{too_long}
use Rattle.csg.proofs.Checking.{counting_start, counting_few, counting_join}
use Rattle.csg.proofs.Checking.{counting_unknown, counting_full, counting_push, counting_one, counting_not_one}
use Rattle.csg.proofs.check_tree.Goals as goal
use Rattle.csg.proofs.check_tree.Goals.{then-is_operator+else-pending-lt2, else-is_operator+else-not-is_leaf+else-pending-ge-MOST_PENDING}

pub returns-then-words-gt-MOST_WORDS : goal.returns-then-words-gt-MOST_WORDS
returns-then-words-gt-MOST_WORDS c = sym (too_long _ c.args.words.now (omega arith))

pub loop-word-init : goal.loop-word-init
loop-word-init c = counting_start _ c.args.words.now (omega arith)

pub returns-then-pending-lt2 : goal.returns-then-pending-lt2
returns-then-pending-lt2 c =
    sym (counting_few c.loop-word.invariant c.loop-word-test.true (sym c.is_operator.ensures ∙ c.if-is_operator.true) (omega arith))

pub returns-then-not-is_leaf : goal.returns-then-not-is_leaf
returns-then-not-is_leaf c =
    let o = sym c.is_operator.ensures ∙ c.if-is_operator.false in
    sym (counting_unknown c.loop-word.invariant c.loop-word-test.true o (sym c.is_leaf.ensures ∙ c.if-not-is_leaf.true))

pub returns-then-pending-ge-MOST_PENDING : goal.returns-then-pending-ge-MOST_PENDING
returns-then-pending-ge-MOST_PENDING c =
    let o = sym c.is_operator.ensures ∙ c.if-is_operator.false in
    sym (counting_full c.loop-word.invariant c.loop-word-test.true o (sym c.is_leaf.ensures ∙ c.if-not-is_leaf.false) (omega arith))

pub loop-word-preserved : goal.loop-word-preserved
loop-word-preserved c =
    let o = sym c.is_operator.ensures in
    let m = c.loop-word.invariant in
    let h = c.loop-word-test.true in
    elim c.if-is_operator.branch [
      | then-is_operator+else-pending-lt2 w ↦ rw w.pending-is (counting_join m h (o ∙ w.if-is_operator.true) (omega arith))
      | else-is_operator+else-not-is_leaf+else-pending-ge-MOST_PENDING w ↦
          rw w.pending-is (counting_push m h (o ∙ w.if-is_operator.false) (sym w.is_leaf.ensures ∙ w.if-not-is_leaf.false) (omega arith))
    ]

pub returns-then-pending-ne1 : goal.returns-then-pending-ne1
returns-then-pending-ne1 c = sym (counting_not_one c.loop-word.invariant c.loop-word-test.false c.if-pending-ne1.true)

pub returns : goal.returns
returns c = sym (counting_one c.loop-word.invariant c.loop-word-test.false c.if-pending-ne1.false)
