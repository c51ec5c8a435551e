-- `push_lows` writes the low places: a halved tree's, or none.
use Rattle.sweep.proofs.Pushes.{pushing_open, pushing_leaf, pushing_end, pushing_written}
use Rattle.sweep.proofs.places.push_lows.Goals.{then-expression-place-eq40, else-expression-place-eq40}
use Rattle.sweep.proofs.places.push_lows.Goals as goal

pub loop-place-preserved : goal.loop-place-preserved
loop-place-preserved c =
    elim c.if-expression-place-eq40.branch [
      | then-expression-place-eq40 w ↦ rw (w.lows-is, w.next-is) (
          pushing_open c.loop-place.invariant c.loop-place-test.true w.if-expression-place-eq40.true)
      | else-expression-place-eq40 w ↦ rw (w.lows-is, w.next-is) (
          pushing_leaf c.loop-place.invariant c.loop-place-test.true w.if-expression-place-eq40.false)
    ]

pub returns-clause-value : goal.returns-clause-value
returns-clause-value c = pushing_end c.loop-place.invariant c.loop-place-test.false

pub returns-clause-lows_after : goal.returns-clause-lows_after
returns-clause-lows_after c = pushing_written c.loop-place.invariant c.loop-place-test.false
