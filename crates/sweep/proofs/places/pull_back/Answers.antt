-- `pull_back` writes the places past the trees: the next of the ends, or the place behind a leaf.
use Rattle.sweep.proofs.Pulls.{pulling_first, pulling_open, pulling_leaf, pulling_written}
use Rattle.sweep.proofs.places.pull_back.Goals.{then-expression-place-eq40, else-expression-place-eq40}
use Rattle.sweep.proofs.places.pull_back.Goals as goal

pub loop-place-init : goal.loop-place-init
loop-place-init c = pulling_first _ _ _ c.requires.ends_suffice

pub loop-place-preserved : goal.loop-place-preserved
loop-place-preserved c =
    elim c.if-expression-place-eq40.branch [
      | then-expression-place-eq40 w ↦ rw (w.places-is, w.next-is) (
          pulling_open c.loop-place.invariant c.loop-place-test.true w.if-expression-place-eq40.true)
      | else-expression-place-eq40 w ↦ rw (w.places-is, w.next-is) (
          pulling_leaf c.loop-place.invariant c.loop-place-test.true w.if-expression-place-eq40.false)
    ]

pub returns : goal.returns
returns c = pulling_written c.loop-place.invariant c.loop-place-test.false
