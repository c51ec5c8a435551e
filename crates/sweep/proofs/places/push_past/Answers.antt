-- `push_past` writes the places past the trees, one at each turn.
use Rattle.sweep.proofs.Pushes.{ending_first, ending_next, ending_written}
use Rattle.sweep.proofs.places.push_past.Goals as goal

pub loop-place-init : goal.loop-place-init
loop-place-init c = ending_first _ _

pub loop-place-preserved : goal.loop-place-preserved
loop-place-preserved c = ending_next c.loop-place.invariant c.loop-place-test.true _ c.past.ensures

pub returns : goal.returns
returns c = ending_written c.loop-place.invariant c.loop-place-test.false
