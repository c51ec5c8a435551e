-- What is counted tells that each level's axis has a place and that no count overflows.
use Rattle.convert.proofs.Turns.{counted_none, counted_next, counted_all}
use Rattle.convert.proofs.block.turns_left.Goals as goal

pub loop-left-init : goal.loop-left-init
loop-left-init c = counted_none c.requires.universe_value c.requires.axes_value c.levels-left.ensures

pub loop-left-preserved : goal.loop-left-preserved
loop-left-preserved c = counted_next c.loop-left.invariant c.loop-left-test.true

pub returns : goal.returns
returns c = counted_all c.loop-left.invariant c.loop-left-test.false
