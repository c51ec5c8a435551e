-- Each slot holds a row that is there.
use Rattle.convert.proofs.Slots.{storing_start, storing_end, next_offset}
use Rattle.convert.proofs.carried.set_offsets.Goals as goal

pub loop-i-init : goal.loop-i-init
loop-i-init c = storing_start

pub loop-i-preserved : goal.loop-i-preserved
loop-i-preserved c = next_offset c.requires c.loop-i.invariant c.loop-i-test.true

pub returns : goal.returns
returns c = storing_end c.loop-i.invariant c.loop-i-test.false
