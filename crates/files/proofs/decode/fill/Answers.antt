-- One more place is filled with what the rule gives.
use Rattle.std.proofs.Common.{arith, ◌<◌, length}
use Rattle.files.proofs.Numbers.{filling_next}
use Rattle.files.proofs.decode.fill.Goals as goal

pub loop-i-preserved : goal.loop-i-preserved
loop-i-preserved g c =
    let next : c.loop-i.i < length c.args.out.now = omega arith in
    filling_next c.loop-i.invariant next (c.requires.1.1.1 c.loop-i.i c.read.result next c.read.ensures)
