-- `lay_front` puts the numbers in front one by one.
use Rattle.std.proofs.Common.{pos, rules}
use Rattle.mover.proofs.Scenes.{front_next}
use Rattle.mover.proofs.scene.lay_front.Goals as goal

pub loop-i-preserved : goal.loop-i-preserved
loop-i-preserved c =
    front_next c.args.numbers.now c.args.all.now c.loop-i.i (pos 0) c.loop-i.invariant c.loop-i-test.true c.requires (search rules)
