-- `is_still` asks of the three numbers of a displacement, which has them since it is taken.
use Rattle.std.proofs.Common.{arith}
use Rattle.std.proofs.lemmas.Bool.Decides.{nat_tests}
use Rattle.mover.proofs.Keys.{step_taken, triple_some, zeros_told}
use Rattle.mover.proofs.key.is_still.Goals as goal

pub unwrap-v-requires : goal.unwrap-v-requires
unwrap-v-requires c = rw (triple_some c.args.displacement (step_taken c.args.displacement c.requires) c.corner_sixteenths.ensures)

pub returns-then-v-eq0-2 : goal.returns-then-v-eq0-2
returns-then-v-eq0-2 c =
    let told = zeros_told c.args.displacement c.requires c.corner_sixteenths.ensures c.unwrap-v.ensures in
    grind (arith, nat_tests)

pub returns-else-v-eq0-2 : goal.returns-else-v-eq0-2
returns-else-v-eq0-2 c =
    let told = zeros_told c.args.displacement c.requires c.corner_sixteenths.ensures c.unwrap-v.ensures in
    grind (arith, nat_tests)
