-- `check_keys`: each of its tests is one of the rule's, the last of them with the frames that there are.
use Rattle.std.proofs.Common.{arith}
use Rattle.std.proofs.lemmas.Bool.Decides.{nat_tests}
use Rattle.mover.specs.Keys.{keys_refusal}
use Rattle.mover.proofs.step.Mover.check_keys.Goals as goal

pub returns-then-count-lt-LEAST_KEYS : goal.returns-then-count-lt-LEAST_KEYS
unfolding keys_refusal
returns-then-count-lt-LEAST_KEYS c = grind (arith, nat_tests)

pub returns : goal.returns
unfolding keys_refusal
returns c = grind (arith, nat_tests)
