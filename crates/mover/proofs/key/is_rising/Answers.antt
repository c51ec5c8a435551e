-- `is_rising` asks of each moment and the next.
use Rattle.std.proofs.Common.{ltb, rules}
use Rattle.std.proofs.lemmas.Fn.{always_returns_same}
use Rattle.mover.specs.Keys.{is_rising}
use Rattle.mover.proofs.Tests.{adjacent-every}
use Rattle.mover.proofs.key.is_rising.Goals as goal

pub returns : goal.returns
unfolding is_rising
returns c = adjacent-every ltb c.args.moments.now 0 _ (c.is_sorted_by.ensures.cases ltb (always_returns_same _ _ _ (λ a r g k. search rules)))
