-- `are_within` asks of each moment.
use Rattle.std.proofs.Common.{◌∙◌, leb, rules}
use Rattle.std.proofs.lemmas.Iterator.{YieldsList-from_slice}
use Rattle.std.proofs.lemmas.Iterator.Search.{all_from_yields_List}
use Rattle.mover.specs.Keys.{are_within}
use Rattle.mover.proofs.Tests.{list_all-every}
use Rattle.mover.proofs.key.are_within.Goals as goal

pub returns : goal.returns
unfolding are_within
returns c =
    let xs = c.args.moments.now in
    all_from_yields_List (λ x. leb x c.args.most) _ _ _ c.all.ensures.ran (YieldsList-from_slice xs cc) (λ x b q k. search rules)
    ∙ list_all-every (λ x. leb x c.args.most) xs 0
