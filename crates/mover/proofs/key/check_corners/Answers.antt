-- `check_corners` asks of each number.
use Rattle.std.proofs.Common.{◌≡◌, ◌∙◌, sym, length, rules}
use Rattle.std.specs.Float.{nan}
use Rattle.std.proofs.lemmas.Iterator.{YieldsList-from_slice}
use Rattle.std.proofs.lemmas.Iterator.Search.{all_from_yields_List}
use Rattle.lemmas.specs.Sums.{every}
use Rattle.standin.specs.Sixteenths.{corner_limit, is_taken}
use Rattle.mover.specs.Keys.{number_at, corners_refusal}
use Rattle.mover.proofs.Tests.{list_all-every}
use Rattle.mover.proofs.key.check_corners.Goals as goal
use Rattle.mover.proofs.key.check_corners.Goals.{After-all}

all_taken : (c : After-all) →
    c.all.result ≡ every (length c.args.corners.now) (λ i. is_taken corner_limit (number_at c.args.corners.now i))
all_taken c =
    let xs = c.args.corners.now in
    all_from_yields_List (is_taken corner_limit) _ _ _ c.all.ensures.ran (YieldsList-from_slice xs cc) (λ x b q k. search rules)
    ∙ list_all-every (is_taken corner_limit) xs nan

pub returns-then-all : goal.returns-then-all
unfolding corners_refusal
returns-then-all c = rw (sym (all_taken (goal.at.returns-then-all c).After-all) ∙ c.if-all.true)

pub returns-else-all : goal.returns-else-all
unfolding corners_refusal
returns-else-all c = rw (sym (all_taken (goal.at.returns-else-all c).After-all) ∙ c.if-all.false)
