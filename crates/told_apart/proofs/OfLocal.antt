-- Of each public function of `local`: its contract asks nothing, and two answers that it allows are equal, and so is what the lent buffer holds.
use mathlib.Core.Path.{refl}
use borrow.Fn.World.{World}
use Rattle.local.specs.contracts as local
use Rattle.told_apart.specs.Answers.{TellsApart}
use Rattle.told_apart.proofs.Alike.{same, two, behind}
use Rattle.told_apart.proofs.Told.{clearance-read, writing-read}

pub local_raw_of_one : (w : World) → TellsApart w local.raw_of_one.ended local.raw_of_one.clauses
local_raw_of_one w _ _ = ((tt, refl), λ _ _ _ _ _. two w (λ p q. (writing-read _ _ (same p.0 q.0), λ i. behind 4 (same p.1 q.1 i, tt))))

pub local_raw_of_two : (w : World) → TellsApart w local.raw_of_two.ended local.raw_of_two.clauses
local_raw_of_two w _ _ = ((tt, refl), λ _ _ _ _ _. two w (λ p q. (writing-read _ _ (same p.0 q.0), λ i. behind 5 (same p.1 q.1 i, tt))))

pub local_verdict_of_two : (w : World) → TellsApart w local.verdict_of_two.ended local.verdict_of_two.clauses
local_verdict_of_two w _ _ = ((tt, refl), λ _ _ _ _ _. two w (λ p q. (clearance-read _ _ (same p.0 q.0), λ i. behind 7 (same p.1 q.1 i, tt))))
