-- Of the public function of `mover`: its contract asks nothing, and two answers that it allows are equal, and so is what the lent room holds.
use mathlib.Core.Path.{refl}
use borrow.Fn.World.{World}
use Rattle.mover.specs.contracts as mover
use Rattle.told_apart.specs.Answers.{TellsApart}
use Rattle.told_apart.proofs.Alike.{same, two, behind}
use Rattle.told_apart.proofs.Told.{clearance-read}

pub mover_verdict_of_mover : (w : World) → TellsApart w mover.verdict_of_mover.ended mover.verdict_of_mover.clauses
mover_verdict_of_mover w _ _ = ((tt, refl), λ _ _ _ _ _. two w (λ p q. (clearance-read _ _ (same p.0 q.0), λ i. behind 7 (same p.1 q.1 i, tt))))
