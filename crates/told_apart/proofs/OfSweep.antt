-- Of the public function of `sweep`: its contract asks nothing, and two answers that it allows are equal, and so is what the lent room holds.
use mathlib.Core.Path.{refl}
use borrow.Fn.World.{World}
use Rattle.sweep.specs.contracts as sweep
use Rattle.told_apart.specs.Answers.{TellsApart}
use Rattle.told_apart.proofs.Alike.{same, two, behind}
use Rattle.told_apart.proofs.Told.{swept-read}

pub sweep_sweep_along : (w : World) → TellsApart w sweep.sweep_along.ended sweep.sweep_along.clauses
sweep_sweep_along w _ _ = ((tt, refl), λ _ _ _ _ _. two w (λ p q. (swept-read _ _ (same p.0 q.0), λ i. behind 3 (same p.1 q.1 i, tt))))
