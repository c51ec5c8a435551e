-- Of the public function of `lines`: its contract asks nothing, and two answers that it allows are equal, and so is what the lent array holds.
use mathlib.Core.Path.{refl}
use borrow.Fn.World.{World}
use Rattle.lines.specs.contracts as lines
use Rattle.told_apart.specs.Answers.{TellsApart}
use Rattle.told_apart.proofs.Alike.{same, two, behind}

pub lines_lines_of : (w : World) → TellsApart w lines.lines_of.ended lines.lines_of.clauses
lines_lines_of w _ _ = ((tt, refl), λ _ _ _ _ _. two w (λ p q. (same p.0 q.0, λ i. behind 1 (same p.1 q.1 i, tt))))
