-- Of the public function of `report`: its contract asks nothing, and two answers that it allows are equal, and so is what the row holds.
use mathlib.Core.Path.{refl}
use borrow.Fn.World.{World}
use Rattle.report.specs.contracts as report
use Rattle.told_apart.specs.Answers.{TellsApart}
use Rattle.told_apart.proofs.Alike.{same, two, behind}
use Rattle.told_apart.proofs.Told.{report-read}

pub report_report_of : (w : World) → TellsApart w report.report_of.ended report.report_of.clauses
report_report_of w _ _ = ((tt, refl), λ _ _ _ _ _. two w (λ p q. (report-read _ _ (same p.0 q.0), λ i. behind 4 (same p.1 q.1 i, tt))))
