-- What the check told, with the universe or with none.
use mathlib.Core.Path.{◌≡◌, sym, ap, ◌∙◌}
use Rattle.std.proofs.Common.{rules}
use Rattle.std.specs.Prelude.{Result, Err}
use Rattle.universe.specs.declared.refusal.Refusal.{Refusal}
use Rattle.universe.specs.declared.accepted.Accepted.{Accepted}
use Rattle.universe.specs.Accepting.{accepted_told}
use Rattle.universe.proofs.Telling.{number-not_zero}
use Rattle.universe.proofs.Acceptance.{accepted_done, accepted_not}
use Rattle.universe.proofs.Universe.accepted.Goals as goal

pub returns-in_err-check : goal.returns-in_err-check
returns-in_err-check c =
    let g : ◌≡◌ {A = Result Accepted Refusal} c.from_residual.result (Err c.in_err-check.field-0.0) = search rules in
    ap accepted_told g ∙ accepted_not _ _ c.in_err-check.ensures (number-not_zero _)

pub returns : goal.returns
returns c = accepted_done _ (sym c.in_ok-check.ensures)
