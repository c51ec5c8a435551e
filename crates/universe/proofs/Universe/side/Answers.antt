-- The accepted universe is this one.
use mathlib.Core.Path.{refl, ap, ◌∙◌}
use Rattle.std.specs.Option.{unwrap_or}
use Rattle.universe.proofs.Telling.{number-not_zero}
use Rattle.universe.proofs.Acceptance.{asked_side, refused_side}
use Rattle.universe.proofs.Universe.side.Goals as goal

pub returns-in-Ok : goal.returns-in-Ok
returns-in-Ok c = c.unwrap_or.ensures ∙ ap (λ o. unwrap_or o 0) c.side.ensures ∙ asked_side _ c.in-Ok.ensures refl _

pub returns-in-Err : goal.returns-in-Err
returns-in-Err c = refused_side _ c.in-Err.ensures (number-not_zero _) _
