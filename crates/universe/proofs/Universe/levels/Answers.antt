-- The accepted universe is this one.
use mathlib.Core.Path.{refl, ◌∙◌}
use Rattle.universe.proofs.Telling.{number-not_zero}
use Rattle.universe.proofs.Acceptance.{asked_levels, refused_levels}
use Rattle.universe.proofs.Universe.levels.Goals as goal

pub returns-in-Ok : goal.returns-in-Ok
returns-in-Ok c = c.levels.ensures ∙ asked_levels _ c.in-Ok.ensures refl

pub returns-in-Err : goal.returns-in-Err
returns-in-Err c = refused_levels _ c.in-Err.ensures (number-not_zero _)
