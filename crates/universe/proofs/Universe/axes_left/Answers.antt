-- The accepted universe is this one.
use mathlib.Core.Path.{refl, ◌∙◌}
use Rattle.universe.proofs.Telling.{number-not_zero}
use Rattle.universe.proofs.Acceptance.{asked_axes, refused_axes}
use Rattle.universe.proofs.Universe.axes_left.Goals as goal

pub returns-in-Ok : goal.returns-in-Ok
returns-in-Ok c = c.axes_left.ensures ∙ asked_axes _ c.in-Ok.ensures refl

pub returns-in-Err : goal.returns-in-Err
returns-in-Err c = refused_axes _ c.in-Err.ensures (number-not_zero _)
