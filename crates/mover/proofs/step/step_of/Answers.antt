-- `step_of` divides the size of the change, and gives it its sign.
use Rattle.mover.proofs.Steps.{step_turned, step_plain}
use Rattle.mover.proofs.step.step_of.Goals as goal

pub returns-then-change-lt0 : goal.returns-then-change-lt0
returns-then-change-lt0 c = step_turned _ _ c.requires c.unsigned_abs.ensures.value c.if-change-lt0.true

pub returns-else-change-lt0 : goal.returns-else-change-lt0
returns-else-change-lt0 c = step_plain _ _ c.requires c.unsigned_abs.ensures.value c.if-change-lt0.false
