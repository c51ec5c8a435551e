-- `is_step` gives is_step by the size of the change.
use Rattle.mover.proofs.Steps.{step_off, step_within}
use Rattle.mover.proofs.step.is_step.Goals as goal

pub returns-then-size-frames-eq0 : goal.returns-then-size-frames-eq0
returns-then-size-frames-eq0 c = step_within _ _ c.requires c.unsigned_abs-size.ensures.value c.if-size-frames-eq0.true

pub returns-else-size-frames-eq0 : goal.returns-else-size-frames-eq0
returns-else-size-frames-eq0 c = step_off _ _ c.requires c.unsigned_abs-size.ensures.value c.if-size-frames-eq0.false
