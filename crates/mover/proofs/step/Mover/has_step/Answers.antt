-- `has_step`: of the frames and the change of a stretch.
use Rattle.mover.proofs.Steps.{stretch_asks}
use Rattle.mover.proofs.step.Mover.has_step.Goals as goal

pub are_steps-requires : goal.are_steps-requires
are_steps-requires c = stretch_asks c.requires c.frames_of.ensures c.change_of-change.ensures
