-- Each stretch so far has a step.
use Rattle.std.proofs.Common.{◌≡◌, ℕ, ◌<◌, true}
use Rattle.mover.specs.Stretches.{has_step}
use Rattle.mover.proofs.step.Mover.check_steps.Given as goal

abbrev pub invariant-loop-i : goal.invariant-loop-i
invariant-loop-i l = (k : ℕ) → k < l.i → has_step l.self.moments.now l.self.corners.now k ≡ true
