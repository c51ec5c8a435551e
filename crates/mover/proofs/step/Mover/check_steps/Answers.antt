-- `check_steps` judges stretch by stretch.
use Rattle.std.proofs.Common.{◌≡◌, ℕ, true, arith, rules}
use borrow.Author.Count.{below_more}
use Rattle.mover.specs.Stretches.{has_step}
use Rattle.mover.proofs.Steps.{steps_off, steps_all}
use Rattle.mover.proofs.step.Mover.check_steps.Goals as goal

pub returns-then-not-has_step : goal.returns-then-not-has_step
returns-then-not-has_step c = steps_off _ _ (omega arith) c.has_step.ensures c.if-not-has_step.true

pub loop-i-preserved : goal.loop-i-preserved
loop-i-preserved c =
    let has : ℕ → Type 0 = λ k. has_step c.args.self.moments.now c.args.self.corners.now k ≡ true in
    below_more has c.loop-i.i c.loop-i.invariant (search rules)

pub returns : goal.returns
returns c = steps_all _ _ (λ k l. c.loop-i.invariant k (omega arith))
