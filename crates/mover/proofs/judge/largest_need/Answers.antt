-- `largest_need` keeps the largest need of the stretches so far.
use Rattle.std.proofs.Common.{◌≡◌, refl, ◌∙◌, ap, ℕ, length, arith}
use Rattle.mover.specs.Keys.{mover_lent}
use Rattle.mover.specs.Stretches.{stretches}
use Rattle.mover.specs.Frames.{surfaces_lent, stretch_raw}
use Rattle.mover.specs.Answers.{largest, largest_need}
use Rattle.mover.proofs.Judging.{largest_more}
use Rattle.mover.proofs.judge.largest_need.Goals as goal

pub loop-i-init : goal.loop-i-init
unfolding largest
loop-i-init c = refl

pub loop-i-preserved : goal.loop-i-preserved
loop-i-preserved c =
    let m = mover_lent c.args.mover in
    let surfaces = surfaces_lent c.args.tree in
    largest_more (λ j. length (stretch_raw c.args.universe m surfaces c.args.tree.words.now j)) c.loop-i.invariant c.need_of-next.ensures c.max-need.ensures

pub returns : goal.returns
unfolding largest_need
returns c =
    let m = mover_lent c.args.mover in
    let surfaces = surfaces_lent c.args.tree in
    let need : ℕ → ℕ = λ j. length (stretch_raw c.args.universe m surfaces c.args.tree.words.now j) in
    let all : c.loop-i.i ≡ stretches c.args.mover.moments.now = omega arith in
    let sofar : c.loop-i.need ≡ largest c.loop-i.i need = c.loop-i.invariant in
    sofar ∙ ap (λ (n : ℕ). largest n need) all
