-- The largest need of the stretches so far.
use Rattle.std.proofs.Common.{◌≡◌, length}
use Rattle.mover.specs.Keys.{mover_lent}
use Rattle.mover.specs.Frames.{surfaces_lent, stretch_raw}
use Rattle.mover.specs.Answers.{largest}
use Rattle.mover.proofs.judge.largest_need.Given as goal

abbrev pub invariant-loop-i : goal.invariant-loop-i
invariant-loop-i l =
    l.need ≡ largest l.i (λ j. length (stretch_raw l.universe (mover_lent l.mover) (surfaces_lent l.tree) l.tree.words.now j))
