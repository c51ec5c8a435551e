-- The stretches so far are judged, and their raw expressions written one over the other.
use Rattle.mover.specs.Frames.{surfaces_lent}
use Rattle.mover.specs.Keys.{mover_lent}
use Rattle.mover.proofs.Judging.{JudgedSofar}
use Rattle.mover.proofs.judge.judge_all.Given as goal

abbrev pub invariant-loop-i : goal.invariant-loop-i
invariant-loop-i l =
    JudgedSofar l.universe (mover_lent l.mover) (surfaces_lent l.tree) l.tree.words.now l.fn.out l.i l.verdict l.length l.out
