-- `trees_pair` reads node by node over the shapes pending (`Passing`): an operator joins the two last, a leaf is pushed.
use Rattle.csg.specs.Surfaces.{surfaces_of}
use Rattle.pruned.specs.Pair.{PairTrees}
use Rattle.pruned.proofs.Pairs.{Passing}
use Rattle.pruned.proofs.pair.trees_pair.Given as goal

abbrev pub invariant-loop-i : goal.invariant-loop-i
invariant-loop-i l =
    (job : PairTrees (surfaces_of l.rows l.balls) l.axes l.low l.axis l.work l.from l.count) → Passing job l.pairs l.pending l.i
