-- `three_words` reads node by node over the words pending (`GoingThree`): an operator joins the two last, a leaf is pushed.
use Rattle.csg.specs.Surfaces.{surfaces_of}
use Rattle.at_once.specs.Words.{TreesWord}
use Rattle.at_once.proofs.OwnLeaves.{GoingThree}
use Rattle.at_once.proofs.three.three_words.Given as goal

abbrev pub invariant-loop-i : goal.invariant-loop-i
invariant-loop-i l =
    (job : TreesWord (surfaces_of l.rows l.balls) l.axes l.table l.lengths l.low l.left l.codes l.from l.count) →
    GoingThree job l.sures l.centres l.possibles l.pending l.i
