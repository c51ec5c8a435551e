-- `trees_word` reads node by node over the words pending (`Going`): an operator joins the two last, a leaf is pushed.
use Rattle.csg.specs.Surfaces.{surfaces_of}
use Rattle.at_once.specs.Words.{TreesWord}
use Rattle.at_once.proofs.TreeWords.{tree_word, Going}
use Rattle.at_once.proofs.word.trees_word.Given as goal

abbrev pub invariant-loop-i : goal.invariant-loop-i
invariant-loop-i l =
    (job : TreesWord (surfaces_of l.rows l.balls) l.axes l.table l.lengths l.low l.left l.codes l.from l.count) → Going (tree_word job.block) job l.words
    l.pending l.i
