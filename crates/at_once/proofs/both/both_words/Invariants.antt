-- `both_words` reads node by node over the words pending of both halves (`Going`, twice): an operator joins the two last, a leaf is pushed.
use Rattle.csg.specs.Surfaces.{surfaces_of}
use Rattle.at_once.specs.Words.{TreesWord}
use Rattle.at_once.specs.Both.{places_along}
use Rattle.at_once.proofs.TreeWords.{tree_word, Going}
use Rattle.at_once.proofs.both.both_words.Given as goal

abbrev pub invariant-loop-i : goal.invariant-loop-i
invariant-loop-i l =
    ((job : TreesWord (surfaces_of l.rows l.balls) l.axes l.table l.lengths l.low 6 l.codes l.from l.count) →
    Going (tree_word job.block) job l.belows l.pending l.i)
    × ((job : TreesWord (surfaces_of l.rows l.balls) l.axes l.table l.lengths (places_along l.low l.axis l.half) 6 l.codes l.from l.count) →
    Going (tree_word job.block) job l.aboves l.pending l.i)
