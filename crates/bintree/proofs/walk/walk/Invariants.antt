-- What the tree at hand and the high halves owed tell is what is asked.
use Rattle.bintree.specs.Reading.{read_at}
use Rattle.bintree.specs.Walks.{walked}
use Rattle.bintree.proofs.Walks.{Walking}
use Rattle.bintree.proofs.walk.walk.Given as goal

abbrev pub invariant-loop-place : goal.invariant-loop-place
invariant-loop-place l =
    Walking l.expression (walked l.fn.at (read_at l.expression l.fn.left l.fn.at)) l.place l.levels l.owed
