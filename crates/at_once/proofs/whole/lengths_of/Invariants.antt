-- `lengths_of` doubles the length of an axis wherever it is halved: the lengths so far are those of the universe.
use Rattle.at_once.proofs.Lengths.{SoFar}
use Rattle.at_once.proofs.whole.lengths_of.Given as goal

abbrev pub invariant-loop-left : goal.invariant-loop-left
invariant-loop-left l = SoFar l.fn.universe l.table l.lengths l.side l.stop l.left
