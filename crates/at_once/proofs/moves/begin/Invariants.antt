-- `begin` goes code by code: the rows that the codes so far name have their offsets.
use Rattle.at_once.specs.Moves.{Begun}
use Rattle.at_once.proofs.moves.begin.Given as goal

abbrev pub invariant-loop-i : goal.invariant-loop-i
invariant-loop-i l = Begun l.rows l.codes l.i l.values
