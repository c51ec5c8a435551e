-- `move_values` goes code by code: exactly the rows that the codes so far name have moved.
use Prim.Native.Nat.{◌-◌}
use Rattle.at_once.specs.Moves.{Moved}
use Rattle.at_once.proofs.moves.move_values.Given as goal

abbrev pub invariant-loop-i : goal.invariant-loop-i
invariant-loop-i l =
    Moved l.up l.rows l.axis l.half l.codes l.from (l.i - l.from) l.round l.fn.values l.fn.rounds l.values l.rounds
