-- The levels are counted from the first one down.
use Rattle.convert.proofs.Turns.{Counted}
use Rattle.convert.proofs.block.turns_left.Given as goal

abbrev pub invariant-loop-left : goal.invariant-loop-left
invariant-loop-left l = Counted l.fn.universe l.axes l.turns l.counts l.left
