-- The values grow axis by axis.
use Rattle.convert.specs.Slots.{Growing}
use Rattle.convert.proofs.carried.begin.Given as goal

abbrev pub invariant-loop-axis : goal.invariant-loop-axis
invariant-loop-axis l = Growing l.rows l.slots l.count l.side l.axis l.least l.greatest l.amounts
