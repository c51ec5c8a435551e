-- Offset after offset is set.
use Rattle.convert.specs.Slots.{row_in}
use Rattle.convert.proofs.Slots.{Storing}
use Rattle.convert.proofs.carried.set_offsets.Given as goal

abbrev pub invariant-loop-i : goal.invariant-loop-i
invariant-loop-i l = Storing (λ k. (row_in l.rows l.slots k).offset) 0 l.count l.initial.values l.values l.i
