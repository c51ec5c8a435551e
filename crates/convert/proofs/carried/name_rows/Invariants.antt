-- The rows that the words read so far name are set.
use Rattle.convert.proofs.Slots.{Naming}
use Rattle.convert.proofs.carried.name_rows.Given as goal

abbrev pub invariant-loop-word : goal.invariant-loop-word
invariant-loop-word l = Naming l.words l.from l.initial.slots l.slots l.slot l.word-index
