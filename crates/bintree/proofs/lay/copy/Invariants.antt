-- After i turns the first i symbols are copied.
use Rattle.lemmas.proofs.Stores.{Copying}
use Rattle.bintree.proofs.lay.copy.Given as goal

abbrev pub invariant-loop-i : goal.invariant-loop-i
invariant-loop-i l = Copying l.symbols l.initial.out l.at l.count l.i l.out
