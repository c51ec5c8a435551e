-- After i turns the first i places hold what the rule gives.
use Rattle.files.proofs.Numbers.{Filling}
use Rattle.files.proofs.decode.fill.Given as goal

abbrev pub invariant-loop-i : goal.invariant-loop-i
invariant-loop-i g l = Filling g.rule l.initial.out l.i l.out
