-- `write_symbol`: too little room, or the symbol at its front.
use Rattle.std.proofs.Common.{arith}
use Rattle.std.proofs.lemmas.Bool.Decides.{nat_tests}
use Rattle.pruned.proofs.Writing.{symbol_short, symbol_done}
use Rattle.pruned.proofs.whole.write_symbol.Goals as goal

pub returns-then-is_empty : goal.returns-then-is_empty
returns-then-is_empty c = symbol_short (grind (arith, nat_tests))

pub returns : goal.returns
returns c = symbol_done (grind (arith, nat_tests))
