-- With no more words than the most nodes the product fits, and it is the need.
use Rattle.std.proofs.Common.{refl, arith}
use Rattle.local.proofs.Rooms.{levels_few, nodes_few, nodes_suffice}
use Rattle.local.proofs.work.nodes_of.Goals as goal

pub overflow_add-result : goal.overflow_add-result
overflow_add-result c = omega (arith, levels_few _ 0 c.levels.ensures)

pub overflow_mul-result : goal.overflow_mul-result
overflow_mul-result c = omega (arith, nodes_few _ _ c.levels.ensures c.if-words-gt-MANY.false)

pub returns : goal.returns
returns c = λ h. nodes_suffice _ _ c.levels.ensures refl h
