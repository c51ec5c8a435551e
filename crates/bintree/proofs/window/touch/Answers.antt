-- Each answer is a law of proofs/Watches.antt.
use Rattle.bintree.proofs.Watches.{touch_laws}
use Rattle.bintree.proofs.window.touch.Goals as goal

pub overflow_shl-bits : goal.overflow_shl-bits
overflow_shl-bits c = search touch_laws

pub overflow_shl-result : goal.overflow_shl-result
overflow_shl-result c = search touch_laws

pub overflow_add-result-2 : goal.overflow_add-result-2
overflow_add-result-2 c = search touch_laws

pub returns : goal.returns
returns c = search touch_laws
