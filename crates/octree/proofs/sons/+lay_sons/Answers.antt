-- What `lay_sons` asks for; what it tells and leaves the check finds by the laws of proofs/Exports.antt.
use Rattle.octree.proofs.Exports.{sons_laws}
use Rattle.octree.proofs.sons.+lay_sons.Goals as goal

pub bounds-expression-at : goal.bounds-expression-at
bounds-expression-at t c = search sons_laws

pub overflow_add-result : goal.overflow_add-result
overflow_add-result t c = search sons_laws

pub overflow_sub-left : goal.overflow_sub-left
overflow_sub-left t c = search sons_laws

pub lay_sons-sons-requires : goal.lay_sons-sons-requires
lay_sons-sons-requires t c = search sons_laws

pub lay_sons-high-requires : goal.lay_sons-high-requires
lay_sons-high-requires t c = search sons_laws
