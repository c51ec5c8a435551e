-- What `lay_run` asks for; what it tells and leaves the check finds by the laws of proofs/Imports.antt.
use Rattle.octree.proofs.Imports.{run_laws}
use Rattle.octree.proofs.runs.+lay_run.Goals as goal

pub bounds-octree-at : goal.bounds-octree-at
bounds-octree-at t c = search run_laws

pub overflow_sub-left : goal.overflow_sub-left
overflow_sub-left t c = search run_laws

pub lay_run-requires : goal.lay_run-requires
lay_run-requires t c = search run_laws

pub overflow_add-result : goal.overflow_add-result
overflow_add-result t c = search run_laws

pub lay_run-high-requires : goal.lay_run-high-requires
lay_run-high-requires t c = search run_laws
