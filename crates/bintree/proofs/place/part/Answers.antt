-- The place is inside the expression, so that the cut is there. Each answer is a law of proofs/Places.antt.
use native.Mathlib.Nat.{zero-add}
use native.Mathlib.Omega.{arith}
use Rattle.bintree.proofs.Places.{cut_within, cut_answer, cut_points, part_laws}
use Rattle.bintree.proofs.place.part.Goals as goal

pub returns-in_default-clause-result_value : goal.returns-in_default-clause-result_value
returns-in_default-clause-result_value c = cut_answer _ _ _ _ c.in_default.ensures

pub returns-in_default-clause-ref_ptr_value : goal.returns-in_default-clause-ref_ptr_value
returns-in_default-clause-ref_ptr_value c = rw zero-add at (cut_points _ c.args.expression _ _ c.in_default.ensures)

pub overflow_add-end : goal.overflow_add-end
overflow_add-end c = omega (arith, cut_within _ _ _ _ c.in-Ok.ensures)

pub slice_bounds-result-end-2 : goal.slice_bounds-result-end-2
slice_bounds-result-end-2 c = search part_laws

pub returns-clause-result_value : goal.returns-clause-result_value
returns-clause-result_value c = cut_answer _ _ _ _ c.in-Ok.ensures

pub returns-clause-ref_ptr_value : goal.returns-clause-ref_ptr_value
returns-clause-ref_ptr_value c = cut_points _ c.args.expression _ _ c.in-Ok.ensures
