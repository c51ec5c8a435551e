-- Each answer is a law of proofs/Places.antt.
use mathlib.Core.Path.{◌∙◌}
use Rattle.bintree.proofs.Places.{all_none, all_ordered, all_some}
use Rattle.bintree.proofs.place.all.Goals as goal

pub returns-in_err-end : goal.returns-in_err-end
returns-in_err-end c = c.from_residual.ensures ∙ all_none _ _ c.in_err-end.ensures

pub overflow_sub-result : goal.overflow_sub-result
overflow_sub-result c = all_ordered _ _ _ c.in_ok-end.ensures

pub returns : goal.returns
returns c = all_some _ _ _ c.in_ok-end.ensures
