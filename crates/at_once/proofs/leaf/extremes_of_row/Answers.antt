-- `extremes_of_row`: the value at the low end, with what falls and with what rises along the sides, which are the lengths by doublings.
use mathlib.Core.Path.{◌∙◌}
use Rattle.at_once.proofs.Values.{along_needs, along_sides, fall_sides, least_fits, rise_fits, greatest_fits, found}
use Rattle.at_once.proofs.leaf.extremes_of_row.Goals as goal

pub bounds-values-i : goal.bounds-values-i
bounds-values-i c = c.requires.value.few

pub sum_along-all-requires : goal.sum_along-all-requires
sum_along-all-requires c = let a = along_needs c.requires in record { row_named = a.0; small_times = a.1 }

pub fall_along-fall-requires : goal.fall_along-fall-requires
fall_along-fall-requires c = let a = along_needs c.requires in record { row_named = a.0; small_times = a.1 }

pub overflow_add-result : goal.overflow_add-result
overflow_add-result c =
    least_fits c.requires.over c.requires.value.value_is (c.sum_along-all.ensures ∙ along_sides c.requires) (c.fall_along-fall.ensures ∙ fall_sides c.requires)

pub overflow_sub-result : goal.overflow_sub-result
overflow_sub-result c =
    rise_fits c.requires.over c.requires.value.value_is (c.sum_along-all.ensures ∙ along_sides c.requires) (c.fall_along-fall.ensures ∙ fall_sides c.requires)

pub overflow_add-result-2 : goal.overflow_add-result-2
overflow_add-result-2 c =
    greatest_fits c.requires.over c.requires.value.value_is (c.sum_along-all.ensures ∙ along_sides c.requires)
    (c.fall_along-fall.ensures ∙ fall_sides c.requires)

pub returns : goal.returns
returns c = λ j. found j.over j.value.value_is (c.sum_along-all.ensures ∙ along_sides j) (c.fall_along-fall.ensures ∙ fall_sides j)
