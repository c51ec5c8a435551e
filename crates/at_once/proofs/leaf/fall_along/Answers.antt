-- `fall_along`: what falls along each axis, added up.
use lib.Dec.{lit<}
use Rattle.at_once.proofs.RowValues.{two_fits, three_fits, four_fits, four_are}
use Rattle.at_once.proofs.Values.{falls_along, fall_small}
use Rattle.at_once.proofs.leaf.fall_along.Goals as goal

pub overflow_add-result : goal.overflow_add-result
overflow_add-result c =
    let k = c.requires.row_named in
    let s = c.requires.small_times.short in
    two_fits (fall_small k s)
    (falls_along k s 0 (lit< tt) c.along.ensures c.min-first.ensures.value)
    (falls_along k s 1 (lit< tt) c.along-2.ensures c.min-second.ensures.value)
    (falls_along k s 2 (lit< tt) c.along-3.ensures c.min-third.ensures.value)
    (falls_along k s 3 (lit< tt) c.along-4.ensures c.min-fourth.ensures.value)

pub overflow_add-result-2 : goal.overflow_add-result-2
overflow_add-result-2 c =
    let k = c.requires.row_named in
    let s = c.requires.small_times.short in
    three_fits (fall_small k s)
    (falls_along k s 0 (lit< tt) c.along.ensures c.min-first.ensures.value)
    (falls_along k s 1 (lit< tt) c.along-2.ensures c.min-second.ensures.value)
    (falls_along k s 2 (lit< tt) c.along-3.ensures c.min-third.ensures.value)
    (falls_along k s 3 (lit< tt) c.along-4.ensures c.min-fourth.ensures.value)

pub overflow_add-result-3 : goal.overflow_add-result-3
overflow_add-result-3 c =
    let k = c.requires.row_named in
    let s = c.requires.small_times.short in
    four_fits (fall_small k s)
    (falls_along k s 0 (lit< tt) c.along.ensures c.min-first.ensures.value)
    (falls_along k s 1 (lit< tt) c.along-2.ensures c.min-second.ensures.value)
    (falls_along k s 2 (lit< tt) c.along-3.ensures c.min-third.ensures.value)
    (falls_along k s 3 (lit< tt) c.along-4.ensures c.min-fourth.ensures.value)

pub returns : goal.returns
returns c =
    let k = c.requires.row_named in
    let s = c.requires.small_times.short in
    four_are (fall_small k s)
    (falls_along k s 0 (lit< tt) c.along.ensures c.min-first.ensures.value)
    (falls_along k s 1 (lit< tt) c.along-2.ensures c.min-second.ensures.value)
    (falls_along k s 2 (lit< tt) c.along-3.ensures c.min-third.ensures.value)
    (falls_along k s 3 (lit< tt) c.along-4.ensures c.min-fourth.ensures.value)
