-- `fill_list` leaves the counts of a list. Each answer is a law of proofs/FillingLists.antt.
use Rattle.report.proofs.FillingLists.{list_axes, list_first, list_tree, list_less, list_next, list_done}
use Rattle.report.proofs.row.fill_list.Goals as goal

pub overflow_sub-window : goal.overflow_sub-window
overflow_sub-window c = list_axes _ _ _ c.requires

pub loop-at-init : goal.loop-at-init
loop-at-init c =
    list_first _ _ _ c.requires _ _ _ _ _ c.axes_left-axes.ensures c.levels-levels.ensures c.bits_along-bits.ensures c.frames.ensures c.clear.ensures

pub fill-at-requires : goal.fill-at-requires
fill-at-requires c = list_tree _ _ _ _ _ _ _ _ c.loop-at.invariant c.loop-at-test.true

pub loop-at-smaller : goal.loop-at-smaller
loop-at-smaller c = list_less _ _ _ _ _ _ _ _ c.loop-at.invariant c.loop-at-test.true _ _ c.fill-at.ensures

pub loop-at-preserved : goal.loop-at-preserved
loop-at-preserved c = list_next _ _ _ _ _ _ _ _ c.loop-at.invariant c.loop-at-test.true _ _ c.fill-at.ensures

pub returns : goal.returns
returns c = list_done _ _ _ _ _ _ _ _ c.loop-at.invariant _ _ c.frames.ensures c.clear.ensures c.loop-at-test.false
