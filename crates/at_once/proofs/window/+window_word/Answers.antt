-- `window_word` by its halves, with one level less in each.
use Prim.Native.Nat.{◌+◌, ◌-◌}
use native.Mathlib.Omega.{arith}
use lib.ListN.{get_or}
use Rattle.at_once.proofs.Halvings.{word_place, length_short, fewer}
use Rattle.at_once.proofs.Windows.{window_none, window_fits, gives_alike, gives_across}
use Rattle.at_once.proofs.window.+window_word.Goals as goal

pub returns-then-left-eq0 : goal.returns-then-left-eq0
returns-then-left-eq0 t c =
    λ h. window_none c.args.first c.args.last h.universe c.args.frame c.if-left-eq0.true c.is_between.ensures

pub overflow_sub-n : goal.overflow_sub-n
overflow_sub-n t c = omega arith

pub window_word-low-requires : goal.window_word-low-requires
window_word-low-requires t c = (omega (arith, c.decreases), (fewer c.requires.halvings c.if-left-eq0.false, omega (arith, c.requires.longest_side_bound)))

pub offset_bounds-table-j : goal.offset_bounds-table-j
offset_bounds-table-j t c = omega (arith, word_place c.requires.halvings c.if-left-eq0.false)

pub bounds-table-j : goal.bounds-table-j
bounds-table-j t c = omega (arith, word_place c.requires.halvings c.if-left-eq0.false)

pub side_by_side-requires : goal.side_by_side-requires
side_by_side-requires t c =
    record {
      n_lt_word_levels = word_place c.requires.halvings c.if-left-eq0.false;
      low_bound = window_fits c.args.first c.args.last c.requires.halvings.universe (c.args.left - 1) c.args.frame
          (c.window_word-low.ensures (fewer c.requires.halvings c.if-left-eq0.false));
      high_bound = window_fits c.args.first c.args.last c.requires.halvings.universe
          (c.args.left - 1) c.args.frame (c.window_word-low.ensures (fewer c.requires.halvings c.if-left-eq0.false));
    }

pub returns-then-table-j : goal.returns-then-table-j
returns-then-table-j t c =
    λ h. gives_alike h c.if-left-eq0.false c.args.first c.args.last c.args.frame (c.window_word-low.ensures (fewer h c.if-left-eq0.false))
    c.if-table-j.true c.side_by_side.ensures

pub offset_bounds-lengths-j : goal.offset_bounds-lengths-j
offset_bounds-lengths-j t c = omega (arith, word_place c.requires.halvings c.if-left-eq0.false)

pub bounds-lengths-j : goal.bounds-lengths-j
bounds-lengths-j t c = word_place c.requires.halvings c.if-left-eq0.false

pub overflow_add-frame : goal.overflow_add-frame
overflow_add-frame t c =
    omega (arith, length_short c.requires.halvings c.if-left-eq0.false, c.requires.longest_side_bound)

pub window_word-high-requires : goal.window_word-high-requires
window_word-high-requires t c = (
  omega (arith, c.decreases, c.if-left-eq0.false),
  (fewer c.requires.halvings c.if-left-eq0.false, omega (arith, length_short c.requires.halvings c.if-left-eq0.false, c.requires.longest_side_bound)),
)

pub side_by_side-requires-2 : goal.side_by_side-requires-2
side_by_side-requires-2 t c =
    record {
      n_lt_word_levels = word_place c.requires.halvings c.if-left-eq0.false;
      low_bound = window_fits c.args.first c.args.last c.requires.halvings.universe (c.args.left - 1) c.args.frame
          (c.window_word-low.ensures (fewer c.requires.halvings c.if-left-eq0.false));
      high_bound = window_fits c.args.first c.args.last c.requires.halvings.universe
          (c.args.left - 1) (c.args.frame + get_or c.args.lengths.now (c.args.left - 1) 0)
          (c.window_word-high.ensures (fewer c.requires.halvings c.if-left-eq0.false));
    }

pub returns : goal.returns
returns t c =
    λ h. gives_across h c.if-left-eq0.false c.args.first c.args.last c.args.frame (c.window_word-low.ensures (fewer h c.if-left-eq0.false))
    c.if-table-j.false (c.window_word-high.ensures (fewer h c.if-left-eq0.false)) c.side_by_side-2.ensures
