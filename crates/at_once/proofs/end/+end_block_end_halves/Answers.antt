-- `end_block` and `end_halves` better a frame by a block: nothing of one that has no better frame in the window, its word's end where it has few levels left,
-- and else by the mark of what is carried into it; of an undecided one by both halves, the one first whose frames come first as they are sought. What is
-- changed of the low places, of the sides and of the values is put back, and the codes that are carried into it stay.
use Prim.Native.Nat.{◌+◌, ◌≤◌}
use native.Mathlib.Omega.{arith}
use mathlib.Core.Path.{refl, ◌∙◌}
use Rattle.at_once.proofs.Jobs.{axis_within, last_axis, place_in, some_axis, wide_some}
use Rattle.at_once.proofs.Jobs.{prune_job, below_same, put_same, pruned_back, left_job}
use Rattle.at_once.proofs.Counting.{opened_back}
use Rattle.at_once.proofs.Betters.{end_missed, end_known, end_black, end_white, end_opened, sooner_job, later_job, ends_both, ends_back}
use Rattle.at_once.proofs.Betters.{as_bettered}
use Rattle.at_once.proofs.BothWords.{words_job}
use Rattle.at_once.proofs.Rooms.{same_itself}
use Rattle.at_once.proofs.Moving.{unmoved, kept_values, raise_job}
use Rattle.at_once.proofs.Orders.{turn_few, sooner, sooner_values, across_job, later, later_values, last_job, all_back}
use Rattle.at_once.proofs.end.+end_block_end_halves.Goals as goal

-- ---- `end_block`

pub end_block-overflow_sub-frame_axis : goal.end_block-overflow_sub-frame_axis
end_block-overflow_sub-frame_axis t c = some_axis c.requires.fact

pub end_block-offset_bounds-low-frame_axis : goal.end_block-offset_bounds-low-frame_axis
end_block-offset_bounds-low-frame_axis t c = omega (arith, last_axis c.requires.fact)

pub end_block-bounds-low-frame_axis : goal.end_block-bounds-low-frame_axis
end_block-bounds-low-frame_axis t c = omega (arith, last_axis c.requires.fact)

pub end_block-offset_bounds-side-frame_axis : goal.end_block-offset_bounds-side-frame_axis
end_block-offset_bounds-side-frame_axis t c = omega (arith, last_axis c.requires.fact)

pub end_block-bounds-side-frame_axis : goal.end_block-bounds-side-frame_axis
end_block-bounds-side-frame_axis t c = omega (arith, last_axis c.requires.fact)

pub end_block-overflow_sub-wide : goal.end_block-overflow_sub-wide
end_block-overflow_sub-wide t c = wide_some c.requires.fact

pub end_block-returns-then-end-begin : goal.end_block-returns-then-end-begin
end_block-returns-then-end-begin t c = record {
  fact_2 = λ job. end_missed job c.args.first c.args.last c.args.backward c.args.known c.max-begin.ensures c.min-end.ensures c.if-end-begin.true;
  put_back = put_same;
  shelves_2 = c.requires.shelves;
  both_shelves_2 = c.requires.both_shelves;
  unmoved = unmoved;
}

pub end_block-returns-then-best-known : goal.end_block-returns-then-best-known
end_block-returns-then-best-known t c = record {
  fact_2 = λ job. end_known job c.args.first c.args.last c.args.backward c.args.known c.max-begin.ensures c.min-end.ensures
      c.chosen-seen.ensures c.better-best.ensures c.if-best-known.true;
  put_back = put_same;
  shelves_2 = c.requires.shelves;
  both_shelves_2 = c.requires.both_shelves;
  unmoved = unmoved;
}

pub end_block-end_word-requires : goal.end_block-end_word-requires
end_block-end_word-requires t c = record {
  fact = c.requires.fact;
  left_le_word_levels = c.if-left.true;
  right_values = c.requires.values_at.right;
}

pub end_block-returns-then-left : goal.end_block-returns-then-left
end_block-returns-then-left t c = record {
  fact_2 = c.end_word.ensures;
  put_back = put_same;
  shelves_2 = c.requires.shelves;
  both_shelves_2 = c.requires.both_shelves;
  unmoved = unmoved;
}

pub end_block-prune-kept-requires : goal.end_block-prune-kept-requires
end_block-prune-kept-requires t c =
    let two : 2 ≤ c.args.left + 1 = omega (arith, c.if-left.false) in
    record {
      fact = prune_job c.requires.fact two;
      shelves = c.requires.shelves;
      right_values = c.requires.values_at.right;
    }

pub end_block-shape_of-codes-then-mark-eq-WHITE_BIT : goal.end_block-shape_of-codes-then-mark-eq-WHITE_BIT
end_block-shape_of-codes-then-mark-eq-WHITE_BIT t c =
    let j = c.requires.fact in
    let two : 2 ≤ c.args.left + 1 = omega (arith, c.if-left.false) in
    (below_same j two (c.prune-kept.ensures.fact_2 (prune_job j two))).long

pub end_block-returns-then-mark-eq-WHITE_BIT : goal.end_block-returns-then-mark-eq-WHITE_BIT
end_block-returns-then-mark-eq-WHITE_BIT t c =
    let j = c.requires.fact in
    let two : 2 ≤ c.args.left + 1 = omega (arith, c.if-left.false) in
    let e = c.prune-kept.ensures in
    record {
      fact_2 = λ job. end_white job c.args.first c.args.last c.args.backward c.args.known two (e.fact_2 (prune_job job two)) c.if-mark-eq-WHITE_BIT.true;
      put_back = pruned_back j two (e.fact_2 (prune_job j two));
      shelves_2 = e.shelves_2;
      both_shelves_2 = c.requires.both_shelves;
      unmoved = unmoved;
    }

pub end_block-shape_of-codes-then-mark-eq-BLACK_BIT : goal.end_block-shape_of-codes-then-mark-eq-BLACK_BIT
end_block-shape_of-codes-then-mark-eq-BLACK_BIT t c =
    let j = c.requires.fact in
    let two : 2 ≤ c.args.left + 1 = omega (arith, c.if-left.false) in
    (below_same j two (c.prune-kept.ensures.fact_2 (prune_job j two))).long

pub end_block-returns-then-mark-eq-BLACK_BIT : goal.end_block-returns-then-mark-eq-BLACK_BIT
end_block-returns-then-mark-eq-BLACK_BIT t c =
    let j = c.requires.fact in
    let two : 2 ≤ c.args.left + 1 = omega (arith, c.if-left.false) in
    let e = c.prune-kept.ensures in
    record {
      fact_2 = λ job. end_black job c.args.first c.args.last c.args.backward c.args.known c.max-begin.ensures c.min-end.ensures
          c.chosen-seen.ensures c.better-best.ensures c.if-end-begin.false two (e.fact_2 (prune_job job two)) c.if-mark-eq-BLACK_BIT.true;
      put_back = pruned_back j two (e.fact_2 (prune_job j two));
      shelves_2 = e.shelves_2;
      both_shelves_2 = c.requires.both_shelves;
      unmoved = unmoved;
    }

pub end_block-overflow_add-from : goal.end_block-overflow_add-from
end_block-overflow_add-from t c =
    let j = c.requires.fact in
    omega (arith, j.carrying.inside, j.bounded)

pub end_block-end_halves-requires : goal.end_block-end_halves-requires
end_block-end_halves-requires t c =
    let j = c.requires.fact in
    let two : 2 ≤ c.args.left + 1 = omega (arith, c.if-left.false) in
    let e = c.prune-kept.ensures in
    let pr = e.fact_2 (prune_job j two) in (
      omega (arith, c.decreases),
      (
        left_job j two pr c.if-mark-eq-WHITE_BIT.false c.if-mark-eq-BLACK_BIT.false c.args.left refl,
        (
          omega (arith, two),
          (
            e.shelves_2,
            (
              c.requires.both_shelves,
              kept_values (prune_job j two) pr c.requires.values_at,
            ),
          ),
        ),
      ),
    )

pub end_block-shape_of-codes : goal.end_block-shape_of-codes
end_block-shape_of-codes t c =
    let j = c.requires.fact in
    let two : 2 ≤ c.args.left + 1 = omega (arith, c.if-left.false) in
    c.end_halves.ensures.put_back.below.long ∙ (below_same j two (c.prune-kept.ensures.fact_2 (prune_job j two))).long

pub end_block-returns : goal.end_block-returns
end_block-returns t c =
    let j = c.requires.fact in
    let two : 2 ≤ c.args.left + 1 = omega (arith, c.if-left.false) in
    let w = c.if-mark-eq-WHITE_BIT.false in
    let b = c.if-mark-eq-BLACK_BIT.false in
    let e = c.prune-kept.ensures.fact_2 in
    let f = c.end_halves.ensures in
    record {
      fact_2 = λ job. let q = e (prune_job job two) in
          end_opened job c.args.first c.args.last c.args.backward c.args.known two q w b c.args.left refl
          (f.fact_2 (left_job job two q w b c.args.left refl));
      put_back = opened_back j c.args.first c.args.last two (e (prune_job j two)) w b c.args.left refl f.put_back;
      shelves_2 = f.shelves_2;
      both_shelves_2 = f.both_shelves_2;
      unmoved = f.unmoved;
    }

-- ---- `end_halves`

pub end_halves-offset_bounds-table-left : goal.end_halves-offset_bounds-table-left
end_halves-offset_bounds-table-left t c = omega (arith, place_in c.requires.fact c.requires.le_left)

pub end_halves-bounds-table-left : goal.end_halves-bounds-table-left
end_halves-bounds-table-left t c = omega (arith, place_in c.requires.fact c.requires.le_left)

pub end_halves-offset_bounds-low-axis : goal.end_halves-offset_bounds-low-axis
end_halves-offset_bounds-low-axis t c = omega (arith, axis_within c.requires.fact c.requires.le_left)

pub end_halves-bounds-low-axis : goal.end_halves-bounds-low-axis
end_halves-bounds-low-axis t c = omega (arith, axis_within c.requires.fact c.requires.le_left)

pub end_halves-offset_bounds-side-axis : goal.end_halves-offset_bounds-side-axis
end_halves-offset_bounds-side-axis t c = omega (arith, axis_within c.requires.fact c.requires.le_left)

pub end_halves-bounds-side-axis : goal.end_halves-bounds-side-axis
end_halves-bounds-side-axis t c = omega (arith, axis_within c.requires.fact c.requires.le_left)

pub end_halves-offset_bounds-side-axis-2 : goal.end_halves-offset_bounds-side-axis-2
end_halves-offset_bounds-side-axis-2 t c = omega (arith, axis_within c.requires.fact c.requires.le_left)

pub end_halves-bounds-side-axis-2 : goal.end_halves-bounds-side-axis-2
end_halves-bounds-side-axis-2 t c = omega (arith, axis_within c.requires.fact c.requires.le_left)

pub end_halves-offset_bounds-low-axis-2 : goal.end_halves-offset_bounds-low-axis-2
end_halves-offset_bounds-low-axis-2 t c = omega (arith, axis_within c.requires.fact c.requires.le_left)

pub end_halves-bounds-low-axis-2 : goal.end_halves-bounds-low-axis-2
end_halves-bounds-low-axis-2 t c = omega (arith, axis_within c.requires.fact c.requires.le_left)

pub end_halves-offset_bounds-low-axis-3 : goal.end_halves-offset_bounds-low-axis-3
end_halves-offset_bounds-low-axis-3 t c = omega (arith, axis_within c.requires.fact c.requires.le_left)

pub end_halves-bounds-low-axis-3 : goal.end_halves-bounds-low-axis-3
end_halves-bounds-low-axis-3 t c = omega (arith, axis_within c.requires.fact c.requires.le_left)

pub end_halves-offset_bounds-low-axis-4 : goal.end_halves-offset_bounds-low-axis-4
end_halves-offset_bounds-low-axis-4 t c = omega (arith, axis_within c.requires.fact c.requires.le_left)

pub end_halves-bounds-low-axis-4 : goal.end_halves-bounds-low-axis-4
end_halves-bounds-low-axis-4 t c = omega (arith, axis_within c.requires.fact c.requires.le_left)

pub end_halves-offset_bounds-side-axis-3 : goal.end_halves-offset_bounds-side-axis-3
end_halves-offset_bounds-side-axis-3 t c = omega (arith, axis_within c.requires.fact c.requires.le_left)

pub end_halves-bounds-side-axis-3 : goal.end_halves-bounds-side-axis-3
end_halves-bounds-side-axis-3 t c = omega (arith, axis_within c.requires.fact c.requires.le_left)

pub end_halves-end_words-requires : goal.end_halves-end_words-requires
end_halves-end_words-requires t c = record {
  fact = words_job c.if-left.true c.requires.fact;
  both_shelves = c.requires.both_shelves;
  right_values = c.requires.values_at.right;
}

pub end_halves-returns-then-balls-eq0 : goal.end_halves-returns-then-balls-eq0
end_halves-returns-then-balls-eq0 t c =
    let e = c.end_words.ensures in
    record {
      fact_2 = as_bettered c.args.first c.args.last c.args.backward c.args.known c.if-left.true e.fact_2;
      put_back = e.put_back;
      shelves_2 = c.requires.shelves;
      both_shelves_2 = e.both_shelves_2;
      unmoved = unmoved;
    }

pub end_halves-move_where-requires : goal.end_halves-move_where-requires
end_halves-move_where-requires t c =
    λ e. raise_job c.requires.fact c.requires.le_left c.requires.values_at same_itself unmoved

pub end_halves-end_block-sooner-requires : goal.end_halves-end_block-sooner-requires
end_halves-end_block-sooner-requires t c =
    let j = c.requires.fact in
    let some = c.requires.le_left in
    let at = c.requires.values_at in
    let way = sooner j some at c.args.backward c.move_where.ensures.moved c.move_where.ensures.unmoved c.turned-turn.ensures in (
      omega (arith, c.decreases, some),
      (
        sooner_job j some c.args.first c.args.last c.args.backward c.args.known c.chosen.ensures,
        (
          c.requires.shelves,
          (
            c.requires.both_shelves,
            sooner_values j some at way c.chosen.ensures,
          ),
        ),
      ),
    )

pub end_halves-move_values-requires : goal.end_halves-move_values-requires
end_halves-move_values-requires t c =
    let j = c.requires.fact in
    let some = c.requires.le_left in
    let at = c.requires.values_at in
    let e = c.end_block-sooner.ensures in
    let way = sooner j some at c.args.backward c.move_where.ensures.moved c.move_where.ensures.unmoved c.turned-turn.ensures in
    across_job j some at way e.put_back.below e.unmoved

pub end_halves-overflow_sub-turn : goal.end_halves-overflow_sub-turn
end_halves-overflow_sub-turn t c =
    turn_few c.args.backward c.turned-turn.ensures c.requires.values_at.is_round

pub end_halves-end_block-later-requires : goal.end_halves-end_block-later-requires
end_halves-end_block-later-requires t c =
    let j = c.requires.fact in
    let some = c.requires.le_left in
    let at = c.requires.values_at in
    let e = c.end_block-sooner.ensures in
    let way = sooner j some at c.args.backward c.move_where.ensures.moved c.move_where.ensures.unmoved c.turned-turn.ensures in
    let after = later j some at way e.put_back.below e.unmoved c.move_values.ensures in (
      omega (arith, c.decreases, some),
      (
        later_job j some c.args.first c.args.last c.args.backward c.args.known c.chosen.ensures e.fact_2 e.put_back c.chosen-2.ensures,
        (
          e.shelves_2,
          (
            e.both_shelves_2,
            later_values j some at after e.put_back.below c.chosen.ensures e.put_back.lows c.chosen-2.ensures,
          ),
        ),
      ),
    )

pub end_halves-overflow_sub-turn-2 : goal.end_halves-overflow_sub-turn-2
end_halves-overflow_sub-turn-2 t c =
    turn_few c.args.backward c.turned-turn.ensures c.requires.values_at.is_round

pub end_halves-move_where-requires-2 : goal.end_halves-move_where-requires-2
end_halves-move_where-requires-2 t c =
    let j = c.requires.fact in
    let some = c.requires.le_left in
    let at = c.requires.values_at in
    let e = c.end_block-sooner.ensures in
    let f = c.end_block-later.ensures in
    let way = sooner j some at c.args.backward c.move_where.ensures.moved c.move_where.ensures.unmoved c.turned-turn.ensures in
    let after = later j some at way e.put_back.below e.unmoved c.move_values.ensures in
    last_job j some at after e.put_back.below f.put_back.below f.unmoved

pub end_halves-shape_of-codes : goal.end_halves-shape_of-codes
end_halves-shape_of-codes t c =
    c.end_block-later.ensures.put_back.below.long ∙ c.end_block-sooner.ensures.put_back.below.long

pub end_halves-returns : goal.end_halves-returns
end_halves-returns t c =
    let j = c.requires.fact in
    let some = c.requires.le_left in
    let at = c.requires.values_at in
    let e = c.end_block-sooner.ensures in
    let f = c.end_block-later.ensures in
    let way = sooner j some at c.args.backward c.move_where.ensures.moved c.move_where.ensures.unmoved c.turned-turn.ensures in
    let after = later j some at way e.put_back.below e.unmoved c.move_values.ensures in
    record {
      fact_2 = λ job. ends_both job some c.args.first c.args.last c.args.backward c.args.known c.chosen.ensures e.fact_2 e.put_back c.chosen-2.ensures
          f.fact_2 f.put_back;
      put_back = ends_back j some c.args.first c.args.last c.args.backward c.args.known c.chosen.ensures e.fact_2 e.put_back c.chosen-2.ensures f.fact_2
          f.put_back;
      shelves_2 = f.shelves_2;
      both_shelves_2 = f.both_shelves_2;
      unmoved = all_back j some at after e.put_back.below f.put_back.below f.unmoved c.move_where-2.ensures.moved c.move_where-2.ensures.unmoved;
    }
