-- `count_block` and `count_halves` join a block to a contact: nothing of one that has no frame in the window, its word's ends and ones where it has few levels
-- left, and else by the mark of what is carried into it; of an undecided one both halves, the second to what the first comes to. What is changed of the low
-- places, of the sides and of the values is put back, and the codes that are carried into it stay.
use Prim.Native.Nat.{◌+◌, ◌≤◌}
use native.Mathlib.Omega.{arith}
use mathlib.Core.Path.{refl, ◌∙◌}
use Rattle.at_once.proofs.Jobs.{last_axis, place_in, some_axis, wide_some}
use Rattle.at_once.proofs.Jobs.{black_frames, prune_job, below_same, put_same, pruned_back, axis_within}
use Rattle.at_once.proofs.Jobs.{near_fits}
use Rattle.at_once.proofs.Counting.{count_missed, count_white, black_fits, count_black_lem, count_left, count_opened, opened_back, count_lower, count_upper}
use Rattle.at_once.proofs.Counting.{count_both, both_back, counts_job, as_counted}
use Rattle.at_once.proofs.Moving.{unmoved, kept_values, raise_job, back_job, back, high_values}
use Rattle.at_once.proofs.count.+count_block_count_halves.Goals as goal

-- ---- `count_block`

pub count_block-overflow_sub-frame_axis : goal.count_block-overflow_sub-frame_axis
count_block-overflow_sub-frame_axis t c = some_axis c.requires.fact.block

pub count_block-offset_bounds-low-frame_axis : goal.count_block-offset_bounds-low-frame_axis
count_block-offset_bounds-low-frame_axis t c = omega (arith, last_axis c.requires.fact.block)

pub count_block-bounds-low-frame_axis : goal.count_block-bounds-low-frame_axis
count_block-bounds-low-frame_axis t c = omega (arith, last_axis c.requires.fact.block)

pub count_block-offset_bounds-side-frame_axis : goal.count_block-offset_bounds-side-frame_axis
count_block-offset_bounds-side-frame_axis t c = omega (arith, last_axis c.requires.fact.block)

pub count_block-bounds-side-frame_axis : goal.count_block-bounds-side-frame_axis
count_block-bounds-side-frame_axis t c = omega (arith, last_axis c.requires.fact.block)

pub count_block-overflow_sub-wide : goal.count_block-overflow_sub-wide
count_block-overflow_sub-wide t c = wide_some c.requires.fact.block

pub count_block-returns-then-end-begin : goal.count_block-returns-then-end-begin
count_block-returns-then-end-begin t c = record {
  fact_2 = λ job. count_missed job.block c.args.first c.args.last c.max-begin.ensures c.min-end.ensures c.if-end-begin.true c.args.contact;
  put_back = put_same;
  shelves_2 = c.requires.shelves;
  both_shelves_2 = c.requires.both_shelves;
  unmoved = unmoved;
}

pub count_block-count_word-requires : goal.count_block-count_word-requires
count_block-count_word-requires t c = record {
  fact = c.requires.fact;
  left_le_word_levels = c.if-left.true;
  right_values = c.requires.values_at.right;
}

pub count_block-returns-then-left : goal.count_block-returns-then-left
count_block-returns-then-left t c = record {
  fact_2 = c.count_word.ensures;
  put_back = put_same;
  shelves_2 = c.requires.shelves;
  both_shelves_2 = c.requires.both_shelves;
  unmoved = unmoved;
}

pub count_block-prune-kept-requires : goal.count_block-prune-kept-requires
count_block-prune-kept-requires t c =
    let two : 2 ≤ c.args.left + 1 = omega (arith, c.if-left.false) in
    record {
      fact = prune_job c.requires.fact.block two;
      shelves = c.requires.shelves;
      right_values = c.requires.values_at.right;
    }

pub count_block-shape_of-codes-then-mark-eq-WHITE_BIT : goal.count_block-shape_of-codes-then-mark-eq-WHITE_BIT
count_block-shape_of-codes-then-mark-eq-WHITE_BIT t c =
    let j = c.requires.fact in
    let two : 2 ≤ c.args.left + 1 = omega (arith, c.if-left.false) in
    (below_same j.block two (c.prune-kept.ensures.fact_2 (prune_job j.block two))).long

pub count_block-returns-then-mark-eq-WHITE_BIT : goal.count_block-returns-then-mark-eq-WHITE_BIT
count_block-returns-then-mark-eq-WHITE_BIT t c =
    let j = c.requires.fact in
    let two : 2 ≤ c.args.left + 1 = omega (arith, c.if-left.false) in
    let e = c.prune-kept.ensures in
    record {
      fact_2 = λ job. count_white job.block c.args.first c.args.last two (e.fact_2 (prune_job job.block two)) c.if-mark-eq-WHITE_BIT.true c.args.contact;
      put_back = pruned_back j.block two (e.fact_2 (prune_job j.block two));
      shelves_2 = e.shelves_2;
      both_shelves_2 = c.requires.both_shelves;
      unmoved = unmoved;
    }

pub count_block-voxels_of-requires : goal.count_block-voxels_of-requires
count_block-voxels_of-requires t c =
    black_frames c.requires.fact.block c.args.first c.args.last c.max-begin.ensures c.min-end.ensures c.if-end-begin.false

pub count_block-joined-requires : goal.count_block-joined-requires
count_block-joined-requires t c =
    let j = c.requires.fact in
    let two : 2 ≤ c.args.left + 1 = omega (arith, c.if-left.false) in
    black_fits j.block c.args.first c.args.last two (c.prune-kept.ensures.fact_2 (prune_job j.block two)) c.max-begin.ensures c.min-end.ensures
    c.if-end-begin.false c.if-mark-eq-BLACK_BIT.true c.args.contact c.voxels_of.ensures j.counts

pub count_block-shape_of-codes-then-mark-eq-BLACK_BIT : goal.count_block-shape_of-codes-then-mark-eq-BLACK_BIT
count_block-shape_of-codes-then-mark-eq-BLACK_BIT t c =
    let j = c.requires.fact in
    let two : 2 ≤ c.args.left + 1 = omega (arith, c.if-left.false) in
    (below_same j.block two (c.prune-kept.ensures.fact_2 (prune_job j.block two))).long

pub count_block-returns-then-mark-eq-BLACK_BIT : goal.count_block-returns-then-mark-eq-BLACK_BIT
count_block-returns-then-mark-eq-BLACK_BIT t c =
    let j = c.requires.fact in
    let two : 2 ≤ c.args.left + 1 = omega (arith, c.if-left.false) in
    let e = c.prune-kept.ensures in
    record {
      fact_2 = λ job. c.joined.ensures ∙ count_black_lem job.block c.args.first c.args.last two (e.fact_2 (prune_job job.block two)) c.max-begin.ensures
          c.min-end.ensures c.if-end-begin.false c.if-mark-eq-BLACK_BIT.true c.args.contact c.voxels_of.ensures;
      put_back = pruned_back j.block two (e.fact_2 (prune_job j.block two));
      shelves_2 = e.shelves_2;
      both_shelves_2 = c.requires.both_shelves;
      unmoved = unmoved;
    }

pub count_block-overflow_add-from : goal.count_block-overflow_add-from
count_block-overflow_add-from t c =
    let j = c.requires.fact in
    omega (arith, j.block.carrying.inside, j.block.bounded)

pub count_block-count_halves-requires : goal.count_block-count_halves-requires
count_block-count_halves-requires t c =
    let j = c.requires.fact in
    let two : 2 ≤ c.args.left + 1 = omega (arith, c.if-left.false) in
    let e = c.prune-kept.ensures in
    let pr = e.fact_2 (prune_job j.block two) in (
      omega (arith, c.decreases),
      (
        count_left j.block c.args.first c.args.last two pr c.if-mark-eq-WHITE_BIT.false c.if-mark-eq-BLACK_BIT.false c.args.left refl c.args.contact j.counts,
        (
          omega (arith, two),
          (
            e.shelves_2,
            (
              c.requires.both_shelves,
              kept_values (prune_job j.block two) pr c.requires.values_at,
            ),
          ),
        ),
      ),
    )

pub count_block-shape_of-codes : goal.count_block-shape_of-codes
count_block-shape_of-codes t c =
    let j = c.requires.fact in
    let two : 2 ≤ c.args.left + 1 = omega (arith, c.if-left.false) in
    c.count_halves.ensures.put_back.below.long ∙ (below_same j.block two (c.prune-kept.ensures.fact_2 (prune_job j.block two))).long

pub count_block-returns : goal.count_block-returns
count_block-returns t c =
    let j = c.requires.fact in
    let two : 2 ≤ c.args.left + 1 = omega (arith, c.if-left.false) in
    let w = c.if-mark-eq-WHITE_BIT.false in
    let b = c.if-mark-eq-BLACK_BIT.false in
    let first = c.args.first in
    let last = c.args.last in
    let e = c.prune-kept.ensures.fact_2 in
    let f = c.count_halves.ensures in
    record {
      fact_2 = λ job. let q = e (prune_job job.block two) in
          count_opened job.block first last two q w b c.args.left refl c.args.contact job.counts
          (f.fact_2 (count_left job.block first last two q w b c.args.left refl c.args.contact job.counts));
      put_back = opened_back j.block first last two (e (prune_job j.block two)) w b c.args.left refl f.put_back;
      shelves_2 = f.shelves_2;
      both_shelves_2 = f.both_shelves_2;
      unmoved = f.unmoved;
    }

-- ---- `count_halves`

pub count_halves-offset_bounds-table-left : goal.count_halves-offset_bounds-table-left
count_halves-offset_bounds-table-left t c = omega (arith, place_in c.requires.fact.block c.requires.le_left)

pub count_halves-bounds-table-left : goal.count_halves-bounds-table-left
count_halves-bounds-table-left t c = omega (arith, place_in c.requires.fact.block c.requires.le_left)

pub count_halves-offset_bounds-low-axis : goal.count_halves-offset_bounds-low-axis
count_halves-offset_bounds-low-axis t c = omega (arith, axis_within c.requires.fact.block c.requires.le_left)

pub count_halves-bounds-low-axis : goal.count_halves-bounds-low-axis
count_halves-bounds-low-axis t c = omega (arith, axis_within c.requires.fact.block c.requires.le_left)

pub count_halves-offset_bounds-side-axis : goal.count_halves-offset_bounds-side-axis
count_halves-offset_bounds-side-axis t c = omega (arith, axis_within c.requires.fact.block c.requires.le_left)

pub count_halves-bounds-side-axis : goal.count_halves-bounds-side-axis
count_halves-bounds-side-axis t c = omega (arith, axis_within c.requires.fact.block c.requires.le_left)

pub count_halves-offset_bounds-side-axis-2 : goal.count_halves-offset_bounds-side-axis-2
count_halves-offset_bounds-side-axis-2 t c = omega (arith, axis_within c.requires.fact.block c.requires.le_left)

pub count_halves-bounds-side-axis-2 : goal.count_halves-bounds-side-axis-2
count_halves-bounds-side-axis-2 t c = omega (arith, axis_within c.requires.fact.block c.requires.le_left)

pub count_halves-count_words-requires : goal.count_halves-count_words-requires
count_halves-count_words-requires t c = record {
  fact = counts_job c.if-left.true c.requires.fact;
  both_shelves = c.requires.both_shelves;
  right_values = c.requires.values_at.right;
}

pub count_halves-returns-then-left : goal.count_halves-returns-then-left
count_halves-returns-then-left t c =
    let e = c.count_words.ensures in
    record {
      fact_2 = as_counted c.if-left.true e.fact_2;
      put_back = e.put_back;
      shelves_2 = c.requires.shelves;
      both_shelves_2 = e.both_shelves_2;
      unmoved = unmoved;
    }

pub count_halves-count_block-below-requires : goal.count_halves-count_block-below-requires
count_halves-count_block-below-requires t c =
    let j = c.requires.fact in
    let some = c.requires.le_left in (
      omega (arith, c.decreases, some),
      (
        count_lower j some,
        (
          c.requires.shelves,
          (
            c.requires.both_shelves,
            c.requires.values_at,
          ),
        ),
      ),
    )

pub count_halves-overflow_add-low : goal.count_halves-overflow_add-low
count_halves-overflow_add-low t c =
    omega (arith, near_fits c.requires.fact.block c.requires.le_left)

pub count_halves-offset_bounds-low-axis-2 : goal.count_halves-offset_bounds-low-axis-2
count_halves-offset_bounds-low-axis-2 t c =
    omega (arith, axis_within c.requires.fact.block c.requires.le_left)

pub count_halves-bounds-low-axis-2 : goal.count_halves-bounds-low-axis-2
count_halves-bounds-low-axis-2 t c =
    omega (arith, axis_within c.requires.fact.block c.requires.le_left)

pub count_halves-move_values-requires : goal.count_halves-move_values-requires
count_halves-move_values-requires t c =
    let e = c.count_block-below.ensures in
    raise_job c.requires.fact.block c.requires.le_left c.requires.values_at e.put_back.below e.unmoved

pub count_halves-overflow_sub-left-2 : goal.count_halves-overflow_sub-left-2
count_halves-overflow_sub-left-2 t c =
    c.requires.le_left

pub count_halves-overflow_sub-round : goal.count_halves-overflow_sub-round
count_halves-overflow_sub-round t c =
    c.requires.values_at.is_round

pub count_halves-count_block-above-requires : goal.count_halves-count_block-above-requires
count_halves-count_block-above-requires t c =
    let j = c.requires.fact in
    let some = c.requires.le_left in
    let e = c.count_block-below.ensures in (
      omega (arith, c.decreases, some),
      (
        count_upper j some (e.fact_2 (count_lower j some)) e.put_back,
        (
          e.shelves_2,
          (
            e.both_shelves_2,
            high_values j.block some c.requires.values_at e.put_back e.unmoved c.move_values.ensures,
          ),
        ),
      ),
    )

pub count_halves-offset_bounds-low-axis-3 : goal.count_halves-offset_bounds-low-axis-3
count_halves-offset_bounds-low-axis-3 t c =
    omega (arith, axis_within c.requires.fact.block c.requires.le_left)

pub count_halves-bounds-low-axis-3 : goal.count_halves-bounds-low-axis-3
count_halves-bounds-low-axis-3 t c =
    omega (arith, axis_within c.requires.fact.block c.requires.le_left)

pub count_halves-offset_bounds-side-axis-3 : goal.count_halves-offset_bounds-side-axis-3
count_halves-offset_bounds-side-axis-3 t c =
    omega (arith, axis_within c.requires.fact.block c.requires.le_left)

pub count_halves-bounds-side-axis-3 : goal.count_halves-bounds-side-axis-3
count_halves-bounds-side-axis-3 t c =
    omega (arith, axis_within c.requires.fact.block c.requires.le_left)

pub count_halves-overflow_sub-round-2 : goal.count_halves-overflow_sub-round-2
count_halves-overflow_sub-round-2 t c =
    c.requires.values_at.is_round

pub count_halves-move_values-requires-2 : goal.count_halves-move_values-requires-2
count_halves-move_values-requires-2 t c =
    let e = c.count_block-below.ensures in
    let f = c.count_block-above.ensures in
    back_job c.requires.fact.block c.requires.le_left c.requires.values_at e.put_back.below e.unmoved c.move_values.ensures f.put_back.below
    f.unmoved

pub count_halves-shape_of-codes : goal.count_halves-shape_of-codes
count_halves-shape_of-codes t c =
    c.count_block-above.ensures.put_back.below.long ∙ c.count_block-below.ensures.put_back.below.long

pub count_halves-returns : goal.count_halves-returns
count_halves-returns t c =
    let j = c.requires.fact in
    let some = c.requires.le_left in
    let e = c.count_block-below.ensures in
    let f = c.count_block-above.ensures in
    record {
      fact_2 = λ job. count_both job some (e.fact_2 (count_lower job some)) e.put_back f.fact_2 f.put_back;
      put_back = both_back j some (e.fact_2 (count_lower j some)) e.put_back f.fact_2 f.put_back;
      shelves_2 = f.shelves_2;
      both_shelves_2 = f.both_shelves_2;
      unmoved = back j.block some c.requires.values_at e.put_back.below e.unmoved c.move_values.ensures f.put_back.below f.unmoved
          c.move_values-2.ensures;
    }
