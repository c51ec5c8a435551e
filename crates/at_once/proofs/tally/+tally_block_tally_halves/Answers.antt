-- `tally_block` and `tally_halves` count a block: nothing of one that has no frame in the window, its words' ones where it has few levels left, and else by the
-- mark of what is carried into it; of an undecided one both halves together. What is changed of the low places, of the sides and of the values is put back, and
-- the codes that are carried into it stay.
use Prim.Native.Nat.{◌+◌, ◌≤◌}
use native.Mathlib.Omega.{arith}
use mathlib.Core.Path.{refl, ◌∙◌}
use Rattle.at_once.proofs.Jobs.{some_axis}
use Rattle.at_once.proofs.Jobs.{last_axis, wide_some, frames_end, black_frames, prune_job, below_same, put_same, pruned_back, left_job}
use Rattle.at_once.proofs.Jobs.{axis_within, place_in, near_fits, lower_job}
use Rattle.at_once.proofs.Counting.{opened_back}
use Rattle.at_once.proofs.Moving.{unmoved, kept_values, raise_job, back_job, back, high_values}
use Rattle.at_once.proofs.Tallies.{tally_missed, tally_white, tally_black, tally_opened, tally_upper, small_below, small_above, tally_both}
use Rattle.at_once.proofs.Tallies.{both_back}
use Rattle.at_once.proofs.tally.+tally_block_tally_halves.Goals as goal

-- ---- `tally_block`

pub tally_block-overflow_sub-frame_axis : goal.tally_block-overflow_sub-frame_axis
tally_block-overflow_sub-frame_axis t c = some_axis c.requires.fact

pub tally_block-offset_bounds-low-frame_axis : goal.tally_block-offset_bounds-low-frame_axis
tally_block-offset_bounds-low-frame_axis t c =
    let j = c.requires.fact in omega (arith, last_axis j)

pub tally_block-bounds-low-frame_axis : goal.tally_block-bounds-low-frame_axis
tally_block-bounds-low-frame_axis t c =
    let j = c.requires.fact in omega (arith, last_axis j)

pub tally_block-offset_bounds-side-frame_axis : goal.tally_block-offset_bounds-side-frame_axis
tally_block-offset_bounds-side-frame_axis t c =
    let j = c.requires.fact in omega (arith, last_axis j)

pub tally_block-bounds-side-frame_axis : goal.tally_block-bounds-side-frame_axis
tally_block-bounds-side-frame_axis t c =
    let j = c.requires.fact in omega (arith, last_axis j)

pub tally_block-overflow_sub-wide : goal.tally_block-overflow_sub-wide
tally_block-overflow_sub-wide t c =
    let j = c.requires.fact in wide_some j

pub tally_block-overflow_add-frame : goal.tally_block-overflow_add-frame
tally_block-overflow_add-frame t c =
    let j = c.requires.fact in omega (arith, frames_end j, wide_some j)

pub tally_block-returns-then-end-begin : goal.tally_block-returns-then-end-begin
tally_block-returns-then-end-begin t c = record {
  fact_2 = λ job. tally_missed job c.args.first c.args.last c.max-begin.ensures c.min-end.ensures c.if-end-begin.true c.tally_of.ensures;
  put_back = put_same;
  tally_shelves_2 = c.requires.tally_shelves;
  unmoved = unmoved;
}

pub tally_block-tally_word-requires : goal.tally_block-tally_word-requires
tally_block-tally_word-requires t c = record {
  fact = c.requires.fact;
  left_le_word_levels = c.if-left.true;
  three_shelves = c.requires.tally_shelves.words;
  right_values = c.requires.values_at.right;
}

pub tally_block-returns-then-left : goal.tally_block-returns-then-left
tally_block-returns-then-left t c = record {
  fact_2 = c.tally_word.ensures.fact_2;
  put_back = put_same;
  tally_shelves_2 = record { pruning = c.requires.tally_shelves.pruning; words = c.tally_word.ensures.three_shelves_2 };
  unmoved = unmoved;
}

pub tally_block-prune-kept-requires : goal.tally_block-prune-kept-requires
tally_block-prune-kept-requires t c =
    let two : 2 ≤ c.args.left + 1 = omega (arith, c.if-left.false) in
    record {
      fact = prune_job c.requires.fact two;
      shelves = c.requires.tally_shelves.pruning;
      right_values = c.requires.values_at.right;
    }

pub tally_block-shape_of-codes-then-mark-eq-WHITE_BIT : goal.tally_block-shape_of-codes-then-mark-eq-WHITE_BIT
tally_block-shape_of-codes-then-mark-eq-WHITE_BIT t c =
    let j = c.requires.fact in
    let two : 2 ≤ c.args.left + 1 = omega (arith, c.if-left.false) in
    (below_same j two (c.prune-kept.ensures.fact_2 (prune_job j two))).long

pub tally_block-returns-then-mark-eq-WHITE_BIT : goal.tally_block-returns-then-mark-eq-WHITE_BIT
tally_block-returns-then-mark-eq-WHITE_BIT t c =
    let j = c.requires.fact in
    let two : 2 ≤ c.args.left + 1 = omega (arith, c.if-left.false) in
    let e = c.prune-kept.ensures in
    record {
      fact_2 = λ job. tally_white job c.args.first c.args.last two (e.fact_2 (prune_job job two)) c.if-mark-eq-WHITE_BIT.true
          c.tally_of-then-mark-eq-WHITE_BIT.ensures;
      put_back = pruned_back j two (e.fact_2 (prune_job j two));
      tally_shelves_2 = record { pruning = e.shelves_2; words = c.requires.tally_shelves.words };
      unmoved = unmoved;
    }

pub tally_block-voxels_of-requires : goal.tally_block-voxels_of-requires
tally_block-voxels_of-requires t c =
    black_frames c.requires.fact c.args.first c.args.last c.max-begin.ensures c.min-end.ensures c.if-end-begin.false

pub tally_block-shape_of-codes-then-mark-eq-BLACK_BIT : goal.tally_block-shape_of-codes-then-mark-eq-BLACK_BIT
tally_block-shape_of-codes-then-mark-eq-BLACK_BIT t c =
    let j = c.requires.fact in
    let two : 2 ≤ c.args.left + 1 = omega (arith, c.if-left.false) in
    (below_same j two (c.prune-kept.ensures.fact_2 (prune_job j two))).long

pub tally_block-returns-then-mark-eq-BLACK_BIT : goal.tally_block-returns-then-mark-eq-BLACK_BIT
tally_block-returns-then-mark-eq-BLACK_BIT t c =
    let j = c.requires.fact in
    let two : 2 ≤ c.args.left + 1 = omega (arith, c.if-left.false) in
    let e = c.prune-kept.ensures in
    record {
      fact_2 = λ job. tally_black job c.args.first c.args.last two (e.fact_2 (prune_job job two)) c.max-begin.ensures c.min-end.ensures c.if-end-begin.false
          c.if-mark-eq-BLACK_BIT.true c.voxels_of.ensures c.tally_of-then-mark-eq-BLACK_BIT.ensures;
      put_back = pruned_back j two (e.fact_2 (prune_job j two));
      tally_shelves_2 = record { pruning = e.shelves_2; words = c.requires.tally_shelves.words };
      unmoved = unmoved;
    }

pub tally_block-overflow_add-from : goal.tally_block-overflow_add-from
tally_block-overflow_add-from t c =
    let j = c.requires.fact in
    omega (arith, j.carrying.inside, j.bounded)

pub tally_block-tally_halves-requires : goal.tally_block-tally_halves-requires
tally_block-tally_halves-requires t c =
    let j = c.requires.fact in
    let two : 2 ≤ c.args.left + 1 = omega (arith, c.if-left.false) in
    let e = c.prune-kept.ensures in
    let pr = e.fact_2 (prune_job j two) in (
      omega (arith, c.decreases),
      (
        left_job j two pr c.if-mark-eq-WHITE_BIT.false c.if-mark-eq-BLACK_BIT.false c.args.left refl,
        (
          omega (arith, two),
          (
            record { pruning = e.shelves_2; words = c.requires.tally_shelves.words },
            kept_values (prune_job j two) pr c.requires.values_at,
          ),
        ),
      ),
    )

pub tally_block-shape_of-codes : goal.tally_block-shape_of-codes
tally_block-shape_of-codes t c =
    let j = c.requires.fact in
    let two : 2 ≤ c.args.left + 1 = omega (arith, c.if-left.false) in
    c.tally_halves.ensures.put_back.below.long ∙ (below_same j two (c.prune-kept.ensures.fact_2 (prune_job j two))).long

pub tally_block-returns : goal.tally_block-returns
tally_block-returns t c =
    let j = c.requires.fact in
    let two : 2 ≤ c.args.left + 1 = omega (arith, c.if-left.false) in
    let w = c.if-mark-eq-WHITE_BIT.false in
    let b = c.if-mark-eq-BLACK_BIT.false in
    let e = c.prune-kept.ensures.fact_2 in
    let f = c.tally_halves.ensures in
    record {
      fact_2 = λ job. let q = e (prune_job job two) in
          tally_opened job c.args.first c.args.last two q w b c.args.left refl (f.fact_2 (left_job job two q w b c.args.left refl));
      put_back = opened_back j c.args.first c.args.last two (e (prune_job j two)) w b c.args.left refl f.put_back;
      tally_shelves_2 = f.tally_shelves_2;
      unmoved = f.unmoved;
    }

-- ---- `tally_halves`

pub tally_halves-overflow_sub-axis : goal.tally_halves-overflow_sub-axis
tally_halves-overflow_sub-axis t c =
    let j = c.requires.fact in let some = c.requires.le_left in some

pub tally_halves-offset_bounds-table-left : goal.tally_halves-offset_bounds-table-left
tally_halves-offset_bounds-table-left t c =
    let j = c.requires.fact in let some = c.requires.le_left in omega (arith, place_in j some)

pub tally_halves-bounds-table-left : goal.tally_halves-bounds-table-left
tally_halves-bounds-table-left t c =
    let j = c.requires.fact in let some = c.requires.le_left in omega (arith, place_in j some)

pub tally_halves-offset_bounds-low-axis : goal.tally_halves-offset_bounds-low-axis
tally_halves-offset_bounds-low-axis t c =
    let j = c.requires.fact in let some = c.requires.le_left in omega (arith, axis_within j some)

pub tally_halves-bounds-low-axis : goal.tally_halves-bounds-low-axis
tally_halves-bounds-low-axis t c =
    let j = c.requires.fact in let some = c.requires.le_left in omega (arith, axis_within j some)

pub tally_halves-offset_bounds-side-axis : goal.tally_halves-offset_bounds-side-axis
tally_halves-offset_bounds-side-axis t c =
    let j = c.requires.fact in let some = c.requires.le_left in omega (arith, axis_within j some)

pub tally_halves-bounds-side-axis : goal.tally_halves-bounds-side-axis
tally_halves-bounds-side-axis t c =
    let j = c.requires.fact in let some = c.requires.le_left in omega (arith, axis_within j some)

pub tally_halves-offset_bounds-side-axis-2 : goal.tally_halves-offset_bounds-side-axis-2
tally_halves-offset_bounds-side-axis-2 t c =
    let j = c.requires.fact in let some = c.requires.le_left in omega (arith, axis_within j some)

pub tally_halves-bounds-side-axis-2 : goal.tally_halves-bounds-side-axis-2
tally_halves-bounds-side-axis-2 t c =
    let j = c.requires.fact in let some = c.requires.le_left in omega (arith, axis_within j some)

pub tally_halves-overflow_sub-left : goal.tally_halves-overflow_sub-left
tally_halves-overflow_sub-left t c =
    let j = c.requires.fact in let some = c.requires.le_left in some

pub tally_halves-tally_block-below-requires : goal.tally_halves-tally_block-below-requires
tally_halves-tally_block-below-requires t c =
    let j = c.requires.fact in
    let some = c.requires.le_left in (
      omega (arith, c.decreases, some),
      (
        lower_job j some,
        (
          c.requires.tally_shelves,
          c.requires.values_at,
        ),
      ),
    )

pub tally_halves-overflow_add-low : goal.tally_halves-overflow_add-low
tally_halves-overflow_add-low t c =
    omega (arith, near_fits c.requires.fact c.requires.le_left)

pub tally_halves-offset_bounds-low-axis-2 : goal.tally_halves-offset_bounds-low-axis-2
tally_halves-offset_bounds-low-axis-2 t c =
    omega (arith, axis_within c.requires.fact c.requires.le_left)

pub tally_halves-bounds-low-axis-2 : goal.tally_halves-bounds-low-axis-2
tally_halves-bounds-low-axis-2 t c =
    omega (arith, axis_within c.requires.fact c.requires.le_left)

pub tally_halves-move_values-requires : goal.tally_halves-move_values-requires
tally_halves-move_values-requires t c =
    let e = c.tally_block-below.ensures in
    raise_job c.requires.fact c.requires.le_left c.requires.values_at e.put_back.below e.unmoved

pub tally_halves-overflow_sub-left-2 : goal.tally_halves-overflow_sub-left-2
tally_halves-overflow_sub-left-2 t c =
    c.requires.le_left

pub tally_halves-overflow_sub-round : goal.tally_halves-overflow_sub-round
tally_halves-overflow_sub-round t c =
    c.requires.values_at.is_round

pub tally_halves-tally_block-above-requires : goal.tally_halves-tally_block-above-requires
tally_halves-tally_block-above-requires t c =
    let j = c.requires.fact in
    let some = c.requires.le_left in
    let e = c.tally_block-below.ensures in (
      omega (arith, c.decreases, some),
      (
        tally_upper j some c.args.first c.args.last (e.fact_2 (lower_job j some)) e.put_back,
        (
          e.tally_shelves_2,
          high_values j some c.requires.values_at e.put_back e.unmoved c.move_values.ensures,
        ),
      ),
    )

pub tally_halves-offset_bounds-low-axis-3 : goal.tally_halves-offset_bounds-low-axis-3
tally_halves-offset_bounds-low-axis-3 t c =
    omega (arith, axis_within c.requires.fact c.requires.le_left)

pub tally_halves-bounds-low-axis-3 : goal.tally_halves-bounds-low-axis-3
tally_halves-bounds-low-axis-3 t c =
    omega (arith, axis_within c.requires.fact c.requires.le_left)

pub tally_halves-offset_bounds-side-axis-3 : goal.tally_halves-offset_bounds-side-axis-3
tally_halves-offset_bounds-side-axis-3 t c =
    omega (arith, axis_within c.requires.fact c.requires.le_left)

pub tally_halves-bounds-side-axis-3 : goal.tally_halves-bounds-side-axis-3
tally_halves-bounds-side-axis-3 t c =
    omega (arith, axis_within c.requires.fact c.requires.le_left)

pub tally_halves-overflow_sub-round-2 : goal.tally_halves-overflow_sub-round-2
tally_halves-overflow_sub-round-2 t c =
    c.requires.values_at.is_round

pub tally_halves-move_values-requires-2 : goal.tally_halves-move_values-requires-2
tally_halves-move_values-requires-2 t c =
    let e = c.tally_block-below.ensures in
    let f = c.tally_block-above.ensures in
    back_job c.requires.fact c.requires.le_left c.requires.values_at e.put_back.below e.unmoved c.move_values.ensures f.put_back.below f.unmoved

pub tally_halves-tallied-requires : goal.tally_halves-tallied-requires
tally_halves-tallied-requires t c =
    let j = c.requires.fact in
    let some = c.requires.le_left in
    let e = c.tally_block-below.ensures in
    let f = c.tally_block-above.ensures in
    record {
      small_tally = small_below j some c.args.first c.args.last (e.fact_2 (lower_job j some)) e.put_back f.fact_2 f.put_back;
      small_tally_2 = small_above j some c.args.first c.args.last (e.fact_2 (lower_job j some)) e.put_back f.fact_2 f.put_back;
    }

pub tally_halves-shape_of-codes : goal.tally_halves-shape_of-codes
tally_halves-shape_of-codes t c =
    c.tally_block-above.ensures.put_back.below.long ∙ c.tally_block-below.ensures.put_back.below.long

pub tally_halves-returns : goal.tally_halves-returns
tally_halves-returns t c =
    let j = c.requires.fact in
    let some = c.requires.le_left in
    let e = c.tally_block-below.ensures in
    let f = c.tally_block-above.ensures in
    record {
      fact_2 = λ job. tally_both job some c.args.first c.args.last (e.fact_2 (lower_job job some)) e.put_back f.fact_2 f.put_back c.tallied.ensures;
      put_back = both_back j some c.args.first c.args.last (e.fact_2 (lower_job j some)) e.put_back f.fact_2 f.put_back;
      tally_shelves_2 = f.tally_shelves_2;
      unmoved = back j some c.requires.values_at e.put_back.below e.unmoved c.move_values.ensures f.put_back.below f.unmoved c.move_values-2.ensures;
    }
