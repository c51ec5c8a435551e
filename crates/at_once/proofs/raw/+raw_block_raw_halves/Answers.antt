-- `raw_block` and `raw_halves` write the raw shape of a block: one symbol at level L and where the trees are decided over it, else `(` and both halves. What is
-- changed of the low places and of the sides is put back, and the codes that are carried into it stay. The values that are carried move up before the high half
-- and down again behind it.
use native.Mathlib.Omega.{arith}
use mathlib.Core.Path.{refl, ◌∙◌}
use Rattle.at_once.proofs.Jobs.{prune_job, put_same, pruned_back, axis_within, place_in, near_fits, lower_job}
use Rattle.at_once.proofs.Layings.{block_fits, open_back, lower_place}
use Rattle.at_once.proofs.Voxels.{voxel_trees, voxel_are}
use Rattle.at_once.proofs.Raws.{voxel_written, decided_written, halves_job, open_written, second_place, second_job}
use Rattle.at_once.proofs.Raws.{halves_restored, both_written}
use Rattle.at_once.proofs.Moving.{unmoved, kept_values, raise_job, back_job, back, high_values}
use Prim.Native.Nat.{◌+◌, ◌≤◌}
use Rattle.at_once.proofs.raw.+raw_block_raw_halves.Goals as goal

-- ---- `raw_block`

pub raw_block-trees_digit-digit-requires : goal.raw_block-trees_digit-digit-requires
raw_block-trees_digit-digit-requires t c =
    record {
      fact = voxel_trees c.args.left c.if-left-eq-OF_A_VOXEL.true c.requires.fact;
      digits_len = c.requires.shelves.codes_long;
      right_values = c.requires.values_at.right;
    }

pub raw_block-overflow_add-result : goal.raw_block-overflow_add-result
raw_block-overflow_add-result t c = omega (arith, block_fits c.requires.fact c.requires.at_place)

pub raw_block-shape_of-out-then-left-eq-OF_A_VOXEL : goal.raw_block-shape_of-out-then-left-eq-OF_A_VOXEL
raw_block-shape_of-out-then-left-eq-OF_A_VOXEL t c = c.note.auto.out

pub raw_block-returns-then-left-eq-OF_A_VOXEL : goal.raw_block-returns-then-left-eq-OF_A_VOXEL
raw_block-returns-then-left-eq-OF_A_VOXEL t c =
    let z = c.if-left-eq-OF_A_VOXEL.true in
    record {
      fact_2 = λ job. voxel_written job z (voxel_are c.args.left z job c.trees_digit-digit.ensures.fact_2) _ c.symbol_of.ensures c.note.ensures;
      put_back = put_same;
      shelves_2 = record { starts_long = c.requires.shelves.starts_long; codes_long = c.trees_digit-digit.ensures.digits_len_2 };
      unmoved = unmoved;
    }

pub raw_block-prune-kept-requires : goal.raw_block-prune-kept-requires
raw_block-prune-kept-requires t c =
    let two : 2 ≤ c.args.left + 1 = omega (arith, c.if-left-eq-OF_A_VOXEL.false) in
    record { fact = prune_job c.requires.fact two; shelves = c.requires.shelves; right_values = c.requires.values_at.right }

pub raw_block-overflow_add-result-then-mark-ne0 : goal.raw_block-overflow_add-result-then-mark-ne0
raw_block-overflow_add-result-then-mark-ne0 t c = omega (arith, block_fits c.requires.fact c.requires.at_place)

pub raw_block-shape_of-codes-then-mark-ne0 : goal.raw_block-shape_of-codes-then-mark-ne0
raw_block-shape_of-codes-then-mark-ne0 t c = c.prune-kept.auto.codes

pub raw_block-shape_of-out-then-mark-ne0 : goal.raw_block-shape_of-out-then-mark-ne0
raw_block-shape_of-out-then-mark-ne0 t c = c.note-then-mark-ne0.auto.out

pub raw_block-returns-then-mark-ne0 : goal.raw_block-returns-then-mark-ne0
raw_block-returns-then-mark-ne0 t c =
    let some : 1 ≤ c.args.left = omega (
      arith,
      c.if-left-eq-OF_A_VOXEL.false,
    ) in
    let two : 2 ≤ c.args.left + 1 = omega (arith, some) in
    record {
      fact_2 = λ job. decided_written job two (c.prune-kept.ensures.fact_2 (prune_job job two)) some c.if-mark-ne0.true _ c.symbol_of-then-mark-ne0.ensures
          c.note-then-mark-ne0.ensures;
      put_back = pruned_back c.requires.fact two (c.prune-kept.ensures.fact_2 (prune_job c.requires.fact two));
      shelves_2 = c.prune-kept.ensures.shelves_2;
      unmoved = unmoved;
    }

pub raw_block-overflow_add-from : goal.raw_block-overflow_add-from
raw_block-overflow_add-from t c = let j = c.requires.fact in omega (arith, j.carrying.inside, j.bounded)

pub raw_block-raw_halves-requires : goal.raw_block-raw_halves-requires
raw_block-raw_halves-requires t c =
    let j = c.requires.fact in
    let some : 1 ≤ c.args.left = omega (
      arith,
      c.if-left-eq-OF_A_VOXEL.false,
    ) in
    let two : 2 ≤ c.args.left + 1 = omega (arith, some) in
    let h = halves_job j two (c.prune-kept.ensures.fact_2 (prune_job j two)) some c.if-mark-ne0.false c.args.left
    refl in
    let v = kept_values (prune_job j two) (c.prune-kept.ensures.fact_2 (prune_job j two)) c.requires.values_at in
    (omega (arith, c.decreases), (h, (some, (c.prune-kept.ensures.shelves_2, (c.requires.at_place, v)))))

pub raw_block-shape_of-codes : goal.raw_block-shape_of-codes
raw_block-shape_of-codes t c = c.raw_halves.auto.codes ∙ c.prune-kept.auto.codes

pub raw_block-shape_of-out : goal.raw_block-shape_of-out
raw_block-shape_of-out t c = c.raw_halves.auto.out

pub raw_block-returns : goal.raw_block-returns
raw_block-returns t c =
    let j = c.requires.fact in
    let some : 1 ≤ c.args.left = omega (arith, c.if-left-eq-OF_A_VOXEL.false) in
    let two : 2 ≤ c.args.left + 1 = omega (arith, some) in
    let p = c.prune-kept.ensures.fact_2 in
    let z = c.if-mark-ne0.false in
    record {
      fact_2 = λ job. open_written job two (p (prune_job job two)) some z c.args.left refl
          (c.raw_halves.ensures.fact_2 (halves_job job two (p (prune_job job two)) some z c.args.left refl));
      put_back = open_back j c.requires.at_place two (p (prune_job j two)) z c.args.left refl c.raw_halves.ensures.put_back;
      shelves_2 = c.raw_halves.ensures.shelves_2;
      unmoved = c.raw_halves.ensures.unmoved;
    }

-- ---- `raw_halves`

pub raw_halves-overflow_sub-axis : goal.raw_halves-overflow_sub-axis
raw_halves-overflow_sub-axis t c = c.requires.le_left

pub raw_halves-offset_bounds-table-left : goal.raw_halves-offset_bounds-table-left
raw_halves-offset_bounds-table-left t c = omega (arith, place_in c.requires.fact c.requires.le_left)

pub raw_halves-bounds-table-left : goal.raw_halves-bounds-table-left
raw_halves-bounds-table-left t c = omega (arith, place_in c.requires.fact c.requires.le_left)

pub raw_halves-offset_bounds-low-axis : goal.raw_halves-offset_bounds-low-axis
raw_halves-offset_bounds-low-axis t c = omega (arith, axis_within c.requires.fact c.requires.le_left)

pub raw_halves-bounds-low-axis : goal.raw_halves-bounds-low-axis
raw_halves-bounds-low-axis t c = omega (
  arith,
  axis_within c.requires.fact c.requires.le_left,
)

pub raw_halves-offset_bounds-side-axis : goal.raw_halves-offset_bounds-side-axis
raw_halves-offset_bounds-side-axis t c = omega (
  arith,
  axis_within c.requires.fact c.requires.le_left,
)

pub raw_halves-bounds-side-axis : goal.raw_halves-bounds-side-axis
raw_halves-bounds-side-axis t c = omega (
  arith,
  axis_within c.requires.fact
      c.requires.le_left,
)

pub raw_halves-offset_bounds-side-axis-2 : goal.raw_halves-offset_bounds-side-axis-2
raw_halves-offset_bounds-side-axis-2 t c = omega (
  arith,
  axis_within c.requires.fact c.requires.le_left,
)

pub raw_halves-bounds-side-axis-2 : goal.raw_halves-bounds-side-axis-2
raw_halves-bounds-side-axis-2 t c = omega (
  arith,
  axis_within c.requires.fact c.requires.le_left,
)

pub raw_halves-overflow_sub-left : goal.raw_halves-overflow_sub-left
raw_halves-overflow_sub-left t c = c.requires.le_left

pub raw_halves-overflow_add-at : goal.raw_halves-overflow_add-at
raw_halves-overflow_add-at t c = omega (arith, block_fits c.requires.fact c.requires.at_place)

pub raw_halves-raw_block-middle-requires : goal.raw_halves-raw_block-middle-requires
raw_halves-raw_block-middle-requires t c =
    let j = c.requires.fact in
    let some = c.requires.le_left in
    (omega (arith, c.decreases, some), (lower_job j some, (c.requires.shelves, (lower_place j some c.requires.at_place, c.requires.values_at))))

pub raw_halves-overflow_add-low : goal.raw_halves-overflow_add-low
raw_halves-overflow_add-low t c = omega (arith, near_fits c.requires.fact c.requires.le_left)

pub raw_halves-offset_bounds-low-axis-2 : goal.raw_halves-offset_bounds-low-axis-2
raw_halves-offset_bounds-low-axis-2 t c = omega (arith, axis_within c.requires.fact c.requires.le_left)

pub raw_halves-bounds-low-axis-2 : goal.raw_halves-bounds-low-axis-2
raw_halves-bounds-low-axis-2 t c = omega (arith, axis_within c.requires.fact c.requires.le_left)

pub raw_halves-move_values-requires : goal.raw_halves-move_values-requires
raw_halves-move_values-requires t c =
    raise_job c.requires.fact c.requires.le_left c.requires.values_at c.raw_block-middle.ensures.put_back.below c.raw_block-middle.ensures.unmoved

pub raw_halves-overflow_sub-left-2 : goal.raw_halves-overflow_sub-left-2
raw_halves-overflow_sub-left-2 t c = c.requires.le_left

pub raw_halves-overflow_sub-round : goal.raw_halves-overflow_sub-round
raw_halves-overflow_sub-round t c = c.requires.values_at.is_round

pub raw_halves-raw_block-end-requires : goal.raw_halves-raw_block-end-requires
raw_halves-raw_block-end-requires t c =
    let j = c.requires.fact in
    let some = c.requires.le_left in
    let place = c.requires.at_place in
    let l = c.raw_block-middle.ensures.fact_2 (lower_job j some) in
    let v = high_values j some c.requires.values_at c.raw_block-middle.ensures.put_back c.raw_block-middle.ensures.unmoved c.move_values.ensures in (
      omega (arith, c.decreases, some),
      (
        second_job j some place l c.raw_block-middle.ensures.put_back,
        (c.raw_block-middle.ensures.shelves_2, (second_place j some place l c.raw_block-middle.ensures.put_back, v)),
      ),
    )

pub raw_halves-offset_bounds-low-axis-3 : goal.raw_halves-offset_bounds-low-axis-3
raw_halves-offset_bounds-low-axis-3 t c = omega (arith, axis_within c.requires.fact c.requires.le_left)

pub raw_halves-bounds-low-axis-3 : goal.raw_halves-bounds-low-axis-3
raw_halves-bounds-low-axis-3 t c = omega (arith, axis_within c.requires.fact c.requires.le_left)

pub raw_halves-offset_bounds-side-axis-3 : goal.raw_halves-offset_bounds-side-axis-3
raw_halves-offset_bounds-side-axis-3 t c = omega (arith, axis_within c.requires.fact c.requires.le_left)

pub raw_halves-bounds-side-axis-3 : goal.raw_halves-bounds-side-axis-3
raw_halves-bounds-side-axis-3 t c = omega (arith, axis_within c.requires.fact c.requires.le_left)

pub raw_halves-overflow_sub-round-2 : goal.raw_halves-overflow_sub-round-2
raw_halves-overflow_sub-round-2 t c = c.requires.values_at.is_round

pub raw_halves-move_values-requires-2 : goal.raw_halves-move_values-requires-2
raw_halves-move_values-requires-2 t c =
    back_job c.requires.fact c.requires.le_left c.requires.values_at c.raw_block-middle.ensures.put_back.below c.raw_block-middle.ensures.unmoved
    c.move_values.ensures c.raw_block-end.ensures.put_back.below c.raw_block-end.ensures.unmoved

pub raw_halves-shape_of-codes : goal.raw_halves-shape_of-codes
raw_halves-shape_of-codes t c = c.raw_block-end.auto.codes ∙ c.raw_block-middle.auto.codes

pub raw_halves-shape_of-out : goal.raw_halves-shape_of-out
raw_halves-shape_of-out t c =
    c.raw_block-end.auto.out
    ∙ c.raw_block-middle.auto.out
    ∙ c.note.auto.out

pub raw_halves-returns : goal.raw_halves-returns
raw_halves-returns t c =
    let j = c.requires.fact in
    let some = c.requires.le_left in
    let place = c.requires.at_place in
    let m = back j some c.requires.values_at c.raw_block-middle.ensures.put_back.below c.raw_block-middle.ensures.unmoved c.move_values.ensures
    c.raw_block-end.ensures.put_back.below c.raw_block-end.ensures.unmoved c.move_values-2.ensures in
    record {
      fact_2 = λ job. both_written job some place (c.raw_block-middle.ensures.fact_2 (lower_job job some)) c.raw_block-middle.ensures.put_back
          c.raw_block-end.ensures.fact_2 c.raw_block-end.ensures.put_back _ c.note.ensures;
      put_back = halves_restored j some place (c.raw_block-middle.ensures.fact_2 (lower_job j some)) c.raw_block-middle.ensures.put_back
          c.raw_block-end.ensures.fact_2 c.raw_block-end.ensures.put_back;
      shelves_2 = c.raw_block-end.ensures.shelves_2;
      unmoved = m;
    }
