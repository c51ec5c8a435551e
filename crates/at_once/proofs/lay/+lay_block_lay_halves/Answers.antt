-- `lay_block` and `lay_halves` lay the merged shape of a block: that of its word where it has few levels left, one leaf where the trees are decided over it,
-- and else both halves, joined, where their words are next both at once. What is changed of the low places and of the sides is put back, and the codes that are
-- carried into it stay. The values that are carried move up before the high half and down again behind it.
use Prim.Native.Nat.{◌+◌, ◌≤◌}
use native.Mathlib.Omega.{arith}
use mathlib.Core.Path.{refl, ◌∙◌}
use Rattle.pruned.proofs.Laying.{symbol_few}
use Rattle.at_once.proofs.Jobs.{trees_job, trees_are, prune_job, put_same, pruned_back, axis_within, place_in, near_fits, lower_job}
use Rattle.at_once.proofs.Layings.{block_fits, word_text, word_laid, decided_laid, open_job, open_laid, open_back, lower_place, upper_place}
use Rattle.at_once.proofs.Layings.{higher_job, both_back, end_few, both_laid}
use Rattle.at_once.proofs.Moving.{unmoved, kept_values, raise_job, back_job, back, high_values}
use Rattle.at_once.proofs.BothWords.{words_job, words_place_lem, as_laid}
use Rattle.at_once.proofs.lay.+lay_block_lay_halves.Goals as goal

-- ---- `lay_block`

pub lay_block-trees_word-word-requires : goal.lay_block-trees_word-word-requires
lay_block-trees_word-word-requires t c =
    record { fact = trees_job c.requires.fact c.if-left.true; right_values = c.requires.values_at.right }

pub lay_block-lay_word-requires : goal.lay_block-lay_word-requires
lay_block-lay_word-requires t c =
    let few = c.if-left.true in
    word_text c.requires.fact c.requires.at_place few (trees_are c.requires.fact few c.trees_word-word.ensures)

pub lay_block-shape_of-out-then-left : goal.lay_block-shape_of-out-then-left
lay_block-shape_of-out-then-left t c = c.lay_word.auto.out

pub lay_block-returns-then-left : goal.lay_block-returns-then-left
lay_block-returns-then-left t c =
    let few = c.if-left.true in
    record {
      fact_2 = λ job. word_laid job c.requires.at_place few (trees_are job few c.trees_word-word.ensures)
          c.lay_word.ensures;
      put_back = put_same;
      shelves_2 = c.requires.shelves;
      both_shelves_2 = c.requires.both_shelves;
      unmoved = unmoved;
    }

pub lay_block-prune-kept-requires : goal.lay_block-prune-kept-requires
lay_block-prune-kept-requires t c =
    let two : 2 ≤ c.args.left + 1 = omega (arith, c.if-left.false) in
    record { fact = prune_job c.requires.fact two; shelves = c.requires.shelves; right_values = c.requires.values_at.right }

pub lay_block-overflow_add-result : goal.lay_block-overflow_add-result
lay_block-overflow_add-result t c =
    omega (
      arith,
      block_fits c.requires.fact
          c.requires.at_place,
    )

pub lay_block-overflow_mul-result : goal.lay_block-overflow_mul-result
lay_block-overflow_mul-result t c =
    record {
      fits = omega (
        arith,
        block_fits c.requires.fact
            c.requires.at_place,
      );
    }

pub lay_block-overflow_add-result-then-mark-ne0 : goal.lay_block-overflow_add-result-then-mark-ne0
lay_block-overflow_add-result-then-mark-ne0 t c =
    omega (
      arith,
      block_fits c.requires.fact
          c.requires.at_place,
      c.symbol_of.ensures,
      symbol_few c.prune-kept.result.mark,
    )

pub lay_block-shape_of-codes-then-mark-ne0 : goal.lay_block-shape_of-codes-then-mark-ne0
lay_block-shape_of-codes-then-mark-ne0 t c = c.prune-kept.auto.codes

pub lay_block-returns-then-mark-ne0 : goal.lay_block-returns-then-mark-ne0
lay_block-returns-then-mark-ne0 t c =
    let two : 2 ≤ c.args.left + 1 = omega (arith, c.if-left.false) in
    record {
      fact_2 = λ job. decided_laid job c.requires.at_place two (c.prune-kept.ensures.fact_2 (prune_job job two)) c.if-mark-ne0.true _ c.symbol_of.ensures;
      put_back = pruned_back c.requires.fact two (c.prune-kept.ensures.fact_2 (prune_job c.requires.fact two));
      shelves_2 = c.prune-kept.ensures.shelves_2;
      both_shelves_2 = c.requires.both_shelves;
      unmoved = unmoved;
    }

pub lay_block-overflow_add-from : goal.lay_block-overflow_add-from
lay_block-overflow_add-from t c =
    let j = c.requires.fact in
    omega (arith, j.carrying.inside, j.bounded)

pub lay_block-lay_halves-requires : goal.lay_block-lay_halves-requires
lay_block-lay_halves-requires t c =
    let j = c.requires.fact in
    let two : 2 ≤ c.args.left + 1 = omega (
      arith,
      c.if-left.false,
    ) in
    let z = c.if-mark-ne0.false in
    let v = kept_values (prune_job j two) (c.prune-kept.ensures.fact_2 (prune_job j two)) c.requires.values_at in (
      omega (arith, c.decreases),
      (
        open_job j c.requires.at_place two (c.prune-kept.ensures.fact_2 (prune_job j two)) z c.args.left refl,
        (omega (arith, two), (c.prune-kept.ensures.shelves_2, (c.requires.at_place, (c.requires.both_shelves, v)))),
      ),
    )

pub lay_block-shape_of-codes : goal.lay_block-shape_of-codes
lay_block-shape_of-codes t c =
    c.lay_halves.auto.codes ∙ c.prune-kept.auto.codes

pub lay_block-shape_of-out : goal.lay_block-shape_of-out
lay_block-shape_of-out t c = c.lay_halves.auto.out

pub lay_block-returns : goal.lay_block-returns
lay_block-returns t c =
    let j = c.requires.fact in
    let place = c.requires.at_place in
    let two : 2 ≤ c.args.left + 1 = omega (
      arith,
      c.if-left.false,
    ) in
    let z = c.if-mark-ne0.false in
    record {
      fact_2 = λ job. open_laid job place two (c.prune-kept.ensures.fact_2 (prune_job job two)) z c.args.left refl
          (c.lay_halves.ensures.fact_2 (open_job job place two (c.prune-kept.ensures.fact_2 (prune_job job two)) z c.args.left refl));
      put_back = open_back j place two (c.prune-kept.ensures.fact_2 (prune_job j two)) z c.args.left refl c.lay_halves.ensures.put_back;
      shelves_2 = c.lay_halves.ensures.shelves_2;
      both_shelves_2 = c.lay_halves.ensures.both_shelves_2;
      unmoved = c.lay_halves.ensures.unmoved;
    }

-- ---- `lay_halves`

pub lay_halves-overflow_add-t-29 : goal.lay_halves-overflow_add-t-29
lay_halves-overflow_add-t-29 t c = omega arith

pub lay_halves-lay_words-requires : goal.lay_halves-lay_words-requires
lay_halves-lay_words-requires t c =
    let seven = c.if-left.true in
    record {
      fact = words_job seven c.requires.fact;
      at_place = words_place_lem seven c.requires.at_place;
      both_shelves = c.requires.both_shelves;
      right_values = c.requires.values_at.right;
    }

pub lay_halves-shape_of-out-then-left : goal.lay_halves-shape_of-out-then-left
lay_halves-shape_of-out-then-left t c = c.lay_words.auto.out

pub lay_halves-returns-then-left : goal.lay_halves-returns-then-left
lay_halves-returns-then-left t c =
    let seven = c.if-left.true in
    record {
      fact_2 = as_laid seven c.lay_words.ensures.fact_2;
      put_back = put_same;
      shelves_2 = c.requires.shelves;
      both_shelves_2 = c.lay_words.ensures.both_shelves_2;
      unmoved = unmoved;
    }

pub lay_halves-overflow_sub-axis : goal.lay_halves-overflow_sub-axis
lay_halves-overflow_sub-axis t c = c.requires.le_left

pub lay_halves-offset_bounds-table-left : goal.lay_halves-offset_bounds-table-left
lay_halves-offset_bounds-table-left t c =
    omega (arith, place_in c.requires.fact c.requires.le_left)

pub lay_halves-bounds-table-left : goal.lay_halves-bounds-table-left
lay_halves-bounds-table-left t c =
    omega (arith, place_in c.requires.fact c.requires.le_left)

pub lay_halves-offset_bounds-low-axis : goal.lay_halves-offset_bounds-low-axis
lay_halves-offset_bounds-low-axis t c =
    omega (arith, axis_within c.requires.fact c.requires.le_left)

pub lay_halves-bounds-low-axis : goal.lay_halves-bounds-low-axis
lay_halves-bounds-low-axis t c =
    omega (arith, axis_within c.requires.fact c.requires.le_left)

pub lay_halves-offset_bounds-side-axis : goal.lay_halves-offset_bounds-side-axis
lay_halves-offset_bounds-side-axis t c =
    omega (arith, axis_within c.requires.fact c.requires.le_left)

pub lay_halves-bounds-side-axis : goal.lay_halves-bounds-side-axis
lay_halves-bounds-side-axis t c =
    omega (arith, axis_within c.requires.fact c.requires.le_left)

pub lay_halves-offset_bounds-side-axis-2 : goal.lay_halves-offset_bounds-side-axis-2
lay_halves-offset_bounds-side-axis-2 t c =
    omega (arith, axis_within c.requires.fact c.requires.le_left)

pub lay_halves-bounds-side-axis-2 : goal.lay_halves-bounds-side-axis-2
lay_halves-bounds-side-axis-2 t c =
    omega (arith, axis_within c.requires.fact c.requires.le_left)

pub lay_halves-overflow_sub-left : goal.lay_halves-overflow_sub-left
lay_halves-overflow_sub-left t c = c.requires.le_left

pub lay_halves-overflow_add-at : goal.lay_halves-overflow_add-at
lay_halves-overflow_add-at t c =
    omega (arith, block_fits c.requires.fact c.requires.at_place)

pub lay_halves-lay_block-below-requires : goal.lay_halves-lay_block-below-requires
lay_halves-lay_block-below-requires t c =
    let j = c.requires.fact in
    let some = c.requires.le_left in (
      omega (arith, c.decreases, some),
      (
        lower_job j some,
        (
          c.requires.shelves,
          (lower_place j some c.requires.at_place, (c.requires.both_shelves, c.requires.values_at)),
        ),
      ),
    )

pub lay_halves-overflow_add-low : goal.lay_halves-overflow_add-low
lay_halves-overflow_add-low t c =
    omega (arith, near_fits c.requires.fact c.requires.le_left)

pub lay_halves-offset_bounds-low-axis-2 : goal.lay_halves-offset_bounds-low-axis-2
lay_halves-offset_bounds-low-axis-2 t c =
    omega (arith, axis_within c.requires.fact c.requires.le_left)

pub lay_halves-bounds-low-axis-2 : goal.lay_halves-bounds-low-axis-2
lay_halves-bounds-low-axis-2 t c =
    omega (arith, axis_within c.requires.fact c.requires.le_left)

pub lay_halves-move_values-requires : goal.lay_halves-move_values-requires
lay_halves-move_values-requires t c =
    raise_job c.requires.fact c.requires.le_left c.requires.values_at c.lay_block-below.ensures.put_back.below c.lay_block-below.ensures.unmoved

pub lay_halves-overflow_sub-left-2 : goal.lay_halves-overflow_sub-left-2
lay_halves-overflow_sub-left-2 t c =
    c.requires.le_left

pub lay_halves-overflow_sub-round : goal.lay_halves-overflow_sub-round
lay_halves-overflow_sub-round t c = c.requires.values_at.is_round

pub lay_halves-lay_block-above-requires : goal.lay_halves-lay_block-above-requires
lay_halves-lay_block-above-requires t c =
    let j = c.requires.fact in
    let some = c.requires.le_left in
    let place = c.requires.at_place in
    let l = c.lay_block-below.ensures.fact_2 (lower_job j some) in
    let v = high_values j some c.requires.values_at c.lay_block-below.ensures.put_back c.lay_block-below.ensures.unmoved c.move_values.ensures in (
      omega (arith, c.decreases, some),
      (
        higher_job j some place l c.lay_block-below.ensures.put_back,
        (
          c.lay_block-below.ensures.shelves_2,
          (
            upper_place j some place l c.lay_block-below.ensures.put_back,
            (c.lay_block-below.ensures.both_shelves_2, v),
          ),
        ),
      ),
    )

pub lay_halves-offset_bounds-low-axis-3 : goal.lay_halves-offset_bounds-low-axis-3
lay_halves-offset_bounds-low-axis-3 t c =
    omega (arith, axis_within c.requires.fact c.requires.le_left)

pub lay_halves-bounds-low-axis-3 : goal.lay_halves-bounds-low-axis-3
lay_halves-bounds-low-axis-3 t c =
    omega (arith, axis_within c.requires.fact c.requires.le_left)

pub lay_halves-offset_bounds-side-axis-3 : goal.lay_halves-offset_bounds-side-axis-3
lay_halves-offset_bounds-side-axis-3 t c =
    omega (arith, axis_within c.requires.fact c.requires.le_left)

pub lay_halves-bounds-side-axis-3 : goal.lay_halves-bounds-side-axis-3
lay_halves-bounds-side-axis-3 t c =
    omega (arith, axis_within c.requires.fact c.requires.le_left)

pub lay_halves-overflow_sub-round-2 : goal.lay_halves-overflow_sub-round-2
lay_halves-overflow_sub-round-2 t c = c.requires.values_at.is_round

pub lay_halves-move_values-requires-2 : goal.lay_halves-move_values-requires-2
lay_halves-move_values-requires-2 t c =
    back_job c.requires.fact c.requires.le_left c.requires.values_at c.lay_block-below.ensures.put_back.below c.lay_block-below.ensures.unmoved
    c.move_values.ensures c.lay_block-above.ensures.put_back.below c.lay_block-above.ensures.unmoved

pub lay_halves-join-requires : goal.lay_halves-join-requires
lay_halves-join-requires t c =
    let j = c.requires.fact in
    let some = c.requires.le_left in
    let place = c.requires.at_place in
    record {
      at_bound = block_fits j place;
      end_lt_end_limit = end_few j some place (c.lay_block-below.ensures.fact_2 (lower_job j some)) c.lay_block-below.ensures.put_back
          c.lay_block-above.ensures.fact_2 c.lay_block-above.ensures.put_back;
    }

pub lay_halves-shape_of-codes : goal.lay_halves-shape_of-codes
lay_halves-shape_of-codes t c =
    c.lay_block-above.auto.codes
    ∙ c.lay_block-below.auto.codes

pub lay_halves-shape_of-out : goal.lay_halves-shape_of-out
lay_halves-shape_of-out t c =
    c.join.auto.out ∙ c.lay_block-above.auto.out
    ∙ c.lay_block-below.auto.out

pub lay_halves-returns : goal.lay_halves-returns
lay_halves-returns t c =
    let j = c.requires.fact in
    let some = c.requires.le_left in
    let place = c.requires.at_place in
    let m = back j some c.requires.values_at c.lay_block-below.ensures.put_back.below c.lay_block-below.ensures.unmoved c.move_values.ensures
    c.lay_block-above.ensures.put_back.below c.lay_block-above.ensures.unmoved c.move_values-2.ensures in
    record {
      fact_2 = λ job. both_laid job some place (c.lay_block-below.ensures.fact_2 (lower_job job some)) c.lay_block-below.ensures.put_back
          c.lay_block-above.ensures.fact_2 c.lay_block-above.ensures.put_back c.join.ensures.value c.join.ensures.out_after;
      put_back = both_back j some place (c.lay_block-below.ensures.fact_2 (lower_job j some)) c.lay_block-below.ensures.put_back
          c.lay_block-above.ensures.fact_2 c.lay_block-above.ensures.put_back;
      shelves_2 = c.lay_block-above.ensures.shelves_2;
      both_shelves_2 = c.lay_block-above.ensures.both_shelves_2;
      unmoved = m;
    }
