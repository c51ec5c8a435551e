-- `lone_block` and `lone_halves` lay the shape of a block by the two values of one side: judged BLACK or WHITE it is held back, of an undecided one both halves
-- are counted, laid, the second where the first ends, and joined.
use Rattle.std.proofs.Common.{arith}
use Rattle.pruned.proofs.Singles.{place_fits}
use Rattle.pruned.proofs.Alone.{values_small, centre_closed, black_closed, white_closed, open_asked, open_done, level_fits, tally_fits, moves_asked}
use Rattle.pruned.proofs.Alone.{lower_part_lem, upper_part_lem, join_asked, parts_done}
use Rattle.pruned.proofs.lone.+lone_block_lone_halves.Goals as goal

-- ---- `lone_block`

pub lone_block-extremes_code-requires : goal.lone_block-extremes_code-requires
lone_block-extremes_code-requires t c = let s = values_small c.requires.lone in record { small_extreme = s.0; small_extreme_2 = s.1 }

pub lone_block-lone_leaf-requires : goal.lone_block-lone_leaf-requires
lone_block-lone_leaf-requires t c = place_fits c.requires.asked

pub lone_block-returns-then-left-eq0 : goal.lone_block-returns-then-left-eq0
lone_block-returns-then-left-eq0 t c = λ job. centre_closed job c.if-left-eq0.true c.extremes_code.ensures c.lone_leaf.ensures _ _

pub lone_block-lone_leaf-requires-then-least-ge0 : goal.lone_block-lone_leaf-requires-then-least-ge0
lone_block-lone_leaf-requires-then-least-ge0 t c = place_fits c.requires.asked

pub lone_block-returns-then-least-ge0 : goal.lone_block-returns-then-least-ge0
lone_block-returns-then-least-ge0 t c =
    λ job. black_closed job c.if-left-eq0.false c.if-least-ge0.true c.lone_leaf-then-least-ge0.ensures _ _

pub lone_block-lone_leaf-requires-then-greatest-le0 : goal.lone_block-lone_leaf-requires-then-greatest-le0
lone_block-lone_leaf-requires-then-greatest-le0 t c = place_fits c.requires.asked

pub lone_block-returns-then-greatest-le0 : goal.lone_block-returns-then-greatest-le0
lone_block-returns-then-greatest-le0 t c =
    λ job. white_closed job c.if-left-eq0.false c.if-least-ge0.false c.if-greatest-le0.true c.lone_leaf-then-greatest-le0.ensures _ _

pub lone_block-lone_halves-requires : goal.lone_block-lone_halves-requires
lone_block-lone_halves-requires t c =
    (omega (arith, c.decreases), open_asked c.requires c.if-left-eq0.false c.if-least-ge0.false c.if-greatest-le0.false)

pub lone_block-returns : goal.lone_block-returns
lone_block-returns t c =
    let x = c.if-left-eq0.false in
    let y = c.if-least-ge0.false in
    let z = c.if-greatest-le0.false in
    λ job. open_done job x y z _ _ (c.lone_halves.ensures (open_asked job x y z))

-- ---- `lone_halves`

pub lone_halves-overflow_sub-step : goal.lone_halves-overflow_sub-step
lone_halves-overflow_sub-step t c = c.requires.asked.some

pub lone_halves-offset_bounds-steps-left : goal.lone_halves-offset_bounds-steps-left
lone_halves-offset_bounds-steps-left t c = omega (arith, level_fits c.requires)

pub lone_halves-bounds-steps-left : goal.lone_halves-bounds-steps-left
lone_halves-bounds-steps-left t c = level_fits c.requires

pub lone_halves-overflow_add-looked : goal.lone_halves-overflow_add-looked
lone_halves-overflow_add-looked t c = omega (arith, tally_fits c.requires)

pub lone_halves-moved_by-lower-requires : goal.lone_halves-moved_by-lower-requires
lone_halves-moved_by-lower-requires t c =
    let m = moves_asked c.requires in
    record { small_amount = m.0; small_extreme = m.1.0; small_extreme_2 = m.1.1 }

pub lone_halves-overflow_sub-left : goal.lone_halves-overflow_sub-left
lone_halves-overflow_sub-left t c = c.requires.asked.some

pub lone_halves-overflow_add-at : goal.lone_halves-overflow_add-at
lone_halves-overflow_add-at t c = omega (arith, c.requires.asked.fits)

pub lone_halves-lone_block-below-requires : goal.lone_halves-lone_block-below-requires
lone_halves-lone_block-below-requires t c =
    (omega (arith, c.decreases, c.requires.asked.some), lower_part_lem c.requires c.moved_by-lower.ensures)

pub lone_halves-moved_by-upper-requires : goal.lone_halves-moved_by-upper-requires
lone_halves-moved_by-upper-requires t c =
    let m = moves_asked c.requires in
    record { small_amount = m.0; small_extreme = m.1.0; small_extreme_2 = m.1.1 }

pub lone_halves-overflow_sub-left-2 : goal.lone_halves-overflow_sub-left-2
lone_halves-overflow_sub-left-2 t c = c.requires.asked.some

pub lone_halves-lone_block-above-requires : goal.lone_halves-lone_block-above-requires
lone_halves-lone_block-above-requires t c =
    let j = c.requires in
    let e = c.moved_by-lower.ensures in (
      omega (arith, c.decreases, j.asked.some),
      upper_part_lem j e _ _ (c.lone_block-below.ensures (lower_part_lem j e)) c.moved_by-upper.ensures,
    )

pub lone_halves-join-requires : goal.lone_halves-join-requires
lone_halves-join-requires t c =
    let j = c.requires in
    let e = c.moved_by-lower.ensures in
    let f = c.moved_by-upper.ensures in
    let l = c.lone_block-below.ensures (lower_part_lem j e) in
    let b = join_asked j e _ _ l f (c.lone_block-above.ensures (upper_part_lem j e _ _ l f)) in
    record { at_bound = b.0; end_lt_end_limit = b.1 }

pub lone_halves-returns : goal.lone_halves-returns
lone_halves-returns t c =
    let e = c.moved_by-lower.ensures in
    let f = c.moved_by-upper.ensures in
    let o = c.join.ensures in
    λ j. let l = c.lone_block-below.ensures (lower_part_lem j e) in
    parts_done j e _ _ l f (c.lone_block-above.ensures (upper_part_lem j e _ _ l f)) o.value o.out_after
