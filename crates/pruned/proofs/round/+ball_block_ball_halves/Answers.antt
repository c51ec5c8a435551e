-- `ball_block` and `ball_halves` lay the shape of a block by one side of a ball: judged BLACK or WHITE it is held back, of an undecided one both halves are
-- counted, laid, the second where the first ends, and joined. What is changed of the low places and of the sides is put back.
use Rattle.std.proofs.Common.{arith}
use Rattle.pruned.proofs.Singles.{place_fits}
use Rattle.pruned.proofs.Rounds.{ball_ready, sides_ready, voxel_closed, over_closed, open_asked, open_done, level_fits, axis_fits, middle_fits}
use Rattle.pruned.proofs.Rounds.{tally_fits, lower_part_lem, upper_part_lem, join_asked, parts_done}
use Rattle.pruned.proofs.round.+ball_block_ball_halves.Goals as goal

-- ---- `ball_block`

pub ball_block-code_at_voxel-requires : goal.ball_block-code_at_voxel-requires
ball_block-code_at_voxel-requires t c = ball_ready c.requires.lone

pub ball_block-lone_leaf-requires : goal.ball_block-lone_leaf-requires
ball_block-lone_leaf-requires t c = place_fits c.requires.asked

pub ball_block-returns-then-left-eq0 : goal.ball_block-returns-then-left-eq0
ball_block-returns-then-left-eq0 t c = λ job. voxel_closed job c.if-left-eq0.true c.code_at_voxel.ensures c.lone_leaf.ensures _ _

pub ball_block-code_over_block-bits-requires : goal.ball_block-code_over_block-bits-requires
ball_block-code_over_block-bits-requires t c =
    record { ball_ready = ball_ready c.requires.lone; small_places = sides_ready c.requires.lone }

pub ball_block-lone_leaf-requires-then-bits-ne0 : goal.ball_block-lone_leaf-requires-then-bits-ne0
ball_block-lone_leaf-requires-then-bits-ne0 t c = place_fits c.requires.asked

pub ball_block-returns-then-bits-ne0 : goal.ball_block-returns-then-bits-ne0
ball_block-returns-then-bits-ne0 t c =
    λ job. over_closed job c.if-left-eq0.false c.code_over_block-bits.ensures c.if-bits-ne0.true c.lone_leaf-then-bits-ne0.ensures _ _

pub ball_block-ball_halves-requires : goal.ball_block-ball_halves-requires
ball_block-ball_halves-requires t c =
    (omega (arith, c.decreases), open_asked c.requires c.if-left-eq0.false c.code_over_block-bits.ensures c.if-bits-ne0.false)

pub ball_block-returns : goal.ball_block-returns
ball_block-returns t c =
    let x = c.if-left-eq0.false in
    let y = c.code_over_block-bits.ensures in
    let z = c.if-bits-ne0.false in
    λ job. open_done job x y z _ _ (c.ball_halves.ensures (open_asked job x y z))

-- ---- `ball_halves`

pub ball_halves-overflow_sub-axis : goal.ball_halves-overflow_sub-axis
ball_halves-overflow_sub-axis t c = c.requires.asked.some

pub ball_halves-offset_bounds-table-left : goal.ball_halves-offset_bounds-table-left
ball_halves-offset_bounds-table-left t c = omega (arith, level_fits c.requires)

pub ball_halves-bounds-table-left : goal.ball_halves-bounds-table-left
ball_halves-bounds-table-left t c = level_fits c.requires

pub ball_halves-offset_bounds-low-axis : goal.ball_halves-offset_bounds-low-axis
ball_halves-offset_bounds-low-axis t c = omega (arith, axis_fits c.requires)

pub ball_halves-bounds-low-axis : goal.ball_halves-bounds-low-axis
ball_halves-bounds-low-axis t c = omega (arith, axis_fits c.requires)

pub ball_halves-offset_bounds-side-axis : goal.ball_halves-offset_bounds-side-axis
ball_halves-offset_bounds-side-axis t c = omega (arith, axis_fits c.requires)

pub ball_halves-bounds-side-axis : goal.ball_halves-bounds-side-axis
ball_halves-bounds-side-axis t c = omega (arith, axis_fits c.requires)

pub ball_halves-overflow_add-looked : goal.ball_halves-overflow_add-looked
ball_halves-overflow_add-looked t c = omega (arith, tally_fits c.requires)

pub ball_halves-offset_bounds-side-axis-2 : goal.ball_halves-offset_bounds-side-axis-2
ball_halves-offset_bounds-side-axis-2 t c = omega (arith, axis_fits c.requires)

pub ball_halves-bounds-side-axis-2 : goal.ball_halves-bounds-side-axis-2
ball_halves-bounds-side-axis-2 t c = omega (arith, axis_fits c.requires)

pub ball_halves-overflow_sub-left : goal.ball_halves-overflow_sub-left
ball_halves-overflow_sub-left t c = c.requires.asked.some

pub ball_halves-overflow_add-at : goal.ball_halves-overflow_add-at
ball_halves-overflow_add-at t c = omega (arith, c.requires.asked.fits)

pub ball_halves-ball_block-below-requires : goal.ball_halves-ball_block-below-requires
ball_halves-ball_block-below-requires t c = (omega (arith, c.decreases, c.requires.asked.some), lower_part_lem c.requires)

pub ball_halves-overflow_add-low : goal.ball_halves-overflow_add-low
ball_halves-overflow_add-low t c = omega (arith, middle_fits c.requires)

pub ball_halves-offset_bounds-low-axis-2 : goal.ball_halves-offset_bounds-low-axis-2
ball_halves-offset_bounds-low-axis-2 t c = omega (arith, axis_fits c.requires)

pub ball_halves-bounds-low-axis-2 : goal.ball_halves-bounds-low-axis-2
ball_halves-bounds-low-axis-2 t c = omega (arith, axis_fits c.requires)

pub ball_halves-overflow_sub-left-2 : goal.ball_halves-overflow_sub-left-2
ball_halves-overflow_sub-left-2 t c = c.requires.asked.some

pub ball_halves-ball_block-above-requires : goal.ball_halves-ball_block-above-requires
ball_halves-ball_block-above-requires t c =
    let j = c.requires in
    (omega (arith, c.decreases, j.asked.some), upper_part_lem j _ _ (c.ball_block-below.ensures (lower_part_lem j)))

pub ball_halves-offset_bounds-low-axis-3 : goal.ball_halves-offset_bounds-low-axis-3
ball_halves-offset_bounds-low-axis-3 t c = omega (arith, axis_fits c.requires)

pub ball_halves-bounds-low-axis-3 : goal.ball_halves-bounds-low-axis-3
ball_halves-bounds-low-axis-3 t c = omega (arith, axis_fits c.requires)

pub ball_halves-offset_bounds-side-axis-3 : goal.ball_halves-offset_bounds-side-axis-3
ball_halves-offset_bounds-side-axis-3 t c = omega (arith, axis_fits c.requires)

pub ball_halves-bounds-side-axis-3 : goal.ball_halves-bounds-side-axis-3
ball_halves-bounds-side-axis-3 t c = omega (arith, axis_fits c.requires)

pub ball_halves-join-requires : goal.ball_halves-join-requires
ball_halves-join-requires t c =
    let j = c.requires in
    let b = join_asked j _ _ (c.ball_block-below.ensures (lower_part_lem j)) c.ball_block-above.ensures in
    record { at_bound = b.0; end_lt_end_limit = b.1 }

pub ball_halves-returns : goal.ball_halves-returns
ball_halves-returns t c =
    let o = c.join.ensures in
    λ j. parts_done j _ _ (c.ball_block-below.ensures (lower_part_lem j)) c.ball_block-above.ensures o.value o.out_after
