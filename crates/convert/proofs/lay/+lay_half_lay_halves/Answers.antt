-- A block that is judged BLACK or WHITE is held back. To an undecided one what is carried is moved, both its halves are judged and laid, the second where the first
-- ends, and joined, and what is carried is moved back. Pieces come back packed.
use Rattle.std.proofs.Common.{refl, ap, ◌∙◌, arith}
use Rattle.convert.specs.Shapes.{packed}
use Rattle.convert.proofs.Shapes.{one_fits}
use Rattle.convert.proofs.Pieces.{unpacked_is, piece_closed, upper_lays, piece_joined, joined_fits}
use Rattle.convert.proofs.Laying.{half_halving, half_room, back_asks, back_is, judge_asks, low_half, high_half, side_back}
use Rattle.convert.proofs.lay.+lay_half_lay_halves.Goals as goal

pub lay_half-packed-requires : goal.lay_half-packed-requires
lay_half-packed-requires t c = one_fits _ _ c.requires.fact.laying.fits

pub lay_half-returns-then-mark-ne0-clause-result_value : goal.lay_half-returns-then-mark-ne0-clause-result_value
lay_half-returns-then-mark-ne0-clause-result_value t c =
    let h = c.requires.fact in
    c.packed.ensures ∙ ap packed (piece_closed h.laying.ready _ _ _ h.told c.if-mark-ne0.true c.symbol_of.ensures c.args.out.now c.args.at).0

pub lay_half-returns-then-mark-ne0-clause-out_after : goal.lay_half-returns-then-mark-ne0-clause-out_after
lay_half-returns-then-mark-ne0-clause-out_after t c =
    let h = c.requires.fact in
    (piece_closed h.laying.ready _ _ _ h.told c.if-mark-ne0.true c.symbol_of.ensures c.args.out.now c.args.at).1

pub lay_half-lay_halves-requires : goal.lay_half-lay_halves-requires
lay_half-lay_halves-requires t c =
    let q = c.requires in
    (omega (arith, c.decreases), (rw c.if-mark-ne0.false at q.fact, (q.from_value, q.slots_value)))

-- ---- `lay_halves`
pub lay_halves-overflow_sub-inner : goal.lay_halves-overflow_sub-inner
lay_halves-overflow_sub-inner t c = omega (arith, half_room c.requires.fact)

pub lay_halves-offset_bounds-axes-inner : goal.lay_halves-offset_bounds-axes-inner
lay_halves-offset_bounds-axes-inner t c = omega (arith, half_room c.requires.fact)

pub lay_halves-bounds-axes-inner : goal.lay_halves-bounds-axes-inner
lay_halves-bounds-axes-inner t c = (half_room c.requires.fact).1.0

pub lay_halves-offset_bounds-turns-inner : goal.lay_halves-offset_bounds-turns-inner
lay_halves-offset_bounds-turns-inner t c = omega (arith, half_room c.requires.fact)

pub lay_halves-bounds-turns-inner : goal.lay_halves-bounds-turns-inner
lay_halves-bounds-turns-inner t c = (half_room c.requires.fact).1.0

pub lay_halves-offset_bounds-side-axis : goal.lay_halves-offset_bounds-side-axis
lay_halves-offset_bounds-side-axis t c = omega (arith, half_room c.requires.fact)

pub lay_halves-bounds-side-axis : goal.lay_halves-bounds-side-axis
lay_halves-bounds-side-axis t c = (half_room c.requires.fact).1.1

pub lay_halves-high_lows-high-requires-clause-axis_lt_most_axes : goal.lay_halves-high_lows-high-requires-clause-axis_lt_most_axes
lay_halves-high_lows-high-requires-clause-axis_lt_most_axes t c = (half_room c.requires.fact).1.1

pub lay_halves-fall_place-fall-requires : goal.lay_halves-fall_place-fall-requires
lay_halves-fall_place-fall-requires t c = (half_room c.requires.fact).1.1

pub lay_halves-bounds-side-axis-2 : goal.lay_halves-bounds-side-axis-2
lay_halves-bounds-side-axis-2 t c = (half_room c.requires.fact).1.1

pub lay_halves-judge-codes-requires-clause-fact : goal.lay_halves-judge-codes-requires-clause-fact
lay_halves-judge-codes-requires-clause-fact t c =
    let g = c.move_to.ensures in
    judge_asks (half_halving c.requires.fact c.requires.slots_value g.least_after g.greatest_after refl) c.high_lows-high.ensures c.fall_place-fall.ensures refl

pub lay_halves-lay_half-requires : goal.lay_halves-lay_half-requires
lay_halves-lay_half-requires t c =
    let q = c.requires in
    let g = c.move_to.ensures in
    let o = half_halving q.fact q.slots_value g.least_after g.greatest_after refl in
    let low = low_half o c.high_lows-high.ensures c.fall_place-fall.ensures refl c.judge-codes.ensures in
    (omega (arith, c.decreases, o.some), (low, (q.from_value, q.slots_value)))

pub lay_halves-lay_half-requires-2 : goal.lay_halves-lay_half-requires-2
lay_halves-lay_half-requires-2 t c =
    let q = c.requires in
    let g = c.move_to.ensures in
    let o = half_halving q.fact q.slots_value g.least_after g.greatest_after refl in
    let w = c.high_lows-high.ensures in
    let e = c.lay_half.ensures in
    let p = unpacked_is _ _ e.result_value c.unpacked-below.ensures in
    let high = high_half o w c.fall_place-fall.ensures refl c.judge-codes.ensures e.side_unchanged e.least_unchanged (upper_lays o _ p w) in
    (omega (arith, c.decreases, o.some), (high, (q.from_value, q.slots_value)))

pub lay_halves-bounds-side-axis-3 : goal.lay_halves-bounds-side-axis-3
lay_halves-bounds-side-axis-3 t c = (half_room c.requires.fact).1.1

pub lay_halves-move_back-requires-clause-movable : goal.lay_halves-move_back-requires-clause-movable
lay_halves-move_back-requires-clause-movable t c =
    let g = c.move_to.ensures in
    let e = c.lay_half.ensures.least_unchanged in
    let d = c.lay_half-2.ensures.least_unchanged in
    (back_asks c.requires.fact c.requires.slots_value g.least_after g.greatest_after (d.0 ∙ e.0, d.1 ∙ e.1)).0

pub lay_halves-move_back-requires-clause-movable_2 : goal.lay_halves-move_back-requires-clause-movable_2
lay_halves-move_back-requires-clause-movable_2 t c =
    let g = c.move_to.ensures in
    let e = c.lay_half.ensures.least_unchanged in
    let d = c.lay_half-2.ensures.least_unchanged in
    (back_asks c.requires.fact c.requires.slots_value g.least_after g.greatest_after (d.0 ∙ e.0, d.1 ∙ e.1)).1

pub lay_halves-packed-requires : goal.lay_halves-packed-requires
lay_halves-packed-requires t c =
    let g = c.move_to.ensures in
    let o = half_halving c.requires.fact c.requires.slots_value g.least_after g.greatest_after refl in
    let p = unpacked_is _ _ c.lay_half.ensures.result_value c.unpacked-below.ensures in
    let r = unpacked_is _ _ c.lay_half-2.ensures.result_value c.unpacked-above.ensures in
    joined_fits o _ p c.high_lows-high.ensures _ _ _ c.lay_half.ensures.out_after r c.lay_half-2.ensures.out_after
    (c.join.ensures.value, c.join.ensures.out_after)

pub lay_halves-returns : goal.lay_halves-returns
lay_halves-returns t c =
    let g = c.move_to.ensures in
    let o = half_halving c.requires.fact c.requires.slots_value g.least_after g.greatest_after refl in
    let w = c.high_lows-high.ensures in
    let e = c.lay_half.ensures in
    let d = c.lay_half-2.ensures in
    let p = unpacked_is _ _ e.result_value c.unpacked-below.ensures in
    let r = unpacked_is _ _ d.result_value c.unpacked-above.ensures in
    let v = piece_joined o _ p w _ _ _ e.out_after r d.out_after (c.join.ensures.value, c.join.ensures.out_after) in
    let b = c.move_back.ensures in
    record {
      result_value = c.packed.ensures ∙ ap packed v.0;
      out_after = v.1;
      side_unchanged = side_back o w c.fall_place-fall.ensures refl c.judge-codes.ensures e.side_unchanged e.least_unchanged d.side_unchanged;
      least_unchanged = back_is c.requires.fact c.requires.slots_value g.least_after g.greatest_after
          (d.least_unchanged.0 ∙ e.least_unchanged.0, d.least_unchanged.1 ∙ e.least_unchanged.1) (b.least_after, b.greatest_after);
    }
