-- `lay_block` and `lay_halves` lay the shape of a block: what is carried into it is pruned; judged BLACK or WHITE it is held back, of an undecided one both
-- halves are laid, the second where the first ends, and joined. What is changed of the low places and of the sides is put back, and the nodes carried into it
-- stay.
use Rattle.std.proofs.Common.{arith}
use Rattle.pruned.proofs.Laying.{block_pruning, tally_fits, at_fits, symbol_few, block_closed, block_halves, block_done}
use Rattle.pruned.proofs.Laying.{axis_within, place_in, near_fits, lower_job, upper_job, join_asks, halves_done}
use Rattle.pruned.proofs.Voxels.{pair_job, pair_tally, pair_fits, pair_done}
use Rattle.pruned.proofs.Handed.{lone_code, single_job, single_done}
use Rattle.pruned.proofs.lay.+lay_block_lay_halves.Goals as goal

-- ---- `lay_block`

pub lay_block-overflow_add-behind : goal.lay_block-overflow_add-behind
lay_block-overflow_add-behind t c = let j = c.requires.fact in omega (arith, j.room, j.bounded)

pub lay_block-prune-kept-requires : goal.lay_block-prune-kept-requires
lay_block-prune-kept-requires t c = record { fact = block_pruning c.requires.fact; shelves = c.requires.shelves }

pub lay_block-overflow_add-looked : goal.lay_block-overflow_add-looked
lay_block-overflow_add-looked t c = omega (arith, tally_fits c.requires.fact)

pub lay_block-overflow_add-result : goal.lay_block-overflow_add-result
lay_block-overflow_add-result t c = omega (arith, at_fits c.requires.fact)

pub lay_block-overflow_mul-result : goal.lay_block-overflow_mul-result
lay_block-overflow_mul-result t c = omega (arith, at_fits c.requires.fact)

pub lay_block-overflow_add-result-then-mark-ne0 : goal.lay_block-overflow_add-result-then-mark-ne0
lay_block-overflow_add-result-then-mark-ne0 t c =
    omega (arith, at_fits c.requires.fact, c.symbol_of.ensures, symbol_few c.prune-kept.result.mark)

pub lay_block-returns-then-mark-ne0 : goal.lay_block-returns-then-mark-ne0
lay_block-returns-then-mark-ne0 t c =
    let p = c.prune-kept.ensures in
    record {
      fact_2 = λ job. block_closed job (p.fact_2 (block_pruning job)) _ _ c.if-mark-ne0.true c.symbol_of.ensures;
      shelves_2 = p.shelves_2;
    }

pub lay_block-is_single-requires : goal.lay_block-is_single-requires
lay_block-is_single-requires t c =
    let j = c.requires.fact in
    λ e. lone_code (block_halves j (c.prune-kept.ensures.fact_2 (block_pruning j)) c.if-mark-ne0.false) e

pub lay_block-lay_single-requires : goal.lay_block-lay_single-requires
lay_block-lay_single-requires t c =
    let j = c.requires.fact in
    let w = c.is_single.ensures c.if-is_single.true in
    single_job (block_halves j (c.prune-kept.ensures.fact_2 (block_pruning j)) c.if-mark-ne0.false) w.0 w.1

pub lay_block-returns-then-is_single : goal.lay_block-returns-then-is_single
lay_block-returns-then-is_single t c =
    let w = c.is_single.ensures c.if-is_single.true in
    let p = c.prune-kept.ensures in
    let z = c.if-mark-ne0.false in
    record {
      fact_2 = λ job. let k = p.fact_2 (block_pruning job) in
          let h = block_halves job k z in
          block_done job k z _ _ (single_done h w.0 w.1 _ _ (c.lay_single.ensures (single_job h w.0 w.1)));
      shelves_2 = p.shelves_2;
    }

pub lay_block-lay_halves-requires : goal.lay_block-lay_halves-requires
lay_block-lay_halves-requires t c =
    let j = c.requires.fact in
    let p = c.prune-kept.ensures in
    (omega (arith, c.decreases), (block_halves j (p.fact_2 (block_pruning j)) c.if-mark-ne0.false, p.shelves_2))

pub lay_block-returns : goal.lay_block-returns
lay_block-returns t c =
    let p = c.prune-kept.ensures in
    let z = c.if-mark-ne0.false in
    let l = c.lay_halves.ensures in
    record {
      fact_2 = λ job. let k = p.fact_2 (block_pruning job) in block_done job k z _ _ (l.fact_2 (block_halves job k z));
      shelves_2 = l.shelves_2;
    }

-- ---- `lay_halves`

pub lay_halves-overflow_sub-axis : goal.lay_halves-overflow_sub-axis
lay_halves-overflow_sub-axis t c = c.requires.fact.some

pub lay_halves-offset_bounds-table-left : goal.lay_halves-offset_bounds-table-left
lay_halves-offset_bounds-table-left t c = omega (arith, place_in c.requires.fact)

pub lay_halves-bounds-table-left : goal.lay_halves-bounds-table-left
lay_halves-bounds-table-left t c = omega (arith, place_in c.requires.fact)

pub lay_halves-lay_pair-requires : goal.lay_halves-lay_pair-requires
lay_halves-lay_pair-requires t c =
    let z = c.if-left-eq1.true in
    let j = c.requires.fact in
    record { fact = pair_job j z; pairs_len = c.requires.shelves.codes_long; count_bound = pair_tally j z; at_bound = pair_fits j z }

pub lay_halves-returns-then-left-eq1 : goal.lay_halves-returns-then-left-eq1
lay_halves-returns-then-left-eq1 t c =
    let z = c.if-left-eq1.true in
    let l = c.lay_pair.ensures in
    record {
      fact_2 = λ job. pair_done job z _ _ (l.fact_2 (pair_job job z)) (l.fact_3 (pair_job job z)) l.looked_after;
      shelves_2 = record { starts_long = c.requires.shelves.starts_long; codes_long = l.pairs_len_2 };
    }

pub lay_halves-offset_bounds-low-axis : goal.lay_halves-offset_bounds-low-axis
lay_halves-offset_bounds-low-axis t c = omega (arith, axis_within c.requires.fact)

pub lay_halves-bounds-low-axis : goal.lay_halves-bounds-low-axis
lay_halves-bounds-low-axis t c = omega (arith, axis_within c.requires.fact)

pub lay_halves-offset_bounds-side-axis : goal.lay_halves-offset_bounds-side-axis
lay_halves-offset_bounds-side-axis t c = omega (arith, axis_within c.requires.fact)

pub lay_halves-bounds-side-axis : goal.lay_halves-bounds-side-axis
lay_halves-bounds-side-axis t c = omega (arith, axis_within c.requires.fact)

pub lay_halves-offset_bounds-side-axis-2 : goal.lay_halves-offset_bounds-side-axis-2
lay_halves-offset_bounds-side-axis-2 t c = omega (arith, axis_within c.requires.fact)

pub lay_halves-bounds-side-axis-2 : goal.lay_halves-bounds-side-axis-2
lay_halves-bounds-side-axis-2 t c = omega (arith, axis_within c.requires.fact)

pub lay_halves-overflow_sub-left : goal.lay_halves-overflow_sub-left
lay_halves-overflow_sub-left t c = c.requires.fact.some

pub lay_halves-overflow_add-at : goal.lay_halves-overflow_add-at
lay_halves-overflow_add-at t c = omega (arith, c.requires.fact.fits)

pub lay_halves-lay_block-below-requires : goal.lay_halves-lay_block-below-requires
lay_halves-lay_block-below-requires t c =
    let j = c.requires.fact in
    (omega (arith, c.decreases, j.some), (lower_job j c.doublings-times.ensures c.if-left-eq1.false, c.requires.shelves))

pub lay_halves-overflow_add-low : goal.lay_halves-overflow_add-low
lay_halves-overflow_add-low t c = omega (arith, near_fits c.requires.fact)

pub lay_halves-offset_bounds-low-axis-2 : goal.lay_halves-offset_bounds-low-axis-2
lay_halves-offset_bounds-low-axis-2 t c = omega (arith, axis_within c.requires.fact)

pub lay_halves-bounds-low-axis-2 : goal.lay_halves-bounds-low-axis-2
lay_halves-bounds-low-axis-2 t c = omega (arith, axis_within c.requires.fact)

pub lay_halves-overflow_sub-left-2 : goal.lay_halves-overflow_sub-left-2
lay_halves-overflow_sub-left-2 t c = c.requires.fact.some

pub lay_halves-lay_block-above-requires : goal.lay_halves-lay_block-above-requires
lay_halves-lay_block-above-requires t c =
    let j = c.requires.fact in
    let d = c.doublings-times.ensures in
    let z = c.if-left-eq1.false in
    let e = c.lay_block-below.ensures in
    (omega (arith, c.decreases, j.some), (upper_job j _ _ d z (e.fact_2 (lower_job j d z)), e.shelves_2))

pub lay_halves-offset_bounds-low-axis-3 : goal.lay_halves-offset_bounds-low-axis-3
lay_halves-offset_bounds-low-axis-3 t c = omega (arith, axis_within c.requires.fact)

pub lay_halves-bounds-low-axis-3 : goal.lay_halves-bounds-low-axis-3
lay_halves-bounds-low-axis-3 t c = omega (arith, axis_within c.requires.fact)

pub lay_halves-offset_bounds-side-axis-3 : goal.lay_halves-offset_bounds-side-axis-3
lay_halves-offset_bounds-side-axis-3 t c = omega (arith, axis_within c.requires.fact)

pub lay_halves-bounds-side-axis-3 : goal.lay_halves-bounds-side-axis-3
lay_halves-bounds-side-axis-3 t c = omega (arith, axis_within c.requires.fact)

pub lay_halves-join-requires : goal.lay_halves-join-requires
lay_halves-join-requires t c =
    let j = c.requires.fact in
    let d = c.doublings-times.ensures in
    let z = c.if-left-eq1.false in
    let b = join_asks j _ _ d z (c.lay_block-below.ensures.fact_2 (lower_job j d z)) c.lay_block-above.ensures.fact_2 in
    record { at_bound = b.0; end_lt_end_limit = b.1 }

pub lay_halves-returns : goal.lay_halves-returns
lay_halves-returns t c =
    let z = c.if-left-eq1.false in
    let d = c.doublings-times.ensures in
    let e = c.lay_block-below.ensures in
    let f = c.lay_block-above.ensures in
    let o = c.join.ensures in
    record {
      fact_2 = λ job. halves_done job _ _ d z (e.fact_2 (lower_job job d z)) f.fact_2 o.value o.out_after;
      shelves_2 = f.shelves_2;
    }
