-- `own_ball_word` by its halves, with one level less in each.
use native.Mathlib.Omega.{arith}
use Rattle.at_once.proofs.BallWords.{half_place, axis_place, length_cast, two_fits, further_fits}
use Rattle.at_once.proofs.OwnBalls.{offs_ready, squares_cast, own_voxel, own_low, own_low_fits, own_alike, own_high, own_high_fits, own_across}
use Rattle.at_once.proofs.own.+own_ball_word.Goals as goal

pub spread_sum-requires : goal.spread_sum-requires
spread_sum-requires t c = offs_ready c.requires

pub overflow_cast-result : goal.overflow_cast-result
overflow_cast-result t c = squares_cast c.requires c.args.possible c.spread_sum.ensures

pub returns-then-left-eq0 : goal.returns-then-left-eq0
returns-then-left-eq0 t c = λ own. own_voxel own c.args.possible c.ranges.most c.if-left-eq0.true
    c.spread_sum.ensures

pub overflow_sub-n : goal.overflow_sub-n
overflow_sub-n t c = omega arith

pub own_ball_word-low-requires : goal.own_ball_word-low-requires
own_ball_word-low-requires t c =
    let own = c.requires in let f = c.ranges.most in let p = c.args.possible in let k = c.if-left-eq0.false in
    (omega (arith, c.decreases, k), own_low own p f k)

pub offset_bounds-table-j : goal.offset_bounds-table-j
offset_bounds-table-j t c =
    let own = c.requires in let f = c.ranges.most in let p = c.args.possible in let k = c.if-left-eq0.false in
    omega (arith, half_place own.over f k)

pub bounds-table-j : goal.bounds-table-j
bounds-table-j t c =
    let own = c.requires in let f = c.ranges.most in let p = c.args.possible in let k = c.if-left-eq0.false in
    omega (arith, half_place own.over f k)

pub side_by_side-requires : goal.side_by_side-requires
side_by_side-requires t c =
    let own = c.requires in let f = c.ranges.most in let p = c.args.possible in
    let k = c.if-left-eq0.false in
    let e = c.own_ball_word-low.ensures (own_low own p f k) in
    record { n_lt_word_levels = half_place own.over f k; low_bound = own_low_fits own p f k e; high_bound = own_low_fits own p f k e }

pub returns-then-places-axis : goal.returns-then-places-axis
returns-then-places-axis t c =
    let f = c.ranges.most in let p = c.args.possible in
    let k = c.if-left-eq0.false in
    λ own. own_alike own p f k (c.own_ball_word-low.ensures (own_low own p f k)) c.if-places-axis.true c.side_by_side.ensures

pub offset_bounds-lengths-j : goal.offset_bounds-lengths-j
offset_bounds-lengths-j t c =
    let own = c.requires in let f = c.ranges.most in let p = c.args.possible in
    let k = c.if-left-eq0.false in
    omega (arith, half_place own.over f k)

pub bounds-lengths-j : goal.bounds-lengths-j
bounds-lengths-j t c =
    let own = c.requires in let f = c.ranges.most in let p = c.args.possible in
    let k = c.if-left-eq0.false in
    half_place own.over f k

pub overflow_cast-length : goal.overflow_cast-length
overflow_cast-length t c =
    let own = c.requires in let f = c.ranges.most in let p = c.args.possible in
    let k = c.if-left-eq0.false in let l = c.if-places-axis.false in
    length_cast own.over f k l

pub offset_bounds-offs-axis : goal.offset_bounds-offs-axis
offset_bounds-offs-axis t c =
    let own = c.requires in let f = c.ranges.most in let p = c.args.possible in
    let k = c.if-left-eq0.false in let l = c.if-places-axis.false in
    omega (arith, axis_place own.over f k l)

pub bounds-offs-axis : goal.bounds-offs-axis
bounds-offs-axis t c =
    let own = c.requires in let f = c.ranges.most in let p = c.args.possible in
    let k = c.if-left-eq0.false in let l = c.if-places-axis.false in
    axis_place own.over f k l

pub overflow_mul-further : goal.overflow_mul-further
overflow_mul-further t c =
    let own = c.requires in let f = c.ranges.most in let p = c.args.possible in
    let k = c.if-left-eq0.false in let l = c.if-places-axis.false in
    two_fits own.over f k l

pub overflow_add-further : goal.overflow_add-further
overflow_add-further t c =
    let own = c.requires in let f = c.ranges.most in let p = c.args.possible in
    let k = c.if-left-eq0.false in let l = c.if-places-axis.false in
    further_fits own.over f k l

pub offset_bounds-further-axis : goal.offset_bounds-further-axis
offset_bounds-further-axis t c =
    let own = c.requires in let f = c.ranges.most in let p = c.args.possible in
    let k = c.if-left-eq0.false in let l = c.if-places-axis.false in
    omega (arith, axis_place own.over f k l)

pub bounds-further-axis : goal.bounds-further-axis
bounds-further-axis t c =
    let own = c.requires in let f = c.ranges.most in let p = c.args.possible in
    let k = c.if-left-eq0.false in let l = c.if-places-axis.false in
    axis_place own.over f k l

pub own_ball_word-high-requires : goal.own_ball_word-high-requires
own_ball_word-high-requires t c =
    let own = c.requires in let f = c.ranges.most in let p = c.args.possible in
    let k = c.if-left-eq0.false in let l = c.if-places-axis.false in
    (omega (arith, c.decreases, k), own_high own p f k l)

pub side_by_side-requires-2 : goal.side_by_side-requires-2
side_by_side-requires-2 t c =
    let own = c.requires in let f = c.ranges.most in let p = c.args.possible in
    let k = c.if-left-eq0.false in let l = c.if-places-axis.false in
    let e = c.own_ball_word-low.ensures (own_low own p f k) in
    record {
      n_lt_word_levels = half_place own.over f k;
      low_bound = own_low_fits own p f k e;
      high_bound = own_high_fits own p f k l (c.own_ball_word-high.ensures (own_high own p f k l));
    }

pub returns : goal.returns
returns t c =
    let f = c.ranges.most in let p = c.args.possible in
    let k = c.if-left-eq0.false in let l = c.if-places-axis.false in
    λ own. own_across own p f k l (c.own_ball_word-high.ensures (own_high own p f k l))
    (c.own_ball_word-low.ensures (own_low own p f k))
    c.side_by_side-2.ensures
