-- `ball_word` by its halves, with one level less in each, and of up to four voxels by the functions for so many.
use native.Mathlib.Omega.{arith}
use Rattle.at_once.proofs.BallWords.{gives_digit, held_over, as_held, half_place, low_over, low_fits, gives_alike}
use Rattle.at_once.proofs.BallWords.{axis_place, length_cast, two_fits, further_fits, four_fits}
use Rattle.at_once.proofs.BallWords.{sum_fits, more_fits, far_fits, high_over, high_fits, gives_across}
use Rattle.at_once.proofs.word.+ball_word.Goals as goal

pub returns-then-left-eq0 : goal.returns-then-left-eq0
returns-then-left-eq0 t c =
    λ over. as_held over c.ranges.most c.if-left-eq0.true (λ o. gives_digit o c.near_digit.ensures)

pub ball_two-requires : goal.ball_two-requires
ball_two-requires t c = held_over c.requires c.ranges.most c.if-left-eq1.true

pub returns-then-left-eq1 : goal.returns-then-left-eq1
returns-then-left-eq1 t c =
    λ over. as_held over c.ranges.most c.if-left-eq1.true c.ball_two.ensures

pub ball_four-requires : goal.ball_four-requires
ball_four-requires t c = held_over c.requires c.ranges.most c.if-left-eq2.true

pub returns-then-left-eq2 : goal.returns-then-left-eq2
returns-then-left-eq2 t c =
    λ over. as_held over c.ranges.most c.if-left-eq2.true c.ball_four.ensures

pub overflow_sub-n : goal.overflow_sub-n
overflow_sub-n t c = omega arith

pub ball_word-low-requires : goal.ball_word-low-requires
ball_word-low-requires t c = let over = c.requires in let f = c.ranges.most in let k = c.if-left-eq0.false in
    (omega (arith, c.decreases, k), low_over over f k)

pub offset_bounds-table-j : goal.offset_bounds-table-j
offset_bounds-table-j t c =
    let over = c.requires in let f = c.ranges.most in let k = c.if-left-eq0.false in
    omega (arith, half_place over f k)

pub bounds-table-j : goal.bounds-table-j
bounds-table-j t c =
    let over = c.requires in let f = c.ranges.most in let k = c.if-left-eq0.false in
    omega (arith, half_place over f k)

pub side_by_side-requires : goal.side_by_side-requires
side_by_side-requires t c =
    let over
    = c.requires in
    let f = c.ranges.most in let k = c.if-left-eq0.false in let e = c.ball_word-low.ensures (low_over over f k) in
    record { n_lt_word_levels = half_place over f k; low_bound = low_fits over f k e; high_bound = low_fits over f k e }

pub returns-then-places-axis : goal.returns-then-places-axis
returns-then-places-axis t c = let f = c.ranges.most in let k = c.if-left-eq0.false in
    λ over. gives_alike over f k (c.ball_word-low.ensures (low_over over f k)) c.if-places-axis.true c.side_by_side.ensures

pub offset_bounds-lengths-j : goal.offset_bounds-lengths-j
offset_bounds-lengths-j t c =
    let over = c.requires in let f = c.ranges.most in
    let k = c.if-left-eq0.false in
    omega (arith, half_place over f k)

pub bounds-lengths-j : goal.bounds-lengths-j
bounds-lengths-j t c =
    let over = c.requires in let f = c.ranges.most in
    let k = c.if-left-eq0.false in
    half_place over f k

pub overflow_cast-length : goal.overflow_cast-length
overflow_cast-length t c =
    let over = c.requires in
    let f = c.ranges.most in let k = c.if-left-eq0.false in let l = c.if-places-axis.false in
    length_cast over f k l

pub offset_bounds-offs-axis : goal.offset_bounds-offs-axis
offset_bounds-offs-axis t c =
    let over = c.requires in
    let f = c.ranges.most in let k = c.if-left-eq0.false in let l = c.if-places-axis.false in
    omega (arith, axis_place over f k l)

pub bounds-offs-axis : goal.bounds-offs-axis
bounds-offs-axis t c =
    let over = c.requires in
    let f = c.ranges.most in let k = c.if-left-eq0.false in let l = c.if-places-axis.false in
    axis_place over f k l

pub overflow_mul-further : goal.overflow_mul-further
overflow_mul-further t c =
    let c2
    = c in
    let over = c.requires in let f = c.ranges.most in let k = c.if-left-eq0.false in let l = c2.if-places-axis.false in
    two_fits over f k l

pub overflow_add-further : goal.overflow_add-further
overflow_add-further t c =
    let c2
    = c in
    let over = c.requires in let f = c.ranges.most in let k = c.if-left-eq0.false in let l = c2.if-places-axis.false in
    further_fits over f k l

pub offset_bounds-further-axis : goal.offset_bounds-further-axis
offset_bounds-further-axis t c =
    let c2
    = c in
    let over = c.requires in let f = c.ranges.most in let k = c.if-left-eq0.false in let l = c2.if-places-axis.false in
    omega (arith, axis_place over f k l)

pub bounds-further-axis : goal.bounds-further-axis
bounds-further-axis t c =
    let c2
    = c in
    let over = c.requires in let f = c.ranges.most in let k = c.if-left-eq0.false in let l = c2.if-places-axis.false in
    axis_place over f k l

pub overflow_mul-more : goal.overflow_mul-more
overflow_mul-more t c =
    let c2
    = c in
    let over = c.requires in let f = c.ranges.most in let k = c.if-left-eq0.false in let l = c2.if-places-axis.false in
    four_fits over f k l

pub overflow_add-more : goal.overflow_add-more
overflow_add-more t c =
    let c2
    = c in
    let over = c.requires in let f = c.ranges.most in let k = c.if-left-eq0.false in let l = c2.if-places-axis.false in
    sum_fits over f k l

pub overflow_mul-more-2 : goal.overflow_mul-more-2
overflow_mul-more-2 t c =
    let c2
    = c in
    let over = c.requires in let f = c.ranges.most in let k = c.if-left-eq0.false in let l = c2.if-places-axis.false in
    more_fits over f k l

pub overflow_add-distance : goal.overflow_add-distance
overflow_add-distance t c =
    let c2
    = c in
    let over = c.requires in let f = c.ranges.most in let k = c.if-left-eq0.false in let l = c2.if-places-axis.false in
    far_fits over f k l

pub ball_word-high-requires : goal.ball_word-high-requires
ball_word-high-requires t c =
    let c2
    = c in
    let over = c.requires in let f = c.ranges.most in let k = c.if-left-eq0.false in let l = c2.if-places-axis.false in
    (omega (arith, c.decreases, k), high_over over f k l)

pub side_by_side-requires-2 : goal.side_by_side-requires-2
side_by_side-requires-2 t c =
    let over = c.requires in let f = c.ranges.most in
    let k = c.if-left-eq0.false in let l = c.if-places-axis.false in let e = c.ball_word-low.ensures (low_over over f k) in
    record {
      n_lt_word_levels = half_place over f k;
      low_bound = low_fits over f k e;
      high_bound = high_fits over f k l (c.ball_word-high.ensures (high_over over f k l));
    }

pub returns : goal.returns
returns t c =
    let f = c.ranges.most in let k = c.if-left-eq0.false in let l = c.if-places-axis.false in
    λ over. gives_across over f k l (c.ball_word-high.ensures (high_over over f k l)) (c.ball_word-low.ensures (low_over over f k))
    c.side_by_side-2.ensures
