-- `ball_four` by its halves, two voxels each.
use Prim.Native.Nat.{ℕ}
use mathlib.Core.Path.{◌≡◌}
use native.Mathlib.Omega.{arith}
use borrow.Author.Rules.{rules}
use Rattle.at_once.proofs.BallWords.{half_place, low_over, low_fits, gives_alike, axis_place, length_cast, four_fits, sum_fits, more_fits, far_fits}
use Rattle.at_once.proofs.BallWords.{high_over, high_fits, gives_across, two_fits, further_fits}
use Rattle.at_once.proofs.word.ball_four.Statement.{statement}
use Rattle.at_once.proofs.word.ball_four.Tie as tie

some : ◌≡◌ {A = ℕ} 2 0 → ⊥
some e = omega arith

ball-two-requires : tie.Need-ball_two-low-requires
ball-two-requires c κs =
    low_over c.requires c.ranges.most some

side-by-side-requires : tie.Need-side_by_side-requires
side-by-side-requires c κs =
    let v = c in let k = v in let over = k.requires in let f = k.ranges.most in
    let e = v.ball_two-low.ensures (low_over over f some) in
    (half_place over f some, (low_fits over f some e, low_fits over f some e))

returns : tie.Need-returns-then-places-axis
returns c =
    let i = c in let v = i in let f = v.ranges.most in
    λ over. gives_alike over f some (v.ball_two-low.ensures (low_over over f some)) i.if-places-axis.true c.side_by_side.ensures

ball-two-requires-2 : tie.Need-ball_two-high-requires
ball-two-requires-2 c κs =
    let i = c in let k = i in let over = k.requires in let f = k.ranges.most in
    high_over over f some i.if-places-axis.false

side-by-side-requires-2 : tie.Need-side_by_side-requires-2
side-by-side-requires-2 c κs =
    let i = c in let v = i in let k = v in let over = k.requires in let f = k.ranges.most in let l = i.if-places-axis.false in
    let e = v.ball_two-low.ensures (low_over over f some) in
    (half_place over f some, (low_fits over f some e, high_fits over f some l (c.ball_two-high.ensures (high_over over f some l))))

returns-2 : tie.Need-returns
returns-2 c =
    let h = c in let i = h in let v = i in let f = v.ranges.most in let l = i.if-places-axis.false in
    λ over. gives_across over f some l (h.ball_two-high.ensures (high_over over f some l)) (v.ball_two-low.ensures (low_over over f some))
    c.side_by_side-2.ensures

pub ball_four_spec : {M : Type 1} → statement M
ball_four_spec =
    tie.close
    (tie.spec
    ball-two-requires
    (λ c. search rules)
    side-by-side-requires
    returns
    (λ c. search rules)
    (λ c. let i = c in let k = i in let over = k.requires in let f = k.ranges.most in length_cast over f some i.if-places-axis.false)
    (λ c. let i = c in let k = i in let over = k.requires in let f = k.ranges.most in omega (
      arith,
      axis_place over f some i.if-places-axis.false,
    ))
    (λ c. let i = c in let k = i in let over = k.requires in let f = k.ranges.most in axis_place over f some i.if-places-axis.false)
    (λ c. let i = c in let k = i in let over = k.requires in let f = k.ranges.most in two_fits over f some i.if-places-axis.false)
    (λ c. let i = c in let k = i in let over = k.requires in let f = k.ranges.most in further_fits over f some i.if-places-axis.false)
    (λ c. let i = c in let k = i in let over = k.requires in let f = k.ranges.most in omega (
      arith,
      axis_place over f some
          i.if-places-axis.false,
    ))
    (λ c. let i = c in let k = i in let over = k.requires in let f = k.ranges.most in axis_place over f some i.if-places-axis.false)
    (λ c. let i = c in let k = i in let over = k.requires in let f = k.ranges.most in four_fits over f some i.if-places-axis.false)
    (λ c. let i = c in let k = i in let over = k.requires in let f = k.ranges.most in sum_fits over f some i.if-places-axis.false)
    (λ c. let i = c in let k = i in let over = k.requires in let f = k.ranges.most in more_fits over f some i.if-places-axis.false)
    (λ c. let i = c in let k = i in let over = k.requires in let f = k.ranges.most in far_fits over f some i.if-places-axis.false)
    ball-two-requires-2
    side-by-side-requires-2
    returns-2)
