-- From a block to a half: the values of a halfspace over a block that stands in the universe are small, and those over its halves are those over it with one
-- moved, by the law of the halves' least and greatest. So a step to either half can be taken, and the step from the whole universe to itself.
use Prim.Native.Nat.{ℕ, zero, suc, ◌+◌, ◌*◌, ◌-◌, ◌%◌, ◌≤◌, ◌<◌}
use mathlib.Core.Path.{◌≡◌, sym, ap, ◌∙◌}
use mathlib.Core.Bool.{Bool, true, false, ◌&&◌}
use mathlib.Core.List.{List}
use native.Mathlib.Omega.{arith}
use native.Mathlib.Nat.{mul-le-mul_left}
use borrow.Author.Tests.{leb-true}
use lib.Dec.{eqb, leb}
use lib.IntN.{ℤ, nat_abs, ◌-ℤ◌}
use lib.ListN.{length}
use Rattle.lemmas.specs.Sums.{sum, every}
use Rattle.lemmas.proofs.Sums.{and_left, and_right}
use Rattle.lemmas.proofs.Whole.{one_part, Is}
use Rattle.lemmas.proofs.Machine.{nat_abs_parts}
use Rattle.universe.specs.declared.Universe.{Universe}
use Rattle.universe.specs.declared.Block.{Block}
use Rattle.universe.specs.Refusals.{bad_rows}
use Rattle.universe.specs.Universe.{most_axes, longest_side, coefficient_limit, levels, axis_at, block_side}
use Rattle.universe.specs.Block.{low_along, axis_of}
use Rattle.universe.proofs.Refusing.{unless_holds}
use Rattle.universe.proofs.Universes.{Accepted, accepted, axis_below, side_halved}
use Rattle.universe.proofs.Blocks.{half_length}
use Rattle.csg.specs.Halfspace.{Halfspace, most_rows, row_length, row_at, row_count, rows_refusal, within_limits, least, greatest}
use Rattle.csg.specs.Ball.{most_balls, ball_length, ball_count, ball_at, balls_refusal, ball_within}
use Rattle.csg.specs.Surfaces.{Surfaces}
use Rattle.csg.proofs.Halfspace.{end_along, added, taken, rise, fall, least_is, greatest_is}
use Rattle.csg.proofs.Extremes.{least_low, greatest_low, least_high, greatest_high}
use Rattle.convert.specs.Small.{SmallHalfspace}
use Rattle.convert.specs.Blocks.{Standing, block_left, half_side, halved_sides, high_lows}
use Rattle.convert.proofs.Judging.{small_rows, small_balls}
use Rattle.convert.proofs.Blocks.{axis_few, lower_standing, upper_standing, lower_is, upper_is}
use Rattle.pruned.specs.Nodes.{SmallExtreme, moved_least, moved_greatest, Stepping}
use Rattle.pruned.specs.Laying.{SoundScene}
use Rattle.pruned.proofs.Moving.{less_nothing, rises_none, falls_none}

-- ---- values over a block are small
pub weighted_few : (h : Halfspace) (n : ℕ) (x y : ℕ → ℕ) → n ≤ most_axes → SmallHalfspace h →
    ((i : ℕ) → i < n → x i ≤ longest_side) → ((i : ℕ) → i < n → y i ≤ longest_side) →
    rise h n x + fall h n y ≤ n * (coefficient_limit * longest_side)
unfolding rise fall sum
weighted_few h zero x y l s f g = omega arith
weighted_few h (suc n) x y l s f g =
    omega (
      arith,
      weighted_few h n x y (omega arith) s (λ i m. f i (omega arith)) (λ i m. g i (omega arith)),
      mul-le-mul_left (added h n) (f n (omega arith)),
      mul-le-mul_left (taken h n) (g n (omega arith)),
      (s.coefficient n l).most,
      nat_abs_parts (h.coefficient n),
    )

pub is_size : {z : ℤ} {p n : ℕ} → Is z p n → nat_abs z ≤ p + n
is_size {z} {p} {n} i = one_part z (nat_abs z ≤ p + n) (λ e. omega (arith, nat_abs_parts z, i.is)) (λ e. omega (arith, nat_abs_parts z, i.is))

module _ {u : Universe} {left : ℕ} {lows side : List ℕ} (few : u.axes ≤ most_axes) (s : Standing u left lows side) (h : Halfspace)
    (small : SmallHalfspace h) where
  abbrev here : Block
  here = block_left u left lows

  begins : (i : ℕ) → i < u.axes → low_along here i ≤ longest_side
  begins i l = omega (arith, (s.inside i).most)

  ends : (i : ℕ) → i < u.axes → end_along here i ≤ longest_side
  ends i l = omega (arith, (s.inside i).most, s.along i l)

  pub standing_small : SmallExtreme (least h here) × SmallExtreme (greatest h here)
  standing_small = (
    record {
      most = omega (
        arith,
        is_size (least_is h here),
        weighted_few h u.axes (low_along here) (end_along here) few small begins ends,
        small.offset,
        nat_abs_parts h.offset,
        few,
      );
    },
    record {
      most = omega (
        arith,
        is_size (greatest_is h here),
        weighted_few h u.axes (end_along here) (low_along here) few small ends begins,
        small.offset,
        nat_abs_parts h.offset,
        few,
      );
    },
  )

-- ---- rows and balls that are not refused are few
module _ (u : Universe) (rows : List ℤ) (e : rows_refusal u rows ≡ 0) where
  pub rows_few : row_count rows ≤ most_rows
  unfolding rows_refusal
  rows_few =
      let a : Bool = eqb (length rows % row_length) 0 in
      let b : Bool = leb (row_count rows) most_rows in
      let c : Bool = every (row_count rows) (λ i. within_limits u (row_at rows i)) in
      leb-true _ _ (and_right a b (and_left (a && b) c (unless_holds (a && b && c) bad_rows (omega arith) e)))

module _ (u : Universe) (balls : List ℤ) (e : balls_refusal u balls ≡ 0) where
  pub balls_few : ball_count balls ≤ most_balls
  unfolding balls_refusal
  balls_few =
      let a : Bool = eqb (length balls % ball_length) 0 in
      let b : Bool = leb (ball_count balls) most_balls in
      let c : Bool = every (ball_count balls) (λ i. ball_within u (ball_at balls i)) in
      leb-true _ _ (and_right a b (and_left (a && b) c (unless_holds (a && b && c) bad_rows (omega arith) e)))

-- ---- the steps
module _ {u : Universe} {surfaces : Surfaces} (scene : SoundScene u surfaces) where
  pub ok : Accepted u
  ok = accepted u scene.accepted_universe

  pub rows_small : (i : ℕ) → i < row_count surfaces.rows → SmallHalfspace (row_at surfaces.rows i)
  rows_small = small_rows u surfaces.rows scene.accepted_rows

  -- a step to a block that stands, from one whose values move to those over it
  unfoldable pub stepping : {axes : ℕ} {low side low₀ side₀ : List ℕ} {axis half left left₀ : ℕ} {high centre : Bool} → axes ≡ u.axes
      → Standing u left low side →
      Standing u left₀ low₀ side₀ → axis < most_axes → half ≤ longest_side →
      ((h : Halfspace) → (least h (block_left u left low) ≡ moved_least high (h.coefficient axis) half (least h (block_left u left₀ low₀)))
      × (greatest h (block_left u left low) ≡ moved_greatest high (h.coefficient axis) half (greatest h (block_left u left₀ low₀)))) →
      (centre ≡ true → left ≡ 0) → Stepping surfaces axes low side axis half high centre
  stepping {low₀ = low₀} {left = left} {left₀ = left₀} e s s₀ w k moves last =
      record {
        universe = u;
        left = left;
        parent = block_left u left₀ low₀;
        some_axes = rw e ok.some_axes;
        few_axes = rw e ok.few_axes;
        axes_are = e;
        standing = s;
        small = rows_small;
        small_balls = small_balls u surfaces.balls scene.accepted_balls;
        few_rows = rows_few u surfaces.rows scene.accepted_rows;
        few_balls = balls_few u surfaces.balls scene.accepted_balls;
        within = w;
        short = k;
        small_parent = λ i m. standing_small ok.few_axes s₀ (row_at surfaces.rows i) (rows_small i m);
        moves = λ i. moves (row_at surfaces.rows i);
        small_block = λ i m. standing_small ok.few_axes s (row_at surfaces.rows i) (rows_small i m);
        last = last;
      }

  -- to the halves of a block, whose length along the axis is half the side
  module _ {axes : ℕ} {lows side : List ℕ} {n axis : ℕ} (e : axes ≡ u.axes) (s : Standing u (suc n) lows side)
      (at_level : axis ≡ axis_at u (levels u - suc n)) {centre : Bool} (last : centre ≡ true → n ≡ 0) where
    abbrev P : Block
    P = block_left u (suc n) lows

    pub inner : levels u - suc n < levels u
    inner = omega (arith, s.above)

    axis_in : axis < u.axes
    axis_in = rw at_level (axis_below u ok.some_axes (levels u - suc n))

    pub half_is : half_side side axis ≡ half_length P
    half_is =
        let twice : block_side u (levels u - suc n) axis ≡ 2 * half_length P = rw at_level (side_halved u ok.some_axes (levels u - suc n) inner) in
        omega (arith, s.along axis axis_in, twice)

    pub half_short : half_side side axis ≤ longest_side
    half_short = omega (arith, (s.inside axis).most)

    unfoldable pub step_low : {half : ℕ} → half ≡ half_side side axis → Stepping surfaces axes lows (halved_sides side axis) axis half false centre
    step_low told =
        stepping e (lower_standing u scene.accepted_universe n lows side s axis at_level) s (axis_few u
        scene.accepted_universe n lows side s axis at_level)
        (omega (arith, told, half_short))
        (λ h. rw (← lower_is u scene.accepted_universe n lows side s axis at_level, told, half_is, at_level) (least_low h P inner, greatest_low h P inner))
        last

    pub wide : axis_of P < length lows
    wide = rw (← at_level) (omega (arith, s.low_places_lem, axis_few u scene.accepted_universe n lows side s axis at_level))

    unfoldable pub step_high : {half : ℕ} → half ≡ half_side side axis →
        Stepping surfaces axes (high_lows lows side axis) (halved_sides side axis) axis half true centre
    step_high told =
        stepping e (upper_standing u scene.accepted_universe n lows side s axis at_level) s (axis_few u
        scene.accepted_universe n lows side s axis at_level)
        (omega (arith, told, half_short))
        (λ h. rw (← upper_is u scene.accepted_universe n lows side s axis at_level, told, half_is, at_level)
        (least_high h P inner wide, greatest_high h P inner wide))
        last

  -- from a block to itself
  unfoldable pub step_same : {axes : ℕ} {lows side : List ℕ} {left : ℕ} {centre : Bool} → axes ≡ u.axes → Standing u left lows side → (centre ≡ true
      → left ≡ 0) →
      Stepping surfaces axes lows side 0 0 false centre
  step_same {lows = lows} {left = left} e s last =
      stepping e s s (omega arith) (omega arith)
      (λ h. (
        sym (less_nothing _) ∙ ap (λ (z : ℤ). least h (block_left u left lows) -ℤ z) (sym (falls_none (h.coefficient 0))),
        sym (less_nothing _) ∙ ap (λ (z : ℤ). greatest h (block_left u left lows) -ℤ z) (sym (rises_none (h.coefficient 0))),
      ))
      last
