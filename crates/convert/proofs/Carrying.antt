-- What is carried across a halving. The amounts of a block's halves are the whole universe's, halved as often as the axis was; with them the extremes over the
-- block become those over either half (the laws of csg), and both are small, so that nothing overflows.
use Prim.Native.Nat.{ℕ, suc, ◌+◌, ◌-◌, ◌*◌, ◌/◌, ◌^◌, ◌≤◌, ◌<◌}
use mathlib.Core.Path.{◌≡◌, refl, sym, ap, ap₂, ◌∙◌}
use mathlib.Core.Bool.{Bool, true, false, cond, false≢true}
use mathlib.Core.List.{List}
use native.Mathlib.Omega.{arith}
use native.Mathlib.Nat.{mul-le-mul_left, mul_assoc, div-eq_of_eq-mul_left}
use native.Mathlib.Decide.{dec_le}
use borrow.Author.Tests.{eq-eqb, le-leb, lt-ltb}
use lib.Dec.{eqb}
use lib.Pow.{pow_pos, pow-add}
use Rattle.lemmas.proofs.Grid.{listed_at}
use lib.IntN.{ℤ, pos, nat_abs, ◌+ℤ◌, ◌-ℤ◌, ◌*ℤ◌}
use lib.ListN.{length, get_or}
use mir.Syntax.{w64}
use mir.Val.{to_z, of_z}
use Rattle.lemmas.proofs.Sums.{sum_add, sum_mono, sum_same}
use Rattle.lemmas.proofs.Whole.{up, dn, one_part, Is, is_eq, is_nat, is_self, is_add, is_sub, is_mul}
use Rattle.lemmas.proofs.Machine.{Near, near, nat_abs_parts}
use Rattle.universe.specs.declared.Universe.{Universe}
use Rattle.universe.specs.declared.Block.{Block}
use Rattle.universe.specs.Universe.{least_axes, most_axes, longest_side, levels, universe_refusal, axis_at, bits_along, halvings, block_side}
use Rattle.universe.specs.Questions.{side_answer}
use Rattle.universe.specs.Block.{low_along, axis_of, low, high}
use Rattle.universe.proofs.Blocks.{half_length}
use Rattle.universe.proofs.Universes.{accepted, bits_few, halvings_most}
use Rattle.universe.proofs.Questions.{side_is}
use Rattle.csg.specs.Halfspace.{Halfspace, most_rows, row_at, row_count, lesser, greater, least, greatest}
use Rattle.csg.specs.Ball.{ball_at, ball_count}
use Rattle.csg.specs.Surfaces.{Surfaces, halfspace, ball}
use Rattle.csg.specs.Surfaces.{named as thereAre}
use Rattle.csg.specs.Tree.{surface}
use Rattle.csg.specs.Tree.{leaf as leafTree}
use Rattle.csg.specs.Words.{first_halfspace, first_ball, names_halfspace, is_leaf, leaf_of}
use Rattle.csg.proofs.Words.{among_is, Names, a_halfspace, a_ball, leaf_names, leaf_surface, below_halfspace, above_ball}
use Rattle.csg.proofs.Halfspace.{end_along, added, taken, rise, fall, least_is, greatest_is}
use Rattle.csg.proofs.Extremes.{above_is, below_is, least_low, greatest_low, least_high, greatest_high}
use Rattle.convert.specs.Small.{SmallHalfspace, SmallPlace, SmallPlaces, BallReady}
use Rattle.convert.specs.Codes.{black_bits, white_bits, with_centres, paired, value_code, ball_code}
use Rattle.convert.specs.Slots.{part_of, row_in, slots_of, raised, lowered, halved_by, fall_place, rise_place, most_slots}
use Rattle.convert.specs.Slots.{amount_limit, value_limit, SmallValue, SmallAmount, Amounts}
use Rattle.convert.specs.Blocks.{Ready, Standing, Halved, Carried, Judging, block_left, whole_sides, half_side, halved_sides, high_lows, full_codes}
use Rattle.convert.proofs.Slots.{stored_length, small_product, halved_at, raised_at, lowered_at}
use Rattle.convert.proofs.Naming.{slots_few, slots_named}
use Rattle.convert.proofs.BallCodes.{ball_ready}
use Rattle.convert.proofs.Blocks.{low_small, side_small, axis_in, axis_few, half_is}
use Rattle.convert.proofs.Blocks.{lower_is, upper_is, lower_standing, upper_standing}
use Rattle.convert.proofs.Judging.{small_rows, small_balls, white_codes, black_codes, row_code, ball_code_lem}

-- what the machine reads of a number that it holds
abbrev held : ℤ → ℤ
held z = to_z w64 (of_z w64 z)

-- ---- the parts of a coefficient
parts_size : (z : ℤ) (p n : ℕ) → Is z p n → nat_abs z ≤ p + n
parts_size z p n i = one_part z (nat_abs z ≤ p + n)
    (λ e. omega (arith, nat_abs_parts z, i.is)) (λ e. omega (arith, nat_abs_parts z, i.is))

pub part_above : (a : ℤ) → part_of true a ≡ up a
part_above a = let z = greater (pos 0) a in one_part z (nat_abs z ≡ up a)
    (λ e. omega (arith, nat_abs_parts z, (above_is a).is, e)) (λ e. omega (arith, nat_abs_parts z, (above_is a).is, e))

pub part_below : (a : ℤ) → part_of false a ≡ dn a
part_below a = let z = lesser (pos 0) a in one_part z (nat_abs z ≡ dn a)
    (λ e. omega (arith, nat_abs_parts z, (below_is a).is, e)) (λ e. omega (arith, nat_abs_parts z, (below_is a).is, e))

-- moving by a part is moving by what half a block's length gives
module _ (x a : ℤ) (k : ℕ) where
  fall_added : x -ℤ (lesser (pos 0) a *ℤ pos k) ≡ x +ℤ pos (part_of false a * k)
  fall_added = is_eq (is_sub (is_self x) (is_mul (below_is a) k)) (is_add (is_self x) (is_nat (part_of false a * k)))
      (omega (arith, ap (λ (t : ℕ). t * k) (part_below a)))

  rise_added : x +ℤ (greater (pos 0) a *ℤ pos k) ≡ x +ℤ pos (part_of true a * k)
  rise_added = is_eq (is_add (is_self x) (is_mul (above_is a) k)) (is_add (is_self x) (is_nat (part_of true a * k)))
      (omega (arith, ap (λ (t : ℕ). t * k) (part_above a)))

  rise_taken : x -ℤ (greater (pos 0) a *ℤ pos k) ≡ x -ℤ pos (part_of true a * k)
  rise_taken = is_eq (is_sub (is_self x) (is_mul (above_is a) k)) (is_sub (is_self x) (is_nat (part_of true a * k)))
      (omega (arith, ap (λ (t : ℕ). t * k) (part_above a)))

  fall_taken : x +ℤ (lesser (pos 0) a *ℤ pos k) ≡ x -ℤ pos (part_of false a * k)
  fall_taken = is_eq (is_add (is_self x) (is_mul (below_is a) k)) (is_sub (is_self x) (is_nat (part_of false a * k)))
      (omega (arith, ap (λ (t : ℕ). t * k) (part_below a)))

-- ---- extremes over a block inside a universe are small
module _ {h : Halfspace} (small : SmallHalfspace h) (d : ℕ) (few : d ≤ most_axes) where
  ends_most : (x y : ℕ → ℕ) → ((i : ℕ) → i < d → x i ≤ longest_side) → ((i : ℕ) → i < d → y i ≤ longest_side) →
      rise h d x + fall h d y ≤ d * amount_limit
  unfolding rise fall
  ends_most x y p q = omega (
    arith,
    sum_add d (λ i. added h i * x i) (λ i. taken h i * y i),
    sum_mono d (λ i. added h i * x i + taken h i * y i) (λ i. amount_limit) each,
    sum_same d amount_limit,
  )
    where
      each : (i : ℕ) → i < d → added h i * x i + taken h i * y i ≤ amount_limit
      each i l = omega (
        arith,
        mul-le-mul_left (added h i) (p i l),
        mul-le-mul_left (taken h i) (q i l),
        nat_abs_parts (h.coefficient i),
        (small.coefficient i (omega arith)).most,
      )

module _ {u : Universe} {left : ℕ} {lows side : List ℕ} (s : Standing u left lows side) {h : Halfspace} (small : SmallHalfspace h)
    (few : u.axes ≤ most_axes) where
  abbrev b : Block
  b = block_left u left lows

  begins : (i : ℕ) → i < u.axes → low_along b i ≤ longest_side
  begins i l = omega (arith, (s.inside i).most)

  ends : (i : ℕ) → i < u.axes → end_along b i ≤ longest_side
  ends i l = omega (arith, (s.inside i).most, s.along i l)

  pub least_small : SmallValue (least h b)
  least_small = record {
    most = omega (
      arith,
      parts_size _ _ _ (least_is h b),
      ends_most small u.axes few (low_along b) (end_along b) begins ends,
      nat_abs_parts h.offset,
      small.offset,
    );
  }

  pub greatest_small : SmallValue (greatest h b)
  greatest_small = record {
    most = omega (
      arith,
      parts_size _ _ _ (greatest_is h b),
      ends_most small u.axes few (end_along b) (low_along b) ends begins,
      nat_abs_parts h.offset,
      small.offset,
    );
  }

-- ---- judging over two blocks, by what is carried in a slot
module _ {u : Universe} {surfaces : Surfaces} {first second : List ℕ} {left : ℕ} {lows highs side : List ℕ} {leasts greatests : List ℤ} {amounts : List ℕ}
    {one other times : ℕ} (j : Judging u surfaces first second left lows highs side leasts greatests amounts one other times) where
  abbrev slots : List ℕ
  slots = slots_of first second

  few_axes : u.axes ≤ most_axes
  few_axes = (accepted u j.ready.accepted_universe).few_axes

  pub some_axes : least_axes ≤ u.axes
  some_axes = (accepted u j.ready.accepted_universe).some_axes

  module _ (w : ℕ) (k : ℕ) (leaf_word : is_leaf (thereAre surfaces) w ≡ true) (halfspace-word : names_halfspace w ≡ true)
      (in-slot : (k < length slots) × (get_or slots k 0 ≡ w - first_halfspace)) where
    l : k < length slots
    l = in-slot.0

    least_held : Near (held (get_or leasts k (pos 0))) (get_or leasts k (pos 0)) value_limit
    least_held = near (record { most = (j.least_moves.value k l).most }) tt

    greatest_held : Near (held (get_or greatests k (pos 0))) (get_or greatests k (pos 0)) value_limit
    greatest_held = near (record { most = (j.greatest_moves.value k l).most }) tt

    word_row : row_in surfaces.rows slots k ≡ row_at surfaces.rows (w - first_halfspace)
    word_row = ap (row_at surfaces.rows) in-slot.1

    words_are : (first_halfspace ≤ w) × (w < first_ball)
    words_are = among_is first_halfspace most_rows w halfspace-word

    word_there : w - first_halfspace < row_count surfaces.rows
    word_there = by (leaf_names (thereAre surfaces) w leaf_word (omega (arith, words_are.0)))
      where
        by : Names (thereAre surfaces) w → w - first_halfspace < row_count surfaces.rows
        by (a_halfspace x y z) = z
        by (a_ball x y z) = absurd (omega (arith, words_are.1))

    small_row : SmallHalfspace (row_in surfaces.rows slots k)
    small_row = rw word_row (small_rows u surfaces.rows j.ready.accepted_rows (w - first_halfspace) word_there)

    -- the amounts as the machine shifts them
    abbrev one_by : ℕ
    one_by = get_or amounts (one + k) 0 / 2 ^ times

    abbrev other_by : ℕ
    other_by = get_or amounts (other + k) 0 / 2 ^ times

    one_is : get_or (halved_by times amounts) (one + k) 0 ≡ one_by
    one_is = halved_at times amounts (one + k)

    other_is : get_or (halved_by times amounts) (other + k) 0 ≡ other_by
    other_is = halved_at times amounts (other + k)

    below_least : get_or leasts k (pos 0) +ℤ pos one_by ≡ least (row_in surfaces.rows slots k) (block_left u left lows)
    below_least = rw one_is at (j.below_least k l)

    below_greatest : get_or greatests k (pos 0) -ℤ pos other_by ≡ greatest (row_in surfaces.rows slots k) (block_left u left lows)
    below_greatest = rw other_is at (j.below_greatest k l)

    above_least : get_or leasts k (pos 0) +ℤ pos other_by ≡ least (row_in surfaces.rows slots k) (block_left u left highs)
    above_least = rw other_is at (j.above_least k l)

    above_greatest : get_or greatests k (pos 0) -ℤ pos one_by ≡ greatest (row_in surfaces.rows slots k) (block_left u left highs)
    above_greatest = rw one_is at (j.above_greatest k l)

    pub values_asks :
        (SmallAmount one_by × SmallAmount other_by)
        × ((SmallValue (held (get_or leasts k (pos 0))) × SmallValue (held (get_or greatests k (pos 0))))
        × ((SmallValue (held (get_or leasts k (pos 0)) +ℤ pos one_by) × SmallValue (held (get_or greatests k (pos 0)) -ℤ pos other_by))
        × (SmallValue (held (get_or leasts k (pos 0)) +ℤ pos other_by) × SmallValue (held (get_or greatests k (pos 0)) -ℤ pos one_by))))
    values_asks = rw (least_held.same, greatest_held.same) (
      (rw one_is at (j.least_moves.amount k l), rw other_is at (j.greatest_moves.amount k l)),
      (
        (j.least_moves.value k l, j.greatest_moves.value k l),
        (
          (rw below_least (least_small j.below small_row few_axes), rw below_greatest (greatest_small j.below small_row few_axes)),
          (rw above_least (least_small j.above small_row few_axes), rw above_greatest (greatest_small j.above small_row few_axes)),
        ),
      ),
    )

    word_leaf : leaf_of w ≡ surface (halfspace (w - first_halfspace))
    word_leaf = leaf_surface w (omega (arith, words_are.0)) ∙ ap surface (below_halfspace w words_are.1)

    pub values_codes : {r : ℕ} →
        r ≡ paired
        (value_code (eqb left 0) (held (get_or leasts k (pos 0)) +ℤ pos one_by) (held (get_or greatests k (pos 0)) -ℤ pos other_by))
        (value_code (eqb left 0) (held (get_or leasts k (pos 0)) +ℤ pos other_by) (held (get_or greatests k (pos 0)) -ℤ pos one_by))
        → r ≡ full_codes surfaces (leafTree (leaf_of w)) left (block_left u left lows) (block_left u left highs)
    values_codes e =
        let i = w - first_halfspace in
        let f = rw (least_held.same, greatest_held.same, below_least, below_greatest, above_least, above_greatest, word_row) at e in
        f ∙ rw word_leaf (ap₂ paired (row_code surfaces i left j.below) (row_code surfaces i left j.above))

  -- a ball's word
  module _ (w : ℕ) (leaf_word : is_leaf (thereAre surfaces) w ≡ true) (ball-word : first_ball ≤ w) where
    ball_there : w - first_ball < ball_count surfaces.balls
    ball_there = by (leaf_names (thereAre surfaces) w leaf_word (omega (arith, ball-word)))
      where
        by : Names (thereAre surfaces) w → w - first_ball < ball_count surfaces.balls
        by (a_halfspace x y z) = absurd (omega arith)
        by (a_ball x y z) = z

    pub ball_asks : (least_axes ≤ u.axes)
        × (BallReady (u.axes - 1) surfaces.balls (w - first_ball) lows
        × (BallReady (u.axes - 1) surfaces.balls (w - first_ball) highs × SmallPlaces side))
    ball_asks =
        let small = small_balls u surfaces.balls j.ready.accepted_balls in (
          some_axes,
          (
            ball_ready few_axes small (low_small j.below) ball_there,
            (ball_ready few_axes small (low_small j.above) ball_there, side_small j.below),
          ),
        )

    pub ball_codes : {r : ℕ} →
        r ≡ paired (ball_code (eqb left 0) (u.axes - 1) (ball_at surfaces.balls (w - first_ball)) lows side)
        (ball_code (eqb left 0) (u.axes - 1) (ball_at surfaces.balls (w - first_ball)) highs side) →
        r ≡ full_codes surfaces (leafTree (leaf_of w)) left (block_left u left lows) (block_left u left highs)
    ball_codes e =
        let i = w - first_ball in
        let f : leaf_of w ≡ surface (ball i) = leaf_surface w (omega (arith, ball-word)) ∙ ap surface (above_ball w ball-word) in
        e ∙ rw f (ap₂ paired (ball_code_lem surfaces i left j.below) (ball_code_lem surfaces i left j.above))

  -- a colour's word
  pub white_word : (w : ℕ) → w ≡ 0 → {r : ℕ} → r ≡ cond (eqb left 0) (with_centres white_bits) white_bits →
      r ≡ full_codes surfaces (leafTree (leaf_of w)) left (block_left u left lows) (block_left u left highs)
  white_word w e f = f ∙ simp (eq-eqb _ _ e) (white_codes surfaces (block_left u left lows) (block_left u left highs) left)

  pub black_word : (w : ℕ) → is_leaf (thereAre surfaces) w ≡ true → names_halfspace w ≡ false → w < first_ball → (w ≡ 0 → ⊥) →
      {r : ℕ} → r ≡ cond (eqb left 0) (with_centres black_bits) black_bits →
      r ≡ full_codes surfaces (leafTree (leaf_of w)) left (block_left u left lows) (block_left u left highs)
  black_word w t f h n g = let e = is_one (dec_le 2 w) in g ∙ rw e (black_codes surfaces (block_left u left lows) (block_left u left highs) left)
    where
      neither : Names (thereAre surfaces) w → w ≡ 1
      neither (a_halfspace x y z) = let p : true ≡ false = sym (rw (le-leb _ _ x, lt-ltb _ _ y)) ∙ f in absurd (false≢true (sym p))
      neither (a_ball x y z) = absurd (omega arith)

      is_one : Dec (2 ≤ w) → w ≡ 1
      is_one (yes m) = neither (leaf_names (thereAre surfaces) w t m)
      is_one (no m) = omega arith

-- ---- a halving, by what is carried of the block
module _ {u : Universe} {surfaces : Surfaces} {first second turns : List ℕ} (ready : Ready u surfaces first second) (often : Halved u turns) (n : ℕ)
    (lows side : List ℕ)
    (s : Standing u (suc n) lows side) (axis : ℕ) (at_level : axis ≡ axis_at u (levels u - suc n)) {leasts greatests : List ℤ} {amounts : List ℕ}
    (c : Carried u surfaces first second (suc n) lows leasts greatests amounts) where
  abbrev named : List ℕ
  named = slots_of first second

  abbrev count : ℕ
  count = length named

  abbrev times : ℕ
  times = get_or turns n 0

  accept : universe_refusal u ≡ 0
  accept = ready.accepted_universe

  axis_here : axis < u.axes
  axis_here = axis_in u accept n lows side s axis at_level

  axis_most : axis < most_axes
  axis_most = axis_few u accept n lows side s axis at_level

  few : count ≤ most_slots
  few = slots_few ready

  abbrev row : ℕ → Halfspace
  row k = row_in surfaces.rows named k

  small : (k : ℕ) → k < count → SmallHalfspace (row k)
  small k l = small_rows u surfaces.rows ready.accepted_rows (get_or named k 0) (slots_named ready k l)

  -- the whole side, halved so many times, is half the block's
  times_is : times ≡ halvings u (levels u - n) axis
  times_is = rw at_level (often.often n (omega (arith, s.above)))

  times_most : times ≤ bits_along u axis
  times_most = rw times_is (halvings_most u (levels u - n) axis axis_here (omega arith))

  few_times : times < 64
  few_times = omega (arith, times_most, bits_few u (accepted u accept) axis)

  whole_side : get_or (whole_sides u) axis 0 ≡ half_side side axis * 2 ^ times
  unfolding block_side
  whole_side =
      let e : bits_along u axis - times + times ≡ bits_along u axis = omega (arith, times_most) in
      listed_at most_axes (side_answer u) axis axis_most ∙ side_is u refl accept axis axis_here
      ∙ sym (ap (λ (x : ℕ). 2 ^ x) e) ∙ pow-add 2 (bits_along u axis - times) times
      ∙ ap (λ (x : ℕ). x * 2 ^ times) (sym (half_is u accept n lows side s axis at_level ∙ ap (λ (x : ℕ). 2 ^ (bits_along u axis - x)) (sym times_is)))

  halved_part : (part p : ℕ) → get_or amounts p 0 ≡ part * get_or (whole_sides u) axis 0 → get_or (halved_by times amounts) p 0 ≡ part * half_side side axis
  halved_part part p e =
      halved_at times amounts p
      ∙ div-eq_of_eq-mul_left (pow_pos times) (e ∙ ap (λ (x : ℕ). part * x) whole_side ∙ sym (mul_assoc part (half_side side axis) (2 ^ times)))

  fall_half : (k : ℕ) → k < count → get_or (halved_by times amounts) (fall_place axis + k) 0 ≡ part_of false ((row k).coefficient axis) * half_side side axis
  fall_half k l = halved_part (part_of false ((row k).coefficient axis)) (fall_place axis + k) (c.moves.fall_is axis k axis_here l)

  rise_half : (k : ℕ) → k < count → get_or (halved_by times amounts) (rise_place axis + k) 0 ≡ part_of true ((row k).coefficient axis) * half_side side axis
  rise_half k l = halved_part (part_of true ((row k).coefficient axis)) (rise_place axis + k) (c.moves.rise_is axis k axis_here l)

  half_small : SmallPlace (half_side side axis)
  half_small = record { most = omega (arith, (s.inside axis).most) }

  falls_small : (k : ℕ) → k < count → SmallAmount (get_or (halved_by times amounts) (fall_place axis + k) 0)
  falls_small k l = record { most = rw (fall_half k l) (small_product false ((small k l).coefficient axis axis_most) half_small) }

  rises_small : (k : ℕ) → k < count → SmallAmount (get_or (halved_by times amounts) (rise_place axis + k) 0)
  rises_small k l = record { most = rw (rise_half k l) (small_product true ((small k l).coefficient axis axis_most) half_small) }

  -- the extremes over both halves
  abbrev whole : Block
  whole = block_left u (suc n) lows

  below_levels : whole.level < levels u
  below_levels = omega (arith, s.above)

  length_is : half_length whole ≡ half_side side axis
  length_is =
      let z : suc (levels u - suc n) ≡ levels u - n = omega (arith, s.above) in
      ap₂ (λ (l i : ℕ). block_side u l i) z (sym at_level) ∙ sym (half_is u accept n lows side s axis at_level)

  module _ (h : Halfspace) where
    by_axis : (above : Bool) (f : ℕ → ℤ) →
        f (part_of above (h.coefficient (axis_of whole)) * half_length whole) ≡ f (part_of above (h.coefficient axis) * half_side side axis)
    by_axis above f = ap₂ (λ (i k : ℕ). f (part_of above (h.coefficient i) * k)) (sym at_level) length_is

    low_is : low whole ≡ block_left u n lows
    low_is = lower_is u accept n lows side s axis at_level

    high_is : high whole ≡ block_left u n (high_lows lows side axis)
    high_is = upper_is u accept n lows side s axis at_level

    wide : axis_of whole < length whole.low
    wide = omega (arith, s.low_places_lem, at_level, axis_most)

    least_below : least h (block_left u n lows) ≡ least h whole +ℤ pos (part_of false (h.coefficient axis) * half_side side axis)
    least_below =
        ap (least h) (sym low_is) ∙ least_low h whole below_levels ∙ fall_added (least h whole) (h.coefficient (axis_of whole)) (half_length whole)
        ∙ by_axis false (λ x. least h whole +ℤ pos x)

    greatest_below : greatest h (block_left u n lows) ≡ greatest h whole -ℤ pos (part_of true (h.coefficient axis) * half_side side axis)
    greatest_below =
        ap (greatest h) (sym low_is) ∙ greatest_low h whole below_levels ∙ rise_taken (greatest h whole) (h.coefficient (axis_of whole)) (half_length whole)
        ∙ by_axis true (λ x. greatest h whole -ℤ pos x)

    least_above : least h (block_left u n (high_lows lows side axis)) ≡ least h whole +ℤ pos (part_of true (h.coefficient axis) * half_side side axis)
    least_above =
        ap (least h) (sym high_is) ∙ least_high h whole below_levels wide ∙ rise_added (least h whole) (h.coefficient (axis_of whole)) (half_length whole)
        ∙ by_axis true (λ x. least h whole +ℤ pos x)

    greatest_above : greatest h (block_left u n (high_lows lows side axis)) ≡ greatest h whole -ℤ pos (part_of false (h.coefficient axis) * half_side side axis)
    greatest_above =
        ap (greatest h) (sym high_is) ∙ greatest_high h whole below_levels wide
        ∙ fall_taken (greatest h whole) (h.coefficient (axis_of whole)) (half_length whole)
        ∙ by_axis false (λ x. greatest h whole -ℤ pos x)

  pub halves_judging : Judging u surfaces first second n lows (high_lows lows side axis) (halved_sides side axis) leasts greatests amounts (fall_place axis)
      (rise_place axis) times
  halves_judging = record {
    ready = ready;
    below = lower_standing u accept n lows side s axis at_level;
    above = upper_standing u accept n lows side s axis at_level;
    least_moves = record {
      few = few;
      few_times = few_times;
      room = omega (arith, axis_most);
      value = λ k l. rw (c.extremes.least_is k l) (least_small s (small k l) few_axes);
      amount = falls_small;
    };
    greatest_moves = record {
      few = few;
      few_times = few_times;
      room = omega (arith, axis_most);
      value = λ k l. rw (c.extremes.greatest_is k l) (greatest_small s (small k l) few_axes);
      amount = rises_small;
    };
    below_least = λ k l. rw (c.extremes.least_is k l, fall_half k l) (sym (least_below (row k)));
    below_greatest = λ k l. rw (c.extremes.greatest_is k l, rise_half k l) (sym (greatest_below (row k)));
    above_least = λ k l. rw (c.extremes.least_is k l, rise_half k l) (sym (least_above (row k)));
    above_greatest = λ k l. rw (c.extremes.greatest_is k l, fall_half k l) (sym (greatest_above (row k)));
  }
    where
      few_axes : u.axes ≤ most_axes
      few_axes = (accepted u accept).few_axes

-- ---- either of two blocks that are judged together can be gone to
module _ {u : Universe} {surfaces : Surfaces} {first second : List ℕ} {left : ℕ} {lows highs side : List ℕ} {leasts greatests : List ℤ} {amounts : List ℕ}
    {one other times : ℕ} (j : Judging u surfaces first second left lows highs side leasts greatests amounts one other times) where
  pub turned : Judging u surfaces first second left highs lows side leasts greatests amounts other one times
  turned =
      let l = j.least_moves in
      let g = j.greatest_moves in
      record {
        ready = j.ready;
        below = j.above;
        above = j.below;
        least_moves = record { few = l.few; few_times = l.few_times; room = g.room; value = l.value; amount = g.amount };
        greatest_moves = record { few = l.few; few_times = l.few_times; room = l.room; value = g.value; amount = l.amount };
        below_least = j.above_least;
        below_greatest = j.above_greatest;
        above_least = j.below_least;
        above_greatest = j.below_greatest;
      }

  pub moved_carried : Amounts u.axes surfaces.rows (slots_of first second) (whole_sides u) amounts → length leasts ≡ most_slots →
      length greatests ≡ most_slots →
      Carried u surfaces first second left lows (raised (halved_by times amounts) one (length (slots_of first second)) leasts)
      (lowered (halved_by times amounts) other (length (slots_of first second)) greatests) amounts
  moved_carried m p q =
      let count = length (slots_of first second) in
      record {
        extremes = record {
          least_is = λ k l. raised_at (halved_by times amounts) one count leasts k l (omega (arith, p, j.least_moves.few)) ∙ j.below_least k l;
          greatest_is = λ k l. lowered_at (halved_by times amounts) other count greatests k l (omega (arith, q, j.least_moves.few)) ∙ j.below_greatest k l;
        };
        moves = m;
        least_places = stored_length _ 0 count leasts ∙ p;
        greatest_places = stored_length _ 0 count greatests ∙ q;
      }

-- ---- what is carried is small
module _ {u : Universe} {surfaces : Surfaces} {first second : List ℕ} (ready : Ready u surfaces first second) {left : ℕ} {lows side : List ℕ}
    (s : Standing u left lows side) {leasts greatests : List ℤ} {amounts : List ℕ}
    (c : Carried u surfaces first second left lows leasts greatests amounts) where
  row_small : (k : ℕ) → k < length (slots_of first second) → SmallHalfspace (row_in surfaces.rows (slots_of first second) k)
  row_small k l = small_rows u surfaces.rows ready.accepted_rows (get_or (slots_of first second) k 0) (slots_named ready k l)

  axes_few : u.axes ≤ most_axes
  axes_few = (accepted u ready.accepted_universe).few_axes

  pub carried_least : (k : ℕ) → k < length (slots_of first second) → SmallValue (get_or leasts k (pos 0))
  carried_least k l = rw (c.extremes.least_is k l) (least_small s (row_small k l) axes_few)

  pub carried_greatest : (k : ℕ) → k < length (slots_of first second) → SmallValue (get_or greatests k (pos 0))
  carried_greatest k l = rw (c.extremes.greatest_is k l) (greatest_small s (row_small k l) axes_few)
