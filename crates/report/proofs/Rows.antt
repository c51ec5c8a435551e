-- The small functions of src/row.rt: the frames of a window, a black block, the frames of halves; and the sum of counts as the library sums them.
-- Each law takes its premises in the form that code leaves them.
use mathlib.Core.Path.{◌≡◌, refl, sym, ap, ◌∙◌}
use mathlib.Core.List.{List}
use Rattle.std.specs.List.{sum as list-sum}
use Rattle.std.proofs.lemmas.List.Sums.{sum_by_more}
use Prim.Native.Nat.{ℕ, zero, suc, ◌+◌, ◌-◌, ◌*◌, ◌%◌, ◌^◌, ◌≤◌, ◌<◌}
use native.Mathlib.Decide.{dec_le, dec_lt}
use native.Mathlib.Omega.{arith}
use borrow.Author.Rules.{rules}
use lib.ListN.{length, get_or, take}
use lib.Pow.{pow_mono}
use Rattle.lemmas.specs.Sums.{sum}
use Rattle.lemmas.proofs.Machine.{shifted_one}
use Rattle.universe.specs.declared.Universe.{Universe}
use Rattle.universe.specs.Universe.{levels, most_frame_bits, most_levels, longest_side, axis_at, frame_axis, frame_count}
use Rattle.universe.proofs.Questions.{axes_left_at}
use Rattle.universe.proofs.Universes.{accepted, levels_few, side_few}
use Rattle.bintree.specs.Counts.{inside}
use Rattle.bintree.specs.Windows.{frame_bits}
use Rattle.bintree.proofs.Owed.{bit_under}
use Rattle.bintree.proofs.Frames.{bits_across, bits_along_lem}
use Rattle.bintree.proofs.Windows.{inside_at, outside_at}
use Rattle.bintree.proofs.WindowAnswers.{InUniverse, window_accepted}
use Rattle.report.specs.declared.window.Window.{Window}
use Rattle.report.specs.Filling.{length_of, places_before, Adds, Roomy, AddsEach, Takes, black_of, Halved}

-- ---- a window: its ends are in order, and it is no longer than the longest side
module _ (w : Window) where
  pub in_universe : InUniverse w.universe w.first w.last
  in_universe = window_accepted w.universe w.first w.last w.within

  frames_few : frame_count w.universe ≤ longest_side
  frames_few = side_few w.universe (accepted w.universe w.accepts) (frame_axis w.universe)

  -- the laws of `frames`
  pub ends_order : w.first ≤ w.last
  ends_order = in_universe.order

  pub ends_fit : w.last - w.first + 1 < 2 ^ 64
  ends_fit = omega (arith, in_universe.inside, frames_few)

  pub frames_are : w.last - w.first + 1 ≡ length_of w
  frames_are = omega (arith, in_universe.order)

-- ---- the laws of `add_block`: places of the row and frames of the block are the same run
few_bits : (frame bits : ℕ) → frame + 2 ^ bits ≤ longest_side → bits ≤ most_frame_bits
few_bits frame bits h = bit_under {l = bits} {k = most_frame_bits} (omega arith)

pub same_run :
    (w : Window) (frame n each c : ℕ) → c < length_of w →
    inside (places_before w frame) (places_before w (frame + n) - places_before w frame) (λ e. each) c ≡ inside frame n (λ e. each) (w.first + c)
same_run w frame n each c h = go (dec_le frame (w.first + c)) (dec_lt (w.first + c) (frame + n))
  where
    from : ℕ
    from = places_before w frame

    many : ℕ
    many = places_before w (frame + n) - places_before w frame

    go : Dec (frame ≤ w.first + c) → Dec (w.first + c < frame + n) → inside from many (λ e. each) c ≡ inside frame n (λ e. each) (w.first + c)
    go (yes k) (yes l) =
        inside_at from many (λ e. each) c (omega arith) (omega arith) ∙ sym (inside_at frame n (λ e. each) (w.first + c) k l)
    go (yes k) (no l) =
        outside_at from many (λ e. each) c (λ a b. omega arith) ∙ sym (outside_at frame n (λ e. each) (w.first + c) (λ a b. omega arith))
    go (no k) l =
        outside_at from many (λ e. each) c (λ a b. omega arith) ∙ sym (outside_at frame n (λ e. each) (w.first + c) (λ a b. omega arith))

module _ (w : Window) (frame bits rest : ℕ) (h : frame + 2 ^ bits ≤ longest_side) (few : rest ≤ most_levels) where
  pub bits_shift : bits < 64
  bits_shift = omega (arith, few_bits frame bits h)

  pub rest_shift : rest < 64
  rest_shift = omega arith

  pub block_end : frame + (1 * 2 ^ bits) % 2 ^ 64 < 2 ^ 64
  block_end = rw (shifted_one bits bits_shift) (omega arith)

  module _ (row : List ℕ) (t : Takes w (2 ^ rest) row) (from to : ℕ) (f : from ≡ places_before w frame)
      (g : to ≡ places_before w (frame + (1 * 2 ^ bits) % 2 ^ 64)) where
    pub block_order : from ≤ to
    block_order = omega (arith, f, g)

    pub block_fits : Roomy to ((1 * 2 ^ rest) % 2 ^ 64) row
    block_fits =
        record {
          long = omega (arith, g, t.long);
          under = λ c k. rw (shifted_one rest rest_shift) (omega (arith, t.under c (omega (arith, g))));
        }

    pub block_adds : (after : List ℕ) → AddsEach from to ((1 * 2 ^ rest) % 2 ^ 64) row after → Adds (length_of w) (black_of w frame bits rest) row after
    block_adds after k =
        let x = k.adds (length_of w) (omega (arith, g)) in
        record {
          long = x.long;
          front = λ c l.
              x.front c l
              ∙ ap (λ (y : ℕ). get_or row c 0 + y)
              (rw (f, g, shifted_one bits bits_shift, shifted_one rest rest_shift) (same_run w frame (2 ^ bits) (2 ^ rest) c l));
          behind = x.behind;
        }

pub ruleset block_laws = (rules, bits_shift, rest_shift, block_end, block_order, block_fits, block_adds)

-- ---- the laws of `bits_below`
module _ (u : Universe) (axes : List ℕ) (left bits : ℕ) (h : Halved u axes left bits) where
  below : left - 1 < levels u
  below = omega (arith, h.some, h.few)

  again : suc (left - 1) ≡ left
  again = omega (arith, h.some)

  pub below_some : 1 ≤ left
  below_some = h.some

  pub below_place : left - 1 < most_levels
  below_place = omega (arith, below, levels_few u (accepted u h.accepts))

  pub below_room : (left - 1) * 8 < 2 ^ 64
  below_room = omega (arith, below_place)

  pub below_axes : 1 ≤ u.axes
  below_axes = (accepted u h.accepts).some_axes

  axis_is : get_or axes (left - 1) 0 ≡ axis_at u (levels u - suc (left - 1))
  axis_is = ap (λ (l : List ℕ). get_or l (left - 1) 0) h.table ∙ axes_left_at u h.accepts (left - 1) below

  one_more : get_or axes (left - 1) 0 ≡ u.axes - 1 → bits ≡ frame_bits u (left - 1) + 1
  one_more e = h.wide ∙ ap (frame_bits u) (sym again) ∙ bits_across u h.accepts (left - 1) below (sym axis_is ∙ e)

  pub below_less : get_or axes (left - 1) 0 ≡ u.axes - 1 → 1 ≤ bits
  below_less e = omega (arith, one_more e)

  pub below_across : get_or axes (left - 1) 0 ≡ u.axes - 1 → bits - 1 ≡ frame_bits u (left - 1)
  below_across e = omega (arith, one_more e)

  pub below_along : (get_or axes (left - 1) 0 ≡ u.axes - 1 → ⊥) → bits ≡ frame_bits u (left - 1)
  below_along n = h.wide ∙ ap (frame_bits u) (sym again) ∙ bits_along_lem u h.accepts (left - 1) below (λ e. n (axis_is ∙ e))

pub ruleset below_laws = (rules, below_some, below_place, below_room, below_axes, below_less, below_across, below_along)

-- ---- the laws of `high_frame`
module _ (frame bits below : ℕ) (less : below ≤ bits) (h : frame + 2 ^ bits ≤ longest_side) where
  pub wide_shift : bits < 64
  wide_shift = omega (arith, few_bits frame bits h)

  pub narrow_shift : below < 64
  narrow_shift = omega (arith, wide_shift)

  pub later_less : (1 * 2 ^ below) % 2 ^ 64 ≤ (1 * 2 ^ bits) % 2 ^ 64
  later_less = rw (shifted_one bits wide_shift, shifted_one below narrow_shift) (pow_mono less)

  pub later_fits : frame + ((1 * 2 ^ bits) % 2 ^ 64 - (1 * 2 ^ below) % 2 ^ 64) < 2 ^ 64
  later_fits = rw (shifted_one bits wide_shift, shifted_one below narrow_shift) (omega arith)

  pub later_is : frame + ((1 * 2 ^ bits) % 2 ^ 64 - (1 * 2 ^ below) % 2 ^ 64) ≡ frame + (2 ^ bits - 2 ^ below)
  later_is = rw (shifted_one bits wide_shift, shifted_one below narrow_shift)

pub ruleset later_laws = (rules, wide_shift, narrow_shift, later_less, later_fits, later_is)

-- ---- the sum of the first counts, as the library sums them
pub sum_taken : (n : ℕ) (row : List ℕ) → n ≤ length row → sum n (λ c. get_or row c 0) ≡ list-sum (take n row)
unfolding sum
sum_taken zero row h = refl
sum_taken (suc n) row h =
    let e : n + 1 ≡ suc n = omega arith in
    omega (arith, sum_taken n row (omega arith), rw e at (sum_by_more (λ (x : ℕ). x) row n 0 (omega arith)))
