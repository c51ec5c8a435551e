-- The block that the arrays hold. Halving the side along the axis of the levels left gives both halves: the low one has the block's own low places, the high
-- one lies half a side further along that axis.
use Prim.Native.Nat.{ℕ, zero, suc, ◌+◌, ◌-◌, ◌*◌, ◌^◌, ◌≤◌, ◌<◌}
use mathlib.Core.Path.{◌≡◌, refl, sym, ◌∙◌}
use mathlib.Core.List.{List, [], ◌∷◌}
use native.Mathlib.Omega.{arith}
use native.Mathlib.Decide.{ℕ_discrete, dec_lt}
use lib.ListN.{length, get_or, replicate, length-set, get_or-eq_default}
use lib.Seq.{get_or-set_same, get_or-set_other}
use Rattle.lemmas.proofs.Grid.{listed_length, listed_at}
use Rattle.universe.specs.declared.Universe.{Universe}
use Rattle.universe.specs.Universe.{most_axes, longest_side, universe_refusal, levels, axis_at, block_side}
use Rattle.universe.specs.Questions.{side_answer, axes_left}
use Rattle.universe.specs.Block.{whole_block, low, high}
use Rattle.universe.proofs.Universes.{Accepted, accepted, side_few, axis_below, side_first, side_halved, side_kept}
use Rattle.universe.proofs.Questions.{side_is, side_beyond, axes_left_at}
use Rattle.convert.specs.Small.{SmallPlaces}
use Rattle.convert.specs.Blocks.{Standing, block_left, whole_sides, half_side, halved_sides, high_lows}

-- a block that ends inside the universe has small low places and small sides
pub low_small : {u : Universe} {left : ℕ} {lows side : List ℕ} → Standing u left lows side → SmallPlaces lows
low_small s = record { place = λ i. record { most = omega (arith, (s.inside i).most) } }

pub side_small : {u : Universe} {left : ℕ} {lows side : List ℕ} → Standing u left lows side → SmallPlaces side
side_small s = record { place = λ i. record { most = omega (arith, (s.inside i).most) } }

-- places copied one by one
pub four : (l : List ℕ) → length l ≡ most_axes → (get_or l 0 0 ∷ get_or l 1 0 ∷ get_or l 2 0 ∷ get_or l 3 0 ∷ []) ≡ l
four [] e = absurd (omega arith)
four (a ∷ []) e = absurd (omega arith)
four (a ∷ b ∷ []) e = absurd (omega arith)
four (a ∷ b ∷ c ∷ []) e = absurd (omega arith)
four (a ∷ b ∷ c ∷ d ∷ []) e = refl
four (a ∷ b ∷ c ∷ d ∷ x ∷ l) e = absurd (omega arith)

-- ---- the whole universe's block
pub zeros : (n i : ℕ) → ◌≡◌ {A = ℕ} (get_or (replicate n 0) i 0) 0
zeros zero i = refl
zeros (suc n) zero = refl
zeros (suc n) (suc i) = zeros n i

module _ (u : Universe) (e : universe_refusal u ≡ 0) where
  side_answered : (i : ℕ) → side_answer u i ≤ longest_side
  side_answered i = go (dec_lt i u.axes)
    where
      go : Dec (i < u.axes) → side_answer u i ≤ longest_side
      go (yes h) = rw (side_is u refl e i h) (side_few u (accepted u e) i)
      go (no n) = rw (← side_beyond u refl e i (omega arith)) (omega arith)

  whole_few : (i : ℕ) → get_or (whole_sides u) i 0 ≤ longest_side
  whole_few i = go (dec_lt i most_axes)
    where
      go : Dec (i < most_axes) → get_or (whole_sides u) i 0 ≤ longest_side
      go (yes h) = rw (listed_at most_axes (side_answer u) i h) (side_answered i)
      go (no n) = rw (get_or-eq_default (whole_sides u) 0 {n = i} (omega (arith, listed_length most_axes (side_answer u)))) (omega arith)

  pub whole_standing : Standing u (levels u) (replicate most_axes 0) (whole_sides u)
  whole_standing =
      let a = accepted u e in
      let z : levels u - levels u ≡ 0 = omega arith in
      record {
        above = omega arith;
        low_places_lem = refl;
        side_places = listed_length most_axes (side_answer u);
        inside = λ i. record { most = omega (arith, zeros most_axes i, whole_few i) };
        along = λ i h. rw z (listed_at most_axes (side_answer u) i (omega (arith, a.few_axes)) ∙ side_is u refl e i h ∙ sym (side_first u i));
      }

pub whole_is : (u : Universe) → block_left u (levels u) (replicate most_axes 0) ≡ whole_block u
whole_is u = let z : levels u - levels u ≡ 0 = omega arith in rw z

-- ---- a block's halves
-- the axis of the levels left
pub axis_is : (u : Universe) → universe_refusal u ≡ 0 → {axes : List ℕ} → axes ≡ axes_left u → (n : ℕ) → suc n ≤ levels u →
    get_or axes n 0 ≡ axis_at u (levels u - suc n)
axis_is u e o n h = rw o (axes_left_at u e n h)

module _ (u : Universe) (e : universe_refusal u ≡ 0) (n : ℕ) (lows side : List ℕ) (s : Standing u (suc n) lows side)
    (axis : ℕ) (at_level : axis ≡ axis_at u (levels u - suc n)) where
  a : Accepted u
  a = accepted u e

  level : ℕ
  level = levels u - suc n

  level_next : suc level ≡ levels u - n
  unfolding level
  level_next = omega (arith, s.above)

  axis_at_lem : axis ≡ axis_at u level
  unfolding level
  axis_at_lem = at_level

  pub axis_in : axis < u.axes
  axis_in = rw axis_at_lem (axis_below u a.some_axes level)

  pub axis_few : axis < most_axes
  axis_few = omega (arith, axis_in, a.few_axes)

  -- along the axis a block is twice as long as its halves, along the others as long
  halved : block_side u level axis ≡ 2 * block_side u (levels u - n) axis
  unfolding level
  halved = rw (at_level, ← level_next) (side_halved u a.some_axes level (omega (arith, s.above)))

  kept : (i : ℕ) → (axis ≡ i → ⊥) → block_side u (levels u - n) i ≡ block_side u level i
  kept i d = rw (← level_next) (side_kept u level i (λ p. d (axis_at_lem ∙ p)))

  along : (i : ℕ) → i < u.axes → get_or side i 0 ≡ block_side u level i
  unfolding level
  along = s.along

  pub half_is : half_side side axis ≡ block_side u (levels u - n) axis
  half_is = omega (arith, along axis axis_in, halved)

  pub side_even : get_or side axis 0 ≡ 2 * half_side side axis
  side_even = omega (arith, along axis axis_in, halved, half_is)

  -- a half along the axis ends no later than the block
  pub side_set : get_or (halved_sides side axis) axis 0 ≡ half_side side axis
  side_set = get_or-set_same side axis (half_side side axis) 0 (omega (arith, axis_few, s.side_places))

  sides_along : (i : ℕ) → i < u.axes → Dec (i ≡ axis) → get_or (halved_sides side axis) i 0 ≡ block_side u (levels u - n) i
  sides_along i h (yes e) = rw (e, side_set) half_is
  sides_along i h (no d) = rw (get_or-set_other side axis i (half_side side axis) 0 d) (along i h ∙ sym (kept i (λ p. d (sym p))))

  low_set : get_or (high_lows lows side axis) axis 0 ≡ get_or lows axis 0 + half_side side axis
  low_set = get_or-set_same lows axis (get_or lows axis 0 + half_side side axis) 0 (omega (arith, axis_few, s.low_places_lem))

  pub high_ends : get_or lows axis 0 + half_side side axis < 2 ^ 64
  high_ends = omega (arith, (s.inside axis).most)

  lower_ends : (i : ℕ) → Dec (i ≡ axis) → get_or lows i 0 + get_or (halved_sides side axis) i 0 ≤ longest_side
  lower_ends i (yes e) = rw (e, side_set) (omega (arith, (s.inside axis).most))
  lower_ends i (no d) = rw (get_or-set_other side axis i (half_side side axis) 0 d) (s.inside i).most

  upper_ends : (i : ℕ) → Dec (i ≡ axis) → get_or (high_lows lows side axis) i 0 + get_or (halved_sides side axis) i 0 ≤ longest_side
  upper_ends i (yes e) = rw (e, side_set, low_set) (omega (arith, (s.inside axis).most))
  upper_ends i (no d) =
      rw (get_or-set_other side axis i (half_side side axis) 0 d, get_or-set_other lows axis i (get_or lows axis 0 + half_side side axis) 0 d)
      (s.inside i).most

  pub lower_standing : Standing u n lows (halved_sides side axis)
  lower_standing =
      record {
        above = omega (arith, s.above);
        low_places_lem = s.low_places_lem;
        side_places = length-set side axis (half_side side axis) ∙ s.side_places;
        inside = λ i. record { most = lower_ends i (ℕ_discrete i axis) };
        along = λ i h. sides_along i h (ℕ_discrete i axis);
      }

  pub upper_standing : Standing u n (high_lows lows side axis) (halved_sides side axis)
  upper_standing =
      record {
        above = omega (arith, s.above);
        low_places_lem = length-set lows axis (get_or lows axis 0 + half_side side axis) ∙ s.low_places_lem;
        side_places = lower_standing.side_places;
        inside = λ i. record { most = upper_ends i (ℕ_discrete i axis) };
        along = lower_standing.along;
      }

  pub lower_is : low (block_left u (suc n) lows) ≡ block_left u n lows
  unfolding level
  lower_is = rw level_next

  pub upper_is : high (block_left u (suc n) lows) ≡ block_left u n (high_lows lows side axis)
  unfolding level
  upper_is = rw (half_is, at_level, level_next)
