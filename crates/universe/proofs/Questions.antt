-- What the universe's questions answer, by whether the universe is accepted and the axis or level is there; and that each answer is as small as the
-- limits say.
use Prim.Native.Nat.{ℕ, suc, ◌-◌, ◌^◌, ◌≤◌, ◌<◌}
use mathlib.Core.Path.{◌≡◌, refl, ◌∙◌}
use mathlib.Core.Bool.{Bool, true, false, cond, ◌&&◌}
use native.Mathlib.Omega.{arith}
use native.Mathlib.Decide.{ℕ_discrete}
use lib.Dec.{eqb, leb}
use lib.ListN.{length, get_or}
use borrow.Author.Tests.{eq-eqb, ne_eqb, lt-ltb, le-ltb, le-leb, eqb-true, leb-true}
use Rattle.lemmas.specs.Sums.{sum}
use Rattle.lemmas.proofs.Machine.{shifted_one}
use Rattle.lemmas.proofs.Grid.{listed_at, listed_length}
use Rattle.lemmas.proofs.Sums.{and_left, and_right, and_both}
use Rattle.universe.specs.declared.Universe.{Universe}
use Rattle.universe.specs.Universe.{most_levels, universe_refusal, bits_along, side_along, levels, axis_at, without_axis}
use Rattle.universe.specs.Questions.{levels_answer, bits_answer, side_answer, axes_left, voxels_left}
use Rattle.universe.specs.Questions.{is_one_of, no_universe, without_answer}
use Rattle.universe.proofs.Checked.{err_accepts, err_refuses}
use Rattle.universe.proofs.Universes.{accepted, levels_few, levels_fit, shifts_by, axis_below, some_axes}
use Rattle.universe.proofs.Without.{without_accepted}

-- `number` is what the universe's own check gave
module _ (u : Universe) {number : ℕ} (e : number ≡ universe_refusal u) where
  -- a refused universe
  module _ (h : number ≡ 0 → ⊥) where
    refused : eqb (universe_refusal u) 0 ≡ eqb 1 0
    refused = rw (← e) (ne_eqb number 0 h)

    pub levels_refused : 0 ≡ levels_answer u
    unfolding levels_answer
    levels_refused = rw refused

    pub side_refused : (i : ℕ) → 0 ≡ side_answer u i
    unfolding side_answer
    side_refused i = rw refused

  -- an accepted one
  module _ (z : number ≡ 0) where
    pub levels_are : levels_answer u ≡ levels u
    unfolding levels_answer
    levels_are = rw (← e, z)

    pub levels_told : {told : ℕ} → told ≡ levels_answer u → told ≡ levels u
    levels_told f = f ∙ levels_are

    module _ (i : ℕ) where
      pub bits_are : i < u.axes → bits_answer u i ≡ bits_along u i
      unfolding bits_answer
      bits_are h = rw (← e, z, lt-ltb i u.axes h)

      pub side_is : i < u.axes → side_answer u i ≡ side_along u i
      unfolding side_answer
      side_is h = rw (← e, z, lt-ltb i u.axes h)

      pub side_beyond : u.axes ≤ i → 0 ≡ side_answer u i
      unfolding side_answer
      side_beyond h = rw (← e, z, le-ltb i u.axes h)

-- no universe answers more levels than there may be
pub levels_answered : (u : Universe) → levels_answer u ≤ most_levels
unfolding levels_answer
levels_answered u = go (ℕ_discrete (universe_refusal u) 0)
  where
    go : Dec (universe_refusal u ≡ 0) → cond (eqb (universe_refusal u) 0) (levels u) 0 ≤ most_levels
    go (yes z) = rw (eq-eqb (universe_refusal u) 0 z) (levels_few u (accepted u z))
    go (no n) = rw (ne_eqb (universe_refusal u) 0 n) (omega arith)

-- what the code of the questions asks: what a check told, the bits of the axes added up, and a shift by few bits
pub levels_summed : (u : Universe) {found : ℕ} → found ≡ sum u.axes (bits_along u) → found ≡ levels u
unfolding levels
levels_summed u e = e

pub ruleset asked = (err_accepts, err_refuses, levels_summed, levels_fit, shifts_by, shifted_one)

-- ---- the axes by levels left

pub axes_left_long : (u : Universe) → length (axes_left u) ≡ most_levels
unfolding axes_left
axes_left_long u = listed_length most_levels _

module _ (u : Universe) (z : universe_refusal u ≡ 0) (n : ℕ) (h : n < levels u) where
  -- at place n the axis of a block with n + 1 levels left
  pub axes_left_at : get_or (axes_left u) n 0 ≡ axis_at u (levels u - suc n)
  unfolding axes_left
  axes_left_at =
      listed_at most_levels _ n (omega (arith, levels_few u (accepted u z)))
      ∙ rw (lt-ltb n (levels_answer u) (omega (arith, levels_are u refl z)))

  pub axes_left_below : get_or (axes_left u) n 0 < u.axes
  axes_left_below = rw axes_left_at (axis_below u (some_axes u n h) (levels u - suc n))

-- ---- the voxels of a block

pub voxels_are : (left : ℕ) → left ≤ most_levels → voxels_left left ≡ 2 ^ left
unfolding voxels_left
voxels_are left h = rw (le-leb left most_levels h)

-- ---- the universe without an axis, counted from 1

-- what it is to be one of two or more axes
pub record OneOf (u : Universe) (axis : ℕ) : Type 0 where
  pub fine : universe_refusal u ≡ 0
  pub two : 2 ≤ u.axes
  pub some : 1 ≤ axis
  pub few : axis ≤ u.axes

module _ (u : Universe) (axis : ℕ) where
  pub one_of : is_one_of u axis ≡ true → OneOf u axis
  one_of e =
      let fine : Bool = eqb (universe_refusal u) 0 in
      let two : Bool = leb 2 u.axes in
      let some : Bool = leb 1 axis in
      let few : Bool = leb axis u.axes in
      let three : fine && two && some ≡ true = and_left (fine && two && some) few e in
      let both : fine && two ≡ true = and_left (fine && two) some three in
      record {
        fine = eqb-true _ _ (and_left fine two both);
        two = leb-true _ _ (and_right fine two both);
        some = leb-true _ _ (and_right (fine && two) some three);
        few = leb-true _ _ (and_right (fine && two && some) few e);
      }

  pub is_one_of_lem : OneOf u axis → is_one_of u axis ≡ true
  is_one_of_lem w = and_both (and_both (and_both (eq-eqb _ _ w.fine) (le-leb _ _ w.two)) (le-leb _ _ w.some)) (le-leb _ _ w.few)

  module _ (one : is_one_of u axis ≡ true) where
    without_is : without_answer u axis ≡ without_axis u (axis - 1)
    unfolding without_answer
    without_is = rw one

    -- it is a universe
    pub without_fine : universe_refusal (without_answer u axis) ≡ 0
    without_fine = rw without_is (without_accepted u (axis - 1) (one_of one).two (omega (arith, (one_of one).some, (one_of one).few)) (one_of one).fine)

  pub without_none : is_one_of u axis ≡ false → no_universe ≡ without_answer u axis
  unfolding without_answer
  without_none e = rw e

  -- THEOREM: the universe without an axis is refused exactly where the axis is not one of two or more of an accepted universe
  pub without_refused : is_one_of u axis ≡ false → universe_refusal (without_answer u axis) ≡ 2
  unfolding universe_refusal
  without_refused e = rw (← without_none e)

  pub accepted_one : universe_refusal (without_answer u axis) ≡ 0 → is_one_of u axis ≡ true
  accepted_one e = go (is_one_of u axis) refl
    where
      go : (t : Bool) → is_one_of u axis ≡ t → is_one_of u axis ≡ true
      go true f = f
      go false f = absurd (omega (arith, e, without_refused f))
