-- How often the halves of a block have been halved across its axis: a loop from the first level down counts, for each axis, the halvings so far.
use Prim.Native.Nat.{ℕ, suc, ◌+◌, ◌-◌, ◌≤◌, ◌<◌}
use mathlib.Core.Path.{◌≡◌, refl, sym, ◌∙◌}
use mathlib.Core.List.{List}
use native.Mathlib.Omega.{arith}
use native.Mathlib.Decide.{ℕ_discrete}
use lib.ListN.{length, get_or, set, replicate, length-set, length-replicate}
use lib.Seq.{get_or-set_same, get_or-set_other}
use Rattle.universe.specs.declared.Universe.{Universe}
use Rattle.universe.specs.Universe.{most_axes, most_levels, universe_refusal, levels, axis_at, halvings}
use Rattle.universe.specs.Questions.{axes_left, levels_answer}
use Rattle.universe.proofs.Universes.{accepted, levels_few, axis_below, halvings_first, halvings_here, halvings_kept}
use Rattle.universe.proofs.Questions.{levels_told}
use Rattle.convert.specs.Blocks.{Halved}
use Rattle.convert.proofs.Blocks.{axis_is, zeros}

-- the levels above those left are counted
pub record Counted (u : Universe) (axes turns counts : List ℕ) (left : ℕ) : Type 0 where
  pub reached : left ≤ levels u
  pub few_levels : levels u ≤ most_levels
  pub few_axes : u.axes ≤ most_axes
  pub axis_is : (n : ℕ) → n < levels u → get_or axes n 0 ≡ axis_at u (levels u - suc n)
  pub axis_in : (n : ℕ) → n < levels u → get_or axes n 0 < u.axes
  pub places : length turns ≡ most_levels
  pub count_places : length counts ≡ most_axes
  pub counts_few : (i : ℕ) → get_or counts i 0 + left ≤ levels u
  pub counts_are : (i : ℕ) → i < u.axes → get_or counts i 0 ≡ halvings u (levels u - left) i
  pub often : (n : ℕ) → left ≤ n → n < levels u → get_or turns n 0 ≡ halvings u (levels u - n) (axis_at u (levels u - suc n))

pub counted_none : {u : Universe} {axes : List ℕ} {left : ℕ} → universe_refusal u ≡ 0 → axes ≡ axes_left u → left ≡ levels_answer u →
    Counted u axes (replicate most_levels 0) (replicate most_axes 0) left
counted_none {u} {axes} {left} e o f =
    let l : left ≡ levels u = levels_told u refl e f in
    let z : levels u - left ≡ 0 = omega (arith, l) in
    record {
      reached = omega (arith, l);
      few_levels = levels_few u (accepted u e);
      few_axes = (accepted u e).few_axes;
      axis_is = axis_is u e o;
      axis_in = λ n h. rw (axis_is u e o n h) (axis_below u (accepted u e).some_axes (levels u - suc n));
      places = length-replicate {A = ℕ} most_levels 0;
      count_places = length-replicate {A = ℕ} most_axes 0;
      counts_few = λ i. omega (arith, l, zeros most_axes i);
      counts_are = λ i h. zeros most_axes i ∙ sym (rw z (halvings_first u i));
      often = λ n p q. absurd (omega (arith, l));
    }

module _ {u : Universe} {axes turns counts : List ℕ} {left : ℕ} (c : Counted u axes turns counts left) (some : 0 < left) where
  abbrev axis : ℕ
  axis = get_or axes (left - 1) 0

  level_next : suc (levels u - left) ≡ levels u - (left - 1)
  level_next = omega (arith, c.reached)

  axis_at_lem : axis ≡ axis_at u (levels u - left)
  axis_at_lem =
      let z : suc (left - 1) ≡ left = omega arith in
      rw z at (c.axis_is (left - 1) (omega (arith, c.reached)))

  axis_place : axis < most_axes
  axis_place = omega (arith, c.axis_in (left - 1) (omega (arith, c.reached)), c.few_axes)

  abbrev more : List ℕ
  more = set counts axis (get_or counts axis 0 + 1)

  more_here : get_or more axis 0 ≡ get_or counts axis 0 + 1
  more_here = get_or-set_same counts axis (get_or counts axis 0 + 1) 0 (omega (arith, axis_place, c.count_places))

  here : get_or counts axis 0 + 1 ≡ halvings u (levels u - (left - 1)) axis
  here =
      let k = c.counts_are axis (c.axis_in (left - 1) (omega (arith, c.reached))) in
      rw (← level_next, axis_at_lem) (omega (arith, halvings_here u (levels u - left), rw axis_at_lem at k))

  more_few : (i : ℕ) → Dec (i ≡ axis) → get_or more i 0 + (left - 1) ≤ levels u
  more_few i (yes f) = rw f (omega (arith, more_here, c.counts_few axis))
  more_few i (no d) = omega (arith, get_or-set_other counts axis i (get_or counts axis 0 + 1) 0 d, c.counts_few i)

  more_are : (i : ℕ) → i < u.axes → Dec (i ≡ axis) → get_or more i 0 ≡ halvings u (levels u - (left - 1)) i
  more_are i h (yes f) = rw f (more_here ∙ here)
  more_are i h (no d) =
      get_or-set_other counts axis i (get_or counts axis 0 + 1) 0 d ∙ c.counts_are i h
      ∙ sym (rw (← level_next) (halvings_kept u (levels u - left) i (λ p. d (sym (axis_at_lem ∙ p)))))

  turned_often : (n : ℕ) → left - 1 ≤ n → n < levels u → Dec (n ≡ left - 1) →
      get_or (set turns (left - 1) (get_or more axis 0)) n 0 ≡ halvings u (levels u - n) (axis_at u (levels u - suc n))
  turned_often n p q (yes f) =
      let z : levels u - suc (left - 1) ≡ levels u - left = omega (arith, some) in
      let r : left - 1 < length turns = omega (arith, c.reached, c.few_levels, c.places) in
      rw (f, z, ← axis_at_lem) (get_or-set_same turns (left - 1) (get_or more axis 0) 0 r ∙ more_here ∙ here)
  turned_often n p q (no d) = get_or-set_other turns (left - 1) n (get_or more axis 0) 0 d ∙ c.often n (omega arith) q

  pub counted_next : Counted u axes (set turns (left - 1) (get_or more axis 0)) more (left - 1)
  counted_next = record {
    reached = omega (arith, c.reached);
    few_levels = c.few_levels;
    few_axes = c.few_axes;
    axis_is = c.axis_is;
    axis_in = c.axis_in;
    places = length-set turns (left - 1) (get_or more axis 0) ∙ c.places;
    count_places = length-set counts axis (get_or counts axis 0 + 1) ∙ c.count_places;
    counts_few = λ i. more_few i (ℕ_discrete i axis);
    counts_are = λ i h. more_are i h (ℕ_discrete i axis);
    often = λ n p q. turned_often n p q (ℕ_discrete n (left - 1));
  }

pub counted_all : {u : Universe} {axes turns counts : List ℕ} {left : ℕ} → Counted u axes turns counts left → left ≤ 0 → Halved u turns
counted_all c l = record { places = c.places; often = λ n h. c.often n (omega arith) h }
