-- The halving of a block with some levels left, as the tables of axes and lengths have it.
use mathlib.Core.Path.{◌≡◌, ap, ◌∙◌}
use Prim.Native.Nat.{ℕ, ◌-◌, ◌≤◌, ◌<◌}
use mathlib.Core.List.{List}
use native.Mathlib.Omega.{arith}
use native.Mathlib.Nat.{le_trans}
use lib.Pow.{pow_mono}
use lib.ListN.{get_or}
use Rattle.universe.specs.declared.Universe.{Universe}
use Rattle.universe.specs.Universe.{longest_side, bits_along, block_side}
use Rattle.universe.proofs.Universes.{Accepted, accepted, side_few}
use Rattle.universe.proofs.Questions.{axes_left_at}
use Rattle.masks.specs.Steps.{axis_left, side_left}
use Rattle.at_once.specs.Words.{word_levels, Halvings}

-- a half is no longer than the longest side
pub side_short : (u : Universe) → Accepted u → (j : ℕ) → side_left u j ≤ longest_side
unfolding block_side
side_short u accept j = le_trans (pow_mono {j = bits_along u (axis_left u j)} (omega arith)) (side_few u accept (axis_left u j))

module _ {frame : ℕ} {table lengths : List ℕ} {left : ℕ} (h : Halvings frame table lengths left) (k : left ≡ 0 → ⊥) where
  pub word_place : left - 1 < word_levels
  word_place = omega (arith, h.few)

  pub axis_tabled : get_or table (left - 1) 0 ≡ axis_left h.universe (left - 1)
  axis_tabled = ap (λ t. get_or t (left - 1) 0) h.tabled.axis_at_lem ∙ axes_left_at h.universe h.accepted (left - 1) (omega (arith, h.above))

  pub length_tabled : get_or lengths (left - 1) 0 ≡ side_left h.universe (left - 1)
  length_tabled = h.tabled.length_at (left - 1) word_place (omega (arith, h.above))

  pub length_short : get_or lengths (left - 1) 0 ≤ longest_side
  length_short = rw length_tabled (side_short h.universe (accepted h.universe h.accepted) (left - 1))

  -- the halvings of its halves
  abbrev pub fewer : Halvings frame table lengths (left - 1)
  fewer = record {
    universe = h.universe;
    accepted = h.accepted;
    frame_is = h.frame_is;
    tabled = h.tabled;
    few = omega (arith, h.few);
    above = omega (arith, h.above);
  }
