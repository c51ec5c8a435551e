-- Rules 1.2 and 1.3 where all axes have equal bits: there are d · k levels, and level l halves axis l mod d. Of any universe with equal bits, and of the
-- universe that rule 1.10 gives for d and k.
use mathlib.Core.Path.{◌≡◌}
use Prim.Native.Nat.{ℕ, ◌-◌, ◌*◌, ◌%◌, ◌≤◌, ◌<◌}
use native.Mathlib.Omega.{arith}
use native.Mathlib.Decide.{ℕ_discrete}
use borrow.Author.Tests.{eq-eqb, ne_eqb}
use Rattle.universe.specs.declared.Universe.{Universe}
use Rattle.universe.specs.Universe.{most_bits, bits_along, levels, order, axis_at, equal_bits}
use Rattle.universe.proofs.Turns.{equal_sum, equal_turns}
use Rattle.universe.proofs.Universes.{some_axes, bits_within}

module _ (u : Universe) (k : ℕ) (equal : (i : ℕ) → i < u.axes → bits_along u i ≡ k) where
  pub equal_levels : levels u ≡ u.axes * k
  unfolding levels
  equal_levels = equal_sum (bits_along u) u.axes k equal

  pub equal_axis : (l : ℕ) → l < levels u → axis_at u l ≡ l % u.axes
  unfolding axis_at order
  equal_axis l h =
      let some = some_axes u l h in
      let enough : k ≤ levels u = omega (arith, bits_within u 0 some, equal 0 some) in
      equal_turns (bits_along u) u.axes k equal (levels u) l enough (omega (arith, equal_levels))

-- ---- the universe of d axes with k bits each

module _ (d k : ℕ) (few : k ≤ most_bits) where
  pub equal_along : (i : ℕ) → i < d → bits_along (equal_bits d k) i ≡ k
  unfolding equal_bits bits_along
  equal_along i h = go (ℕ_discrete i (d - 1))
    where
      go : Dec (i ≡ d - 1) → bits_along (equal_bits d k) i ≡ k
      go (yes e) = rw (eq-eqb i (d - 1) e)
      go (no n) = rw (ne_eqb i (d - 1) n, ne_eqb d 1 (λ e. omega arith))

  pub levels_product : levels (equal_bits d k) ≡ d * k
  unfolding equal_bits
  levels_product = equal_levels (equal_bits d k) k equal_along

  pub axis_in_turn : (l : ℕ) → l < levels (equal_bits d k) → axis_at (equal_bits d k) l ≡ l % d
  unfolding equal_bits
  axis_in_turn = equal_axis (equal_bits d k) k equal_along
