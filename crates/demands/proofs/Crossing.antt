-- One halfspace over the blocks of a level. Its least value over a block is that at the corner which is low along the axes with coefficients of 0
-- and more and high along the others, its greatest value that at the opposite corner; these corners are of one kind for all blocks of the level. An
-- active block is one that the test "the value is above 0" crosses, and so the crossed cells of a grid bound the active blocks of a level.
use Prim.Native.Nat.{ℕ, ◌+◌, ◌*◌, ◌≤◌}
use mathlib.Core.Path.{◌≡◌, refl}
use mathlib.Core.Bool.{Bool, true, false, not}
use native.Mathlib.Omega.{arith}
use lib.IntN.{ℤ, pos, negsuc}
use lib.Signed.{◌≤ℤ◌, ◌<ℤ◌, lt_z, non_neg}
use Rattle.lemmas.specs.Sums.{sum}
use Rattle.lemmas.specs.Grid.{count, grid, stepped}
use Rattle.lemmas.proofs.Whole.{up, dn, is_eq, is_le, lt_lt_z, le_lt_z, lt_z_true, lt_z_false, le_in, le_out, lt_out}
use Rattle.lemmas.proofs.Sums.{sum_cong}
use Rattle.lemmas.proofs.Totals.{weighted_le}
use Rattle.lemmas.proofs.Grid.{stepped_along, crossed_cells}
use Rattle.universe.specs.declared.Universe.{Universe}
use Rattle.universe.specs.declared.Block.{Block}
use Rattle.universe.specs.Universe.{most_axes, blocks_along, block_side}
use Rattle.universe.specs.Block.{low_along}
use Rattle.universe.specs.Room.{blocks_at, inner_blocks_at}
use Rattle.csg.specs.Halfspace.{Halfspace, Mark, decided, undecided, value_at, least, greatest, mark_over}
use Rattle.csg.proofs.Halfspace.{rise, fall, end_along, value_is, least_is, greatest_is, active_crosses}
use Rattle.demands.proofs.Counting.{grid_block, low_along_lem, count_undecided}

-- along one axis, from the place w × p over the length w: what a coefficient's two parts give at the ends, the end of each kind of corner taken
greatest_end : (a : ℤ) (w p : ℕ) → (up a * (w * p + w) ≡ up a * (w * (p + count (non_neg a)))) × (dn a * (w * p) ≡ dn a * (w * (p + count (non_neg a))))
unfolding up dn
greatest_end (pos n) w p = (omega arith, omega arith)
greatest_end (negsuc n) w p = (omega arith, omega arith)

least_end : (a : ℤ) (w p : ℕ) → (up a * (w * p) ≡ up a * (w * (p + count (not (non_neg a))))) × (dn a * (w * p + w) ≡ dn a * (w * (p + count (not (non_neg a)))))
unfolding up dn
least_end (pos n) w p = (omega arith, omega arith)
least_end (negsuc n) w p = (omega arith, omega arith)

-- a test that holds above 0 cannot hold at the least value and fail at the greatest, and an active leaf has it fail and hold
above_zero : (m : Mark) (x y : ℤ) → x ≤ℤ y → (m ≡ undecided → (x <ℤ pos 0) × (pos 0 <ℤ y)) → count_undecided m + count (lt_z (pos 0) x) ≤ count (lt_z (pos 0) y)
above_zero (decided c) x y h k = go (lt_z (pos 0) x) (lt_z (pos 0) y) refl refl
  where
    go : (s t : Bool) → lt_z (pos 0) x ≡ s → lt_z (pos 0) y ≡ t → 0 + count s ≤ count t
    go true true e f = omega arith
    go true false e f = omega (arith, le_out h, lt_out (lt_z_true (pos 0) x e), le_out (lt_z_false (pos 0) y f))
    go false true e f = omega arith
    go false false e f = omega arith
above_zero undecided x y h k =
    let q = k refl in
    let below : x ≤ℤ pos 0 = le_in (omega (arith, lt_out q.0)) in
    rw (lt_lt_z q.1, le_lt_z below) (omega arith)

module _ (u : Universe) (few_axes : u.axes ≤ most_axes) (l : ℕ) (h : Halfspace) where
  -- whether the greatest value over a block is at its high end along an axis
  abbrev rising : ℕ → Bool
  rising i = non_neg (h.coefficient i)

  -- the value at a point of the level's grid
  value_on : (ℕ → ℕ) → ℤ
  value_on p = value_at u h (λ i. block_side u l i * p i)

  module _ (p : ℕ → ℕ) where
    abbrev block : Block
    block = grid_block u l p

    -- a weight at an end of the block, and at a corner of a kind, axis by axis
    at_low : (s : ℕ → Bool) (v : ℕ → ℕ) → ((i : ℕ) → v i * (block_side u l i * p i) ≡ v i * (block_side u l i * (p i + count (s i)))) →
        sum u.axes (λ i. v i * low_along block i) ≡ sum u.axes (λ i. v i * (block_side u l i * stepped u.axes s p i))
    at_low s v e = sum_cong u.axes _ _ (λ i k. rw (low_along_lem u l p i (omega arith), stepped_along u.axes i s p k) (e i))

    at_end : (s : ℕ → Bool) (v : ℕ → ℕ) → ((i : ℕ) → v i * (block_side u l i * p i + block_side u l i) ≡ v i * (block_side u l i * (p i + count (s i)))) →
        sum u.axes (λ i. v i * end_along block i) ≡ sum u.axes (λ i. v i * (block_side u l i * stepped u.axes s p i))
    at_end s v e = sum_cong u.axes _ _ (λ i k. rw (low_along_lem u l p i (omega arith), stepped_along u.axes i s p k) (e i))

    greatest_on : greatest h block ≡ value_on (stepped u.axes rising p)
    unfolding value_on rise fall
    greatest_on =
        is_eq (greatest_is h block) (value_is u h (λ i. block_side u l i * stepped u.axes rising p i))
        (omega (
          arith,
          at_end rising (λ i. up (h.coefficient i)) (λ i. (greatest_end (h.coefficient i) (block_side u l i) (p i)).0),
          at_low rising (λ i. dn (h.coefficient i)) (λ i. (greatest_end (h.coefficient i) (block_side u l i) (p i)).1),
        ))

    least_on : least h block ≡ value_on (stepped u.axes (λ i. not (rising i)) p)
    unfolding value_on rise fall
    least_on =
        is_eq (least_is h block) (value_is u h (λ i. block_side u l i * stepped u.axes (λ j. not (rising j)) p i))
        (omega (
          arith,
          at_low (λ i. not (rising i)) (λ i. up (h.coefficient i)) (λ i. (least_end (h.coefficient i) (block_side u l i) (p i)).0),
          at_end (λ i. not (rising i)) (λ i. dn (h.coefficient i)) (λ i. (least_end (h.coefficient i) (block_side u l i) (p i)).1),
        ))

    least_greatest : least h block ≤ℤ greatest h block
    unfolding rise fall
    least_greatest =
        is_le (least_is h block) (greatest_is h block)
        (omega (
          arith,
          weighted_le u.axes (λ i. up (h.coefficient i)) (low_along block) (end_along block) (λ i k. omega arith),
          weighted_le u.axes (λ i. dn (h.coefficient i)) (low_along block) (end_along block) (λ i k. omega arith),
        ))

  pub active_blocks : grid u.axes (blocks_along u l) (λ p. count_undecided (mark_over h (grid_block u l p))) + inner_blocks_at u l ≤ blocks_at u l
  unfolding blocks_at inner_blocks_at
  active_blocks =
      crossed_cells rising (λ p. lt_z (pos 0) (value_on p)) (λ p. count_undecided (mark_over h (grid_block u l p))) u.axes (blocks_along u l)
      (λ p. rw (← (greatest_on p), ← (least_on p)) (above_zero (mark_over h (grid_block u l p)) _ _ (least_greatest p) (active_crosses h (grid_block u l p))))
