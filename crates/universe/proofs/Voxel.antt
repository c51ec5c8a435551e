-- Voxels: an accepted voxel lies in the whole block; a voxel of a block lies in the half that `half_at` names; a block at the last level holds no voxel
-- but that at its own low corner. Along the axis of a halving this is arithmetic of multiples, along the others nothing changes.
use mathlib.Core.Path.{◌≡◌, refl, ap}
use mathlib.Core.Bool.{Bool, true, cond}
use mathlib.Core.Logic.{◌⊎◌, inl, inr}
use mathlib.Core.List.{List}
use Prim.Native.Nat.{ℕ, zero, suc, ◌+◌, ◌≤◌, ◌<◌}
use native.Mathlib.Omega.{arith}
use native.Mathlib.Decide.{ℕ_discrete, dec_lt}
use lib.Dec.{ltb, eqb}
use lib.ListN.{length}
use borrow.Author.Tests.{ltb-true, eqb-true, lt-ltb, le-ltb, eq-eqb}
use Rattle.lemmas.proofs.Sums.{every_all, all_every}
use Rattle.universe.specs.declared.Universe.{Universe}
use Rattle.universe.specs.declared.Block.{Block}
use Rattle.universe.specs.Universe.{most_axes, levels, side_along}
use Rattle.universe.specs.Block.{low_along, length_along, whole_block, axis_of, low, high, Given}
use Rattle.universe.specs.Voxel.{place_along, voxel_refusal, Within, half_at, path_from}
use Rattle.universe.proofs.Refusing.{unless_holds, holds_unless}
use Rattle.universe.proofs.Universes.{Accepted, side_first, side_last, side_kept}
use Rattle.universe.proofs.Multiples.{in_low_lem, in_high_lem}
use Rattle.universe.proofs.Blocks.{Placed, given_placed, given_length, zero_low, half_length, high_here, high_kept, axis_few, length_halved, low_even}

-- ---- accepted voxels

pub record Taken (u : Universe) (v : List ℕ) : Type 0 where
  pub inside : (i : ℕ) → i < u.axes → place_along v i < side_along u i
  pub above : (i : ℕ) → u.axes ≤ i → i < most_axes → place_along v i ≡ 0

-- the test of one axis
abbrev fine : Universe → List ℕ → ℕ → Bool
fine u v i = cond (ltb i u.axes) (ltb (place_along v i) (side_along u i)) (eqb (place_along v i) 0)

pub voxel_taken : (u : Universe) (v : List ℕ) → Accepted u → voxel_refusal u v ≡ 0 → Taken u v
unfolding voxel_refusal
voxel_taken u v a e =
    let all : (i : ℕ) → i < most_axes → fine u v i ≡ true = every_all most_axes (fine u v) (unless_holds _ 9 (omega arith) e) in
    record {
      inside = λ i l. ltb-true _ _ (rw (lt-ltb i u.axes l) at (all i (omega (arith, a.few_axes))));
      above = λ i l k. eqb-true _ _ (rw (le-ltb i u.axes l) at (all i k));
    }

pub taken_voxel : (u : Universe) (v : List ℕ) → Taken u v → voxel_refusal u v ≡ 0
unfolding voxel_refusal
taken_voxel u v t = holds_unless _ 9 (all_every most_axes (fine u v) (λ i l. go i l (dec_lt i u.axes)))
  where
    go : (i : ℕ) → i < most_axes → Dec (i < u.axes) → fine u v i ≡ true
    go i l (yes k) = rw (lt-ltb i u.axes k) (lt-ltb _ _ (t.inside i k))
    go i l (no k) = rw (le-ltb i u.axes (omega arith)) (eq-eqb _ _ (t.above i (omega arith) l))

pub whole_holds : (u : Universe) (v : List ℕ) → Accepted u → voxel_refusal u v ≡ 0 → Within (whole_block u) v
whole_holds u v a e = record {
  above = λ i l. rw (zero_low most_axes i) (omega arith);
  below = λ i l. rw (zero_low most_axes i, side_first u i) (omega (arith, (voxel_taken u v a e).inside i l));
}

-- ---- the half that holds a place

pub half_bit : (u : Universe) (l x : ℕ) → (half_at u l x ≡ 0) ⊎ (half_at u l x ≡ 1)
half_bit u l x = go (half_at u l x) refl
  where
    go : (n : ℕ) → half_at u l x ≡ n → (half_at u l x ≡ 0) ⊎ (half_at u l x ≡ 1)
    go zero e = inl e
    go (suc n) e = inr (omega arith)

module _ {b : Block} (g : Given b) (h : b.level < levels b.universe) (v : List ℕ) where
  p : Placed b
  p = given_placed g

  here : low_along (high b) (axis_of b) ≡ low_along b (axis_of b) + half_length b
  here = high_here b (omega (arith, axis_few b p h, p.taken.few_axes, given_length g))

  -- a voxel of the block lies in the half that its place names
  pub within_low : Within b v → half_at b.universe b.level (place_along v (axis_of b)) ≡ 0 → Within (low b) v
  within_low w e = record { above = w.above; below = λ i l. below i l (ℕ_discrete (axis_of b) i) }
    where
      below : (i : ℕ) → i < b.universe.axes → Dec (axis_of b ≡ i) → place_along v i < low_along (low b) i + length_along (low b) i
      below i l (yes q) =
          rw (← q) (in_low_lem _ _ _ (low_even b p h) (rw (length_halved b p h) at (w.below (axis_of b) (axis_few b p h))) e)
      below i l (no n) = rw (side_kept b.universe b.level i n) (w.below i l)

  pub within_high : Within b v → half_at b.universe b.level (place_along v (axis_of b)) ≡ 1 → Within (high b) v
  within_high w e = record { above = λ i l. above i l (ℕ_discrete (axis_of b) i); below = λ i l. below i l (ℕ_discrete (axis_of b) i) }
    where
      above : (i : ℕ) → i < b.universe.axes → Dec (axis_of b ≡ i) → low_along (high b) i ≤ place_along v i
      above i l (yes q) = rw (← q, here) (in_high_lem _ _ _ (low_even b p h) (w.above (axis_of b) (axis_few b p h)) e)
      above i l (no n) = rw (high_kept b i n) (w.above i l)

      below : (i : ℕ) → i < b.universe.axes → Dec (axis_of b ≡ i) → place_along v i < low_along (high b) i + length_along (high b) i
      below i l (yes q) = rw (← q, here) (omega (arith, w.below (axis_of b) (axis_few b p h), length_halved b p h))
      below i l (no n) = rw (side_kept b.universe b.level i n, high_kept b i n) (w.below i l)

-- ---- the last level

-- there a voxel of a block has the block's own low places
pub at_last : {b : Block} → Given b → b.level ≡ levels b.universe → (v : List ℕ) → Within b v
    → (i : ℕ) → i < b.universe.axes → place_along v i ≡ low_along b i
at_last {b} g e v w i l =
    let one : length_along b i ≡ 1 = rw e (side_last b.universe i l) in
    omega (arith, w.above i l, w.below i l)

-- the path to a voxel has a step for each level
pub path_length : (u : Universe) (v : List ℕ) (l n : ℕ) → length (path_from u v l n) ≡ n
unfolding path_from
path_length u v l zero = refl
path_length u v l (suc n) = ap suc (path_length u v (suc l) n)
