-- The word of sure and possible contact of a row over a block: its value at the first voxel's centre moved by its reach, and the same steps. The moved value is
-- twice the least or about twice the greatest over that voxel, so it keeps the limit of values.
use mathlib.Core.Path.{◌≡◌, refl, sym, ap, ◌∙◌}
use mathlib.Core.Bool.{Bool, true, false}
use mathlib.Core.List.{List}
use Prim.Native.Nat.{ℕ, zero, suc, ◌+◌, ◌-◌, ◌*◌, ◌≤◌, ◌<◌}
use native.Mathlib.Omega.{arith}
use lib.IntN.{ℤ, pos, nat_abs, ◌+ℤ◌}
use mir.Syntax.{w64}
use mir.Val.{SFits}
use Rattle.lemmas.specs.Sums.{sum}
use Rattle.lemmas.proofs.Whole.{ι, ν, ◌⊕◌, ⊝, le_by}
use Rattle.lemmas.proofs.Machine.{Near, near_add, near_back, near_call, near_fits, size_neg}
use Rattle.universe.specs.declared.Universe.{Universe}
use Rattle.universe.specs.Universe.{most_axes, coefficient_limit}
use Rattle.csg.specs.Halfspace.{Halfspace, row_at, row_count, centre_value}
use Rattle.csg.specs.Surfaces.{Surfaces, halfspace}
use Rattle.pruned.proofs.Moving.{held}
use Rattle.masks.specs.Block.{block_mask}
use Rattle.masks.specs.Leaves.{value_limit, row_mask}
use Rattle.masks.specs.Own.{own_surface, reach, reached}
use Rattle.masks.proofs.Limits.{reached_few}
use Rattle.masks.proofs.Own.{own_halfspace}
use Rattle.at_once.specs.declared.three.Three.{Three}
use Rattle.at_once.specs.Own.{ThreeReady, ThreeMasks, SurfaceThree}
use Rattle.at_once.specs.Words.{word_levels, WordBlock, word_block, step_at, RowReady, first_value, StepsOf}
use Rattle.at_once.proofs.RowValues.{no_coefficient}
use Rattle.at_once.proofs.WordBlocks.{taken, levels_left, first_voxel, row_named, within, value_near, row_ready, steps_same, row_gives}
use Rattle.at_once.proofs.OwnValues.{reach_small}

-- the axes that a universe lacks are reached by nothing
sum_less : (n k : ℕ) (f : ℕ → ℕ) → ((i : ℕ) → n ≤ i → i < n + k → f i ≡ 0) → sum (n + k) f ≡ sum n f
unfolding sum
sum_less n zero f z = let e : n + 0 ≡ n = omega arith in ap (λ (m : ℕ). sum m f) e
sum_less n (suc k) f z =
    let e : n + suc k ≡ suc (n + k) = omega arith in
    ap (λ (m : ℕ). sum m f) e ∙ omega (arith, z (n + k) (omega arith) (omega arith), sum_less n k f (λ i l m. z i l (omega arith)))

module _ {surfaces : Surfaces} {axes : ℕ} {table lengths low : List ℕ} {left : ℕ} (w : WordBlock surfaces axes table lengths low left)
    (i : ℕ) (l : i < row_count surfaces.rows) where
  abbrev u : Universe
  u = w.universe

  abbrev h : Halfspace
  h = row_at surfaces.rows i

  reach_same : reach most_axes h ≡ reach u.axes h
  unfolding reach
  reach_same =
      let few = (taken w).few_axes in
      let e : most_axes ≡ u.axes + (most_axes - u.axes) = omega arith in
      ap (λ (n : ℕ). sum n (λ k. nat_abs (h.coefficient k))) e
      ∙ sum_less u.axes (most_axes - u.axes) (λ k. nat_abs (h.coefficient k))
      (λ k m o. ap nat_abs (no_coefficient u few h (within w i l) low k m (omega arith)))

  abbrev reach_most : ℕ
  reach_most = most_axes * coefficient_limit

  module _ (possible : Bool) {v : ℤ} (e : v ≡ first_value h low) {steps : List ℤ} (s : StepsOf h table lengths steps) {n : ℕ} (q : n ≡ reach most_axes h)
      {m : ℤ} (p : m ≡ reached possible n) where
    abbrev moved : ℤ
    moved = centre_value u h low +ℤ reached possible (reach u.axes h)

    size : (possible : Bool) (k : ℕ) → nat_abs (reached possible k) ≤ k
    size true k = omega arith
    size false k = omega (arith, size_neg (pos k))

    more_near : Near (held m) (reached possible (reach u.axes h)) reach_most
    more_near =
        near_call {x = reached possible (reach u.axes h)} (p ∙ ap (reached possible) (q ∙ reach_same))
        (record { same = refl; size = omega (arith, size possible (reach u.axes h), reach_same, q, (reach_small (row_named w i l) q).most) }) tt

    moved_near : Near (held v +ℤ held m) moved (value_limit + reach_most)
    moved_near = near_add {x = centre_value u h low} {y = reached possible (reach u.axes h)} (value_near w i l e s) more_near

    pub moved_fits : SFits w64 (held v +ℤ held m)
    moved_fits = near_fits {x = moved} moved_near tt

    moved_is : held (held v +ℤ held m) ≡ moved
    moved_is = (near_back {x = moved} moved_near tt).same

    pub moved_ready : RowReady word_levels (held (held v +ℤ held m)) steps
    moved_ready = record {
      value = rw moved_is (omega (arith, reached_few u (taken w) h (within w i l) possible low (first_voxel w)));
      step = (row_ready w i l e s).step;
    }

    pub own_row_gives : {r : ℕ} → r ≡ row_mask (held (held v +ℤ held m)) (step_at steps) left →
        r ≡ block_mask (own_surface possible surfaces u (halfspace i)) left (word_block w)
    own_row_gives t =
        t
        ∙ ap (λ (z : ℤ). row_mask z (step_at steps) left) moved_is
        ∙ steps_same w i l e s moved
        ∙ sym (own_halfspace possible surfaces i left (word_block w) (levels_left w))

  -- all three
  module _ {v : ℤ} (e : v ≡ first_value h low) {steps : List ℤ} (s : StepsOf h table lengths steps) {n : ℕ} (q : n ≡ reach most_axes h)
      {less : ℤ} (p : less ≡ reached false n) {more : ℤ} (k : more ≡ reached true n) where
    abbrev lowest : ℤ
    lowest = held (held v +ℤ held less)

    abbrev highest : ℤ
    highest = held (held v +ℤ held more)

    pub three_ready : ThreeReady lowest (held v) highest steps
    three_ready =
        let c = centre_value u h low in
        let m = reach u.axes h in
        record {
          sure = moved_ready false e s q p;
          centre = row_ready w i l e s;
          possible = moved_ready true e s q k;
          under = rw (moved_is false e s q p, (value_near w i l e s).same) (le_by (ι c ⊕ ⊝ (ν m)) (ι c) (omega arith));
          over = rw (moved_is true e s q k, (value_near w i l e s).same) (le_by (ι c) (ι c ⊕ ν (m - 1)) (omega arith));
        }

    pub three_row_gives : {words : Three} → ThreeMasks lowest (held v) highest steps left words → SurfaceThree surfaces u (halfspace i) left (word_block w) words
    three_row_gives t =
        record {
          sure = own_row_gives false e s q p t.sure;
          centre = row_gives w i l e s t.centre;
          possible = own_row_gives true e s q k t.possible;
        }
