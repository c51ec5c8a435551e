-- Every point of the universe at a time of the window lies in a voxel of the window: along each axis its place rounded down, or the last place where it lies at
-- the far end.
use Prim.Native.Nat.{ℕ, suc, ◌+◌, ◌-◌, ◌*◌, ◌/◌, ◌≤◌, ◌<◌, min}
use mathlib.Core.Path.{◌≡◌, refl, subst, ◌∙◌}
use mathlib.Core.Bool.{cond}
use mathlib.Core.List.{List}
use native.Mathlib.Decide.{ℕ_discrete, dec_le}
use native.Mathlib.Nat.{mul-div-le, lt-mul-div-succ, mul-le-mul_left}
use native.Mathlib.Omega.{arith}
use borrow.Author.Tests.{eq-eqb, ne_eqb, lt-ltb, le-ltb}
use lib.Dec.{eqb, ltb}
use Rattle.lemmas.specs.Grid.{listed}
use Rattle.lemmas.proofs.Grid.{listed_at}
use Rattle.universe.specs.declared.Universe.{Universe}
use Rattle.universe.specs.Universe.{most_axes, universe_refusal, levels, side_along, frame_axis, block_side}
use Rattle.universe.specs.Voxel.{place_along, window_refusal}
use Rattle.universe.proofs.Universes.{Accepted, accepted, side_positive, side_first, side_last}
use Rattle.universe.proofs.Voxel.{taken_voxel}
use Rattle.demands.proofs.Verdicts.{window_order, window_frames}
use Rattle.contacts.specs.Points.{PointIn}
use Rattle.promises.specs.Contacts.{PointWithin}

-- the unit among the first suc n that holds the place x / q
abbrev unit_of : ℕ → ℕ → ℕ → ℕ
unit_of q x n = min (x / q) n

module _ (q x n : ℕ) (some : 0 < q) where
  from_unit : q * unit_of q x n ≤ x
  from_unit = by (dec_le (x / q) n)
    where
      by : Dec (x / q ≤ n) → q * min (x / q) n ≤ x
      by (yes h) = let e : min (x / q) n ≡ x / q = omega arith in rw e (mul-div-le x q)
      by (no h) =
          let e : min (x / q) n ≡ n = omega arith in
          let l : n ≤ x / q = omega arith in
          rw e (omega (arith, mul-div-le x q, mul-le-mul_left q l))

  to_unit : x ≤ q * suc n → x ≤ q * suc (unit_of q x n)
  to_unit ends = by (dec_le (x / q) n)
    where
      by : Dec (x / q ≤ n) → x ≤ q * suc (min (x / q) n)
      by (yes h) = let e : min (x / q) n ≡ x / q = omega arith in rw e (omega (arith, lt-mul-div-succ x some))
      by (no h) = let e : min (x / q) n ≡ n = omega arith in rw e ends

  after : (m : ℕ) → m ≤ n → q * m ≤ x → m ≤ unit_of q x n
  after m h k = by (dec_le m (x / q))
    where
      by : Dec (m ≤ x / q) → m ≤ min (x / q) n
      by (yes l) = omega arith
      by (no l) = let g : suc (x / q) ≤ m = omega arith in absurd (omega (arith, lt-mul-div-succ x some, mul-le-mul_left q g))

module _ (u : Universe) (e : universe_refusal u ≡ 0) (from to : ℕ) (window : window_refusal u from to ≡ 0) (q : ℕ) (p : ℕ → ℕ)
    (w : PointWithin u from to q p) where
  a : Accepted u
  a = accepted u e

  some_side : (i : ℕ) → 0 < side_along u i
  some_side i = omega (arith, side_positive u 0 i, side_first u i)

  -- the voxel's place along each axis
  place : ℕ → ℕ
  place i = cond (ltb i (frame_axis u)) (unit_of q (p i) (side_along u i - 1)) (cond (eqb i (frame_axis u)) (unit_of q (p i) to) 0)

  voxel : List ℕ
  voxel = listed most_axes place

  along_place : (i : ℕ) → i < frame_axis u → place_along voxel i ≡ unit_of q (p i) (side_along u i - 1)
  unfolding place voxel
  along_place i h = listed_at most_axes place i (omega (arith, a.few_axes)) ∙ rw (lt-ltb i (frame_axis u) h)

  along_frame : place_along voxel (frame_axis u) ≡ unit_of q (p (frame_axis u)) to
  unfolding place voxel
  along_frame =
      listed_at most_axes place (frame_axis u) (omega (arith, a.some_axes, a.few_axes))
      ∙ rw (le-ltb (frame_axis u) (frame_axis u) (omega arith), eq-eqb (frame_axis u) (frame_axis u) refl)

  beyond : (i : ℕ) → u.axes ≤ i → i < most_axes → place_along voxel i ≡ 0
  unfolding place voxel
  beyond i h k =
      listed_at most_axes place i k
      ∙ rw (le-ltb i (frame_axis u) (omega (arith, a.some_axes)), ne_eqb i (frame_axis u) (λ f. omega (arith, a.some_axes)))

  -- a place axis, or the frame axis
  each : (P : ℕ → Type 0) → ((i : ℕ) → i < frame_axis u → P i) → P (frame_axis u) → (i : ℕ) → i < u.axes → P i
  each P f g i h = by (ℕ_discrete (frame_axis u) i)
    where
      by : Dec (frame_axis u ≡ i) → P i
      by (yes q) = subst P q g
      by (no n) = f i (omega arith)

  held : (i : ℕ) → i < u.axes → place_along voxel i < side_along u i
  held =
      each (λ i. place_along voxel i < side_along u i)
      (λ i h. omega (arith, along_place i h, some_side i))
      (omega (arith, along_frame, window_frames u from to window))

  above : (i : ℕ) → i < u.axes → q * place_along voxel i ≤ p i
  above =
      each (λ i. q * place_along voxel i ≤ p i)
      (λ i h. rw (along_place i h) (from_unit q (p i) (side_along u i - 1) w.some))
      (rw along_frame (from_unit q (p (frame_axis u)) to w.some))

  below : (i : ℕ) → i < u.axes → p i ≤ q * suc (place_along voxel i)
  below =
      each (λ i. p i ≤ q * suc (place_along voxel i))
      (λ i h. let s : suc (side_along u i - 1) ≡ side_along u i = omega (arith, some_side i) in
      rw (along_place i h) (to_unit q (p i) (side_along u i - 1) w.some (rw s (w.inside i h))))
      (rw along_frame (to_unit q (p (frame_axis u)) to w.some w.ends))

  pub point_held : PointIn u from to q p
  point_held = record {
    some = w.some;
    voxel = voxel;
    held = taken_voxel u voxel (record { inside = held; above = beyond });
    from = rw along_frame (after q (p (frame_axis u)) to w.some from (window_order u from to window) w.begins);
    to = omega (arith, along_frame);
    there = record {
      above = above;
      below = λ i h. let s : place_along voxel i + block_side u (levels u) i ≡ suc (place_along voxel i) = omega (arith, side_last u i h) in rw s (below i h);
    };
  }
