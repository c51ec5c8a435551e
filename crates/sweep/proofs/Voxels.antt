-- THEOREM: at a voxel the swept shape is black exactly if some voxel over it, along the dropped axis, is black in the shape; by the paths to voxels, over any
-- order. And the voxels over an accepted voxel are accepted.
use mathlib.Core.Path.{◌≡◌, sym, ap, subst, ◌∙◌}
use mathlib.Core.List.{List}
use Prim.Native.Nat.{ℕ, ◌-◌, ◌^◌, ◌≤◌, ◌<◌}
use native.Mathlib.Omega.{arith}
use native.Mathlib.Decide.{ℕ_discrete, dec_lt}
use lib.ListN.{length}
use borrow.Author.Tests.{eq-eqb, ne_eqb, lt-ltb, le-ltb}
use Rattle.lemmas.proofs.Grid.{listed_at}
use Rattle.universe.specs.declared.Universe.{Universe}
use Rattle.universe.specs.Rounds.{without, axis_after}
use Rattle.universe.specs.Universe.{most_axes, universe_refusal, bits_along, side_along, levels, order, without_axis}
use Rattle.universe.specs.Voxel.{place_along, voxel_refusal, path_to}
use Rattle.universe.proofs.Universes.{accepted, order_length, order_below}
use Rattle.universe.proofs.Without.{without_accepted, bits_without, order_without}
use Rattle.universe.proofs.Voxel.{Taken, voxel_taken, taken_voxel}
use Rattle.bintree.specs.declared.Colour.TheVariants.{Black}
use Rattle.bintree.specs.Shape.{Shape, depth}
use Rattle.bintree.specs.Merging.{merged}
use Rattle.bintree.specs.Parts.{colour_at}
use Rattle.bintree.proofs.Merging.{merged_colour, merged_depth}
use Rattle.sweep.specs.Sweeping.{swept}
use Rattle.sweep.specs.Voxels.{voxel_over, BlackOver, Sweeps}
use Rattle.sweep.proofs.Over.{colour}
use Rattle.sweep.proofs.Sweeping.{black_above, black_below, swept_deep}
use Rattle.sweep.proofs.Paths.{all_often, path_by, path_by_lem, is_path, path_cong, shadow_by, put_in, put_other, place_of, place_below, path_back}
use Rattle.sweep.proofs.Paths.{before_after}

module _ (u : Universe) (j : ℕ) (fine : universe_refusal u ≡ 0) (two : 2 ≤ u.axes) (there : j < u.axes) where
  few : u.axes ≤ most_axes
  few = (accepted u fine).few_axes

  below : Universe
  below = without_axis u j

  -- the path to a voxel over w, and the path to w
  over_path : (x : ℕ) (w : List ℕ) → path_to u (voxel_over j x w) ≡ path_by (order u) (put_in j x (place_along w))
  over_path x w =
      path_by_lem u (voxel_over j x w)
      ∙ path_cong (place_along (voxel_over j x w)) (put_in j x (place_along w)) (order_below u)
      (λ i h. listed_at most_axes (put_in j x (place_along w)) i (omega (arith, few)))

  below_path : (w : List ℕ) → path_to below w ≡ path_by (without j (order u)) (place_along w)
  unfolding below
  below_path w = path_by_lem (without_axis u j) w ∙ ap (λ o. path_by o (place_along w)) (sym (order_without u j two there))

  module _ (s : Shape) (w : List ℕ) where
    black_over : colour_at below (swept (order u) j s) w ≡ Black → BlackOver u j (colour_at u s) w
    unfolding colour_at
    black_over e =
        let q = path_by (without j (order u)) (place_along w) in
        let r = black_above (order u) j s q (is_path (without j (order u)) (place_along w)) (ap (colour (swept (order u) j s)) (sym (below_path w)) ∙ e) in
        record {
          place = place_of (order u) j r.path;
          inside = subst (λ n. place_of (order u) j r.path < 2 ^ n) (all_often u j there) (place_below (order u) j r.path r.is_path);
          black =
              ap (colour s) (over_path (place_of (order u) j r.path) w ∙ path_back (order u) j (place_along w) r.path r.is_path r.above)
              ∙ r.black;
        }

    over_black : BlackOver u j (colour_at u s) w → colour_at below (swept (order u) j s) w ≡ Black
    unfolding colour_at
    over_black r =
        let f = put_in j r.place (place_along w) in
        let beneath = shadow_by (order u) j f (place_along w) (λ y n. put_other j r.place (place_along w) y n) in
        ap (colour (swept (order u) j s)) (below_path w ∙ sym beneath)
        ∙ black_below (order u) j s (path_by (order u) f) (is_path (order u) f) (ap (colour s) (sym (over_path r.place w)) ∙ r.black)

  swept_depth : (s : Shape) → depth s ≤ levels u → depth (swept (order u) j s) ≤ levels below
  unfolding below
  swept_depth s d =
      let long = ap length (order_without u j two there) ∙ order_length (without_axis u j) in
      omega (arith, swept_deep (order u) j s (omega (arith, order_length u)), long)

  -- THEOREM: the swept shape, and merged, is black exactly below the black voxels of the shape
  pub swept_sweeps : (s : Shape) → Sweeps u j (colour_at u s) (colour_at (without_axis u j) (swept (order u) j s))
  unfolding below
  swept_sweeps s = record { black_over = λ w f. black_over s w; over_black = λ w f. over_black s w }

  pub merged_swept_deep : (s : Shape) → depth s ≤ levels u → depth (merged (swept (order u) j s)) ≤ levels (without_axis u j)
  unfolding below
  merged_swept_deep s d = omega (arith, swept_depth s d, merged_depth (swept (order u) j s))

  pub merged_sweeps : (s : Shape) → depth s ≤ levels u → Sweeps u j (colour_at u s) (colour_at (without_axis u j) (merged (swept (order u) j s)))
  unfolding below
  merged_sweeps s d =
      let kept : (w : List ℕ) → colour_at (without_axis u j) (merged (swept (order u) j s)) w ≡ colour_at (without_axis u j) (swept (order u) j s) w =
      λ w. merged_colour (without_axis u j) (swept (order u) j s) w (swept_depth s d) in
      record { black_over = λ w f e. black_over s w (sym (kept w) ∙ e); over_black = λ w f r. kept w ∙ over_black s w r }

  -- ---- the voxels over an accepted voxel

  module _ (x : ℕ) (w : List ℕ) (f : voxel_refusal (without_axis u j) w ≡ 0) (h : x < side_along u j) where
    taken : Taken (without_axis u j) w
    taken = voxel_taken (without_axis u j) w (accepted (without_axis u j) (without_accepted u j two there fine)) f

    after_below : (i : ℕ) → (i ≡ j → ⊥) → i < u.axes → axis_after j i < u.axes - 1
    after_below i n l = go (dec_lt i j)
      where
        go : Dec (i < j) → axis_after j i < u.axes - 1
        go (yes k) = rw (lt-ltb i j k) (omega arith)
        go (no k) = let past : j < i = omega arith in rw (le-ltb i j (omega arith)) (omega arith)

    inside : (i : ℕ) → Dec (i ≡ j) → i < u.axes → put_in j x (place_along w) i < side_along u i
    unfolding without_axis
    inside i (yes e) l = rw (eq-eqb i j e) (subst (λ n. x < side_along u n) (sym e) h)
    inside i (no n) l =
        let k = after_below i n l in
        let side : side_along (without_axis u j) (axis_after j i) ≡ side_along u i =
        ap (λ b. 2 ^ b) (bits_without u j two there (axis_after j i) k ∙ ap (bits_along u) (before_after j i n)) in
        rw (ne_eqb i j n) (subst (λ m. place_along w (axis_after j i) < m) side (taken.inside (axis_after j i) k))

    above : (i : ℕ) → u.axes ≤ i → i < most_axes → put_in j x (place_along w) i ≡ 0
    unfolding without_axis
    above i l k = rw (ne_eqb i j (λ e. omega arith), le-ltb i j (omega arith)) (taken.above (i - 1) (omega arith) (omega arith))

    pub over_accepted : voxel_refusal u (voxel_over j x w) ≡ 0
    over_accepted = taken_voxel u (voxel_over j x w) (record {
      inside = λ i l. rw (listed_at most_axes (put_in j x (place_along w)) i (omega (arith, few))) (inside i (ℕ_discrete i j) l);
      above = λ i l k. listed_at most_axes (put_in j x (place_along w)) i k ∙ above i l k;
    })
