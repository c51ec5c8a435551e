-- Sure, centre and possible. What the recursion counts from the whole universe on is each count, voxel by voxel: its painted shape shows the mark over each
-- voxel's own block, doubt painted. The three never decrease, since a decided mark has the colour at the centre, so that doubt alone tells them apart.
use Prim.Native.Nat.{ℕ, ◌+◌, ◌≤◌}
use mathlib.Core.Path.{◌≡◌, refl, sym, ◌∙◌}
use mathlib.Core.List.{List}
use native.Mathlib.Omega.{arith}
use Rattle.lemmas.specs.Grid.{count}
use Rattle.lemmas.proofs.Sums.{sum_mono}
use Rattle.lemmas.proofs.Grid.{grid_mono}
use Rattle.universe.specs.declared.Universe.{Universe}
use Rattle.universe.specs.Universe.{universe_refusal, levels, side_along, frame_axis}
use Rattle.universe.specs.Block.{whole_block}
use Rattle.universe.specs.Voxel.{window_refusal}
use Rattle.bintree.specs.declared.Colour.{Colour}
use Rattle.bintree.specs.declared.Colour.TheVariants.{White, Black}
use Rattle.bintree.specs.Shape.{Shape}
use Rattle.bintree.specs.Verdicts.{window_length}
use Rattle.csg.specs.Halfspace.{Mark, decided, undecided}
use Rattle.csg.specs.Surfaces.{Surfaces}
use Rattle.csg.specs.Tree.{Tree, plain}
use Rattle.csg.specs.Marks.{tree_mark, tree_colour}
use Rattle.csg.proofs.Marks.{tree_sound, tree_places}
use Rattle.demands.specs.Voxels.{Colouring, is_black, black_voxels_at}
use Rattle.contacts.specs.Contacts.{block_of, settled, sure_colour, possible_colour, window_voxels}
use Rattle.contacts.specs.Painting.{painted, ByPlaces, voxels_over}
use Rattle.contacts.proofs.Own.{own_within, centre_settled}
use Rattle.contacts.proofs.Painting.{painted_colour, painted_depth}
use Rattle.contacts.proofs.Over.{over_whole, shape_window}

-- the three paints depend on places alone
pub white_paint : (u : Universe) → ByPlaces u (λ v. White)
white_paint u = record { same = λ v w h. refl }

pub black_paint : (u : Universe) → ByPlaces u (λ v. Black)
black_paint u = record { same = λ v w h. refl }

pub centre_paint : (surfaces : Surfaces) (u : Universe) (t : Tree) → ByPlaces u (tree_colour surfaces u t)
centre_paint surfaces u t = record { same = tree_places surfaces u (plain t) }

module _ (u : Universe) (e : universe_refusal u ≡ 0) (first last : ℕ) (window : window_refusal u first last ≡ 0) (surfaces : Surfaces) (t : Tree) where
  abbrev whole : Colouring → Shape
  whole paint = painted paint surfaces t (levels u) (whole_block u)

  -- THEOREM: what the recursion counts from the whole universe on is each count, voxel by voxel
  paint_window : (paint : Colouring) → ByPlaces u paint → (colours : Colouring) →
      ((v : List ℕ) → settled (paint v) (tree_mark surfaces t (block_of u v)) ≡ colours v) →
      voxels_over u first last 0 0 (whole paint) ≡ window_voxels u colours first last
  paint_window paint places colours same =
      over_whole u e first last window (whole paint)
      ∙ shape_window u e first last window (whole paint) (painted_depth paint surfaces t (levels u) (whole_block u)) colours
      (λ v f. painted_colour paint surfaces t u e places v f ∙ same v)

  pub sure_window : voxels_over u first last 0 0 (whole (λ v. White)) ≡ window_voxels u (sure_colour surfaces u t) first last
  unfolding sure_colour
  sure_window = paint_window (λ v. White) (white_paint u) (sure_colour surfaces u t) (λ v. refl)

  pub centre_window : voxels_over u first last 0 0 (whole (tree_colour surfaces u t)) ≡ window_voxels u (tree_colour surfaces u t) first last
  centre_window = paint_window (tree_colour surfaces u t) (centre_paint surfaces u t) (tree_colour surfaces u t) (centre_settled surfaces u t)

  pub possible_window : voxels_over u first last 0 0 (whole (λ v. Black)) ≡ window_voxels u (possible_colour surfaces u t) first last
  unfolding possible_colour
  possible_window = paint_window (λ v. Black) (black_paint u) (possible_colour surfaces u t) (λ v. refl)

-- a colour counts no more than another that is Black wherever it is
pub record Below (c d : Colour) : Type 0 where
  pub counts : count (is_black c) ≤ count (is_black d)

white_below : (c : Colour) → Below White c
white_below Black = record { counts = omega arith }
white_below White = record { counts = omega arith }

below_black_lem : (c : Colour) → Below c Black
below_black_lem Black = record { counts = omega arith }
below_black_lem White = record { counts = omega arith }

same_below : (c d : Colour) → c ≡ d → Below c d
same_below c d e = rw e (record { counts = omega arith })

-- colourings that never decrease count no less
pub window_mono : (u : Universe) (c d : Colouring) → ((v : List ℕ) → Below (c v) (d v)) → (first last : ℕ) →
    window_voxels u c first last ≤ window_voxels u d first last
unfolding window_voxels black_voxels_at
window_mono u c d h first last =
    sum_mono (window_length first last) _ _ (λ n k. grid_mono (frame_axis u) (side_along u) _ _ (λ p. (h _).counts))

module _ (surfaces : Surfaces) (u : Universe) (t : Tree) where
  sure_below : (v : List ℕ) → Below (sure_colour surfaces u t v) (tree_colour surfaces u t v)
  unfolding sure_colour
  sure_below v = by (tree_mark surfaces t (block_of u v)) refl
    where
      by : (m : Mark) → tree_mark surfaces t (block_of u v) ≡ m → Below (settled White m) (tree_colour surfaces u t v)
      by (decided c) e = same_below c _ (sym (tree_sound surfaces (plain t) (block_of u v) c v e (own_within u v)))
      by undecided e = white_below _

  possible_above : (v : List ℕ) → Below (tree_colour surfaces u t v) (possible_colour surfaces u t v)
  unfolding possible_colour
  possible_above v = by (tree_mark surfaces t (block_of u v)) refl
    where
      by : (m : Mark) → tree_mark surfaces t (block_of u v) ≡ m → Below (tree_colour surfaces u t v) (settled Black m)
      by (decided c) e = same_below _ c (tree_sound surfaces (plain t) (block_of u v) c v e (own_within u v))
      by undecided e = below_black_lem _

  -- THEOREM: the three counts of a window never decrease
  pub sure_centre : (first last : ℕ) → window_voxels u (sure_colour surfaces u t) first last ≤ window_voxels u (tree_colour surfaces u t) first last
  sure_centre = window_mono u _ _ sure_below

  pub centre_possible : (first last : ℕ) → window_voxels u (tree_colour surfaces u t) first last ≤ window_voxels u (possible_colour surfaces u t) first last
  centre_possible = window_mono u _ _ possible_above
