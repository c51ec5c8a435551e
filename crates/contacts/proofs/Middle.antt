-- The centre count is the old verdict's, and what a possible count of 0 says of the voxels and of every point in them. A tree's voxels at their centres are
-- those of its raw shape; a voxel that were possible would be counted.
use Prim.Native.Nat.{ℕ, ◌+◌, ◌-◌, ◌≤◌, ◌<◌}
use mathlib.Core.Path.{◌≡◌, refl, sym, ap, ◌∙◌}
use mathlib.Core.List.{List}
use native.Mathlib.Omega.{arith}
use Rattle.lemmas.proofs.Sums.{sum_zero, sum_part}
use Rattle.universe.specs.declared.Universe.{Universe}
use Rattle.universe.specs.Universe.{universe_refusal, levels}
use Rattle.universe.specs.Block.{whole_block}
use Rattle.universe.specs.Voxel.{voxel_refusal, window_refusal}
use Rattle.universe.proofs.Universes.{accepted}
use Rattle.bintree.specs.declared.Colour.{Colour}
use Rattle.bintree.specs.declared.Colour.TheVariants.{White, Black}
use Rattle.bintree.specs.Shape.{Shape}
use Rattle.bintree.specs.Parts.{colour_at}
use Rattle.bintree.specs.Counts.{voxels_at}
use Rattle.bintree.specs.Verdicts.{window_length, voxels_in, verdict}
use Rattle.bintree.proofs.Verdicts.{none_clear, clear_none, hit_is}
use Rattle.csg.specs.Halfspace.{Mark, decided, undecided}
use Rattle.csg.specs.Surfaces.{Surfaces}
use Rattle.csg.specs.Tree.{Tree, plain}
use Rattle.csg.specs.Marks.{tree_mark, tree_colour}
use Rattle.csg.specs.Raw.{raw, both}
use Rattle.demands.specs.Voxels.{Colouring, black_voxels_at}
use Rattle.demands.specs.Verdicts.{frame_of}
use Rattle.demands.proofs.Colours.{raw_depth, raw_colour}
use Rattle.demands.proofs.Voxels.{frame_same}
use Rattle.demands.proofs.Verdicts.{window_order, window_frames, black_counts}
use Rattle.contacts.specs.Contacts.{block_of, settled, possible_colour, window_voxels}
use Rattle.contacts.specs.Painting.{painted}
use Rattle.contacts.specs.Points.{InsideTree, in_both, PointIn}
use Rattle.contacts.specs.Middle.{VerdictOf}
use Rattle.contacts.proofs.Contacts.{black_paint}
use Rattle.contacts.proofs.Painting.{painted_colour, painted_depth}
use Rattle.contacts.proofs.Over.{shape_window}
use Rattle.contacts.proofs.Points.{white_excludes}

-- a mark that is WHITE even where doubt is Black
white_mark : (m : Mark) → settled Black m ≡ White → m ≡ decided White
white_mark (decided c) e = ap decided e
white_mark undecided e = let z : ◌≡◌ {A = ℕ} 0 1 = cc in absurd (omega arith)

module _ (u : Universe) (e : universe_refusal u ≡ 0) (first last : ℕ) (window : window_refusal u first last ≡ 0) (surfaces : Surfaces) (t : Tree) where
  abbrev whole : Colouring → Shape
  whole paint = painted paint surfaces t (levels u) (whole_block u)

  -- THEOREM: the verdict is the centre count's
  raw_window : voxels_in u (raw u surfaces t) first last ≡ window_voxels u (tree_colour surfaces u t) first last
  raw_window = shape_window u e first last window (raw u surfaces t) (raw_depth u e surfaces t) (tree_colour surfaces u t) (raw_colour u e surfaces t)

  no_frame : window_voxels u (tree_colour surfaces u t) first last ≡ 0 → (c : ℕ) → first ≤ c → c ≤ last → voxels_at u (raw u surfaces t) c ≡ 0
  unfolding voxels_in
  no_frame z c h k =
      let q : first + (c - first) ≡ c = omega arith in
      let p = rw q at (sum_part (window_length first last) (λ n. voxels_at u (raw u surfaces t) (first + n)) (c - first) (omega arith)) in
      omega (arith, raw_window, z)

  pub verdict_middle : VerdictOf (window_voxels u (tree_colour surfaces u t) first last) (verdict u (raw u surfaces t) first last)
  unfolding voxels_in
  verdict_middle = record {
    none_clear = λ z. none_clear u (raw u surfaces t) first last (no_frame z);
    clear_none = λ c. sym raw_window
        ∙ sum_zero (window_length first last) _ (λ n h. clear_none u (raw u surfaces t) first last c (first + n) (omega arith) (omega arith));
    hit_counts = λ contact h. (hit_is u (raw u surfaces t) first last contact h).count ∙ raw_window;
  }

  -- THEOREM: where no voxel is possible, every voxel of the window is decided WHITE
  module _ (none : window_voxels u (possible_colour surfaces u t) first last ≡ 0) (v : List ℕ) (held : voxel_refusal u v ≡ 0)
      (from : first ≤ frame_of u v) (to : frame_of u v ≤ last) where
    shows : (w : List ℕ) → voxel_refusal u w ≡ 0 → colour_at u (whole (λ x. Black)) w ≡ possible_colour surfaces u t w
    unfolding possible_colour
    shows w f = painted_colour (λ x. Black) surfaces t u e (black_paint u) w f

    not_counted : black_voxels_at u (colour_at u (whole (λ x. Black))) (frame_of u v) ≡ 0
    unfolding window_voxels
    not_counted =
        let q : first + (frame_of u v - first) ≡ frame_of u v = omega arith in
        let each : ℕ → ℕ = λ n. black_voxels_at u (possible_colour surfaces u t) (first + n) in
        let p = rw q at (sum_part (window_length first last) each (frame_of u v - first) (omega arith)) in
        omega (
          arith,
          none,
          frame_same u (accepted u e) (colour_at u (whole (λ x. Black))) (possible_colour surfaces u t) shows (frame_of u v)
              (omega (arith, window_frames u first last window)),
        )

    pub none_possible : tree_mark surfaces t (block_of u v) ≡ decided White
    unfolding possible_colour
    none_possible = by (possible_colour surfaces u t v) refl
      where
        by : (c : Colour) → possible_colour surfaces u t v ≡ c → tree_mark surfaces t (block_of u v) ≡ decided White
        by White f = white_mark (tree_mark surfaces t (block_of u v)) f
        by Black f = absurd (omega (arith, not_counted, black_counts u (accepted u e) (whole (λ x. Black)) v held (shows v held ∙ f)))

-- THEOREM: then no point of the window's voxels is strictly inside both trees
pub no_contact_lem : (u : Universe) → universe_refusal u ≡ 0 → (first last : ℕ) → window_refusal u first last ≡ 0 → (surfaces : Surfaces) (s t : Tree) →
    window_voxels u (possible_colour surfaces u (both s t)) first last ≡ 0 →
    (q : ℕ) (p : ℕ → ℕ) → PointIn u first last q p → InsideTree surfaces u q p s → InsideTree surfaces u q p t → ⊥
unfolding plain
no_contact_lem u e first last window surfaces s t none q p at x y =
    white_excludes surfaces (block_of u at.voxel) q at.some p at.there (in_both x y)
    (none_possible u e first last window surfaces (both s t) none at.voxel at.held at.from at.to)
