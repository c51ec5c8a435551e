-- Every frame by its own stretch: a frame between two keys belongs to the stretch that leads from the one to the other, so over a stretch the black voxels of
-- a frame are those of the stretch's tree; and the verdicts of the stretches, joined one after the other, are the verdict of all frames.
use Prim.Native.Nat.{ℕ, zero, suc, ◌+◌, ◌-◌, ◌*◌, ◌^◌, ◌≤◌, ◌<◌}
use native.Mathlib.Omega.{arith}
use native.Mathlib.Decide.{ℕ_discrete}
use mathlib.Core.Path.{◌≡◌, refl, sym, ap, ◌∙◌}
use mathlib.Core.Bool.{Bool, true, false, cond}
use mathlib.Core.List.{List}
use borrow.Author.Tests.{le-leb, lt-leb}
use lib.Dec.{leb}
use lib.ListN.{length}
use Rattle.lemmas.specs.Sums.{sum}
use Rattle.lemmas.specs.Grid.{count, put, listed}
use Rattle.lemmas.proofs.Sums.{sum_mono, sum_same}
use Rattle.lemmas.proofs.Grid.{grid_mono, grid_const}
use Rattle.universe.specs.declared.Universe.{Universe}
use Rattle.universe.specs.Universe.{most_axes, frame_axis, frame_count, side_along, longest_side}
use Rattle.universe.specs.Voxel.{voxel_refusal}
use Rattle.universe.proofs.Levels.{product_most}
use Rattle.universe.proofs.Universes.{Accepted, accepted, side_few}
use Rattle.bintree.specs.declared.Verdict.{Verdict}
use Rattle.bintree.specs.declared.Verdict.TheVariants.{Clear}
use Rattle.bintree.specs.Parts.{colour_at}
use Rattle.bintree.specs.Counts.{voxels_at}
use Rattle.bintree.specs.Verdicts.{window_length}
use Rattle.csg.specs.Surfaces.{Surfaces}
use Rattle.csg.specs.Tree.{Tree}
use Rattle.csg.specs.Marks.{tree_colour}
use Rattle.csg.specs.Raw.{raw}
use Rattle.demands.specs.Voxels.{Colouring, is_black, count_black, black_voxels_at}
use Rattle.demands.specs.Verdicts.{frame_of}
use Rattle.demands.proofs.Grids.{grid_cong}
use Rattle.demands.proofs.Voxels.{frame_voxel, place_frame, frame_voxel_accepted, frame_counts_lem}
use Rattle.demands.proofs.Colours.{raw_depth}
use Rattle.demands.proofs.Theorems.{demand_2}
use Rattle.mover.specs.Keys.{Mover, moment_at}
use Rattle.mover.specs.Stretches.{stretches, frames_of, with_box}
use Rattle.mover.specs.Frames.{clearance_tree, stretch_of, own_stretch, own_colour, over_frames, stretch_verdict, joined, mover_verdict}
use Rattle.mover.specs.Ready.{Ready, Joining}
use Rattle.mover.proofs.Accepted.{ready_universe, ready_axes, ready_keys, frames_most}
use Rattle.mover.proofs.Joins.{shape_frames, frames_cong, frames_join, frames_told, no_frames}

-- ---- a frame's own stretch
module _ (moments : List ℕ) (rising : (i : ℕ) → i + 1 < length moments → moment_at moments i < moment_at moments (i + 1)) where
  later : (i d : ℕ) → i + d < length moments → moment_at moments i ≤ moment_at moments (i + d)
  later i zero l = let e : i + 0 ≡ i = omega arith in rw e (omega arith)
  later i (suc d) l =
      let e : i + suc d ≡ i + d + 1 = omega arith in
      rw e (omega (arith, later i d (omega arith), rising (i + d) (omega arith)))

  pub moments_rise : (i j : ℕ) → i ≤ j → j < length moments → moment_at moments i ≤ moment_at moments j
  moments_rise i j h l = let e : i + (j - i) ≡ j = omega arith in rw e at (later i (j - i) (omega arith))

  module _ (i frame : ℕ) (l : i + 1 < length moments) (h : moment_at moments i ≤ frame) (k : frame < moment_at moments (i + 1)) where
    found : (n : ℕ) → i < n → n < length moments → stretch_of moments frame n ≡ i
    unfolding stretch_of
    found zero f g = absurd (omega arith)
    found (suc n) f g = go (ℕ_discrete n i) (found n)
      where
        go : Dec (n ≡ i) → (i < n → n < length moments → stretch_of moments frame n ≡ i) →
            cond (leb (moment_at moments n) frame) n (stretch_of moments frame n) ≡ i
        go (yes e) ih = rw (e, le-leb (moment_at moments i) frame h)
        go (no e) ih =
            rw (lt-leb (moment_at moments n) frame (omega (arith, moments_rise (i + 1) n (omega arith) (omega arith))))
            (ih (omega arith) (omega arith))

    -- THEOREM: a frame from a key's moment on and before the next key's belongs to the stretch between them
    pub own_stretch_lem : own_stretch moments frame ≡ i
    own_stretch_lem = found (length moments - 1) (omega arith) (omega arith)

-- ---- colourings that agree in a frame count the same there
pub frame_own : (u : Universe) → Accepted u → (c d : Colouring) (frame : ℕ) → frame < frame_count u →
    ((v : List ℕ) → voxel_refusal u v ≡ 0 → frame_of u v ≡ frame → c v ≡ d v) → black_voxels_at u c frame ≡ black_voxels_at u d frame
unfolding black_voxels_at frame_voxel
frame_own u accept c d frame h same =
    grid_cong (frame_axis u) (side_along u) _ _
    (λ p w. ap (λ x. count (is_black x)) (same (frame_voxel u frame p) (frame_voxel_accepted u accept frame h p w) (place_frame u accept frame p)))

-- ---- no frame has more voxels than the longest sides have
count_one : (b : Bool) → count b ≤ 1
count_one true = omega arith
count_one false = omega arith

frame_few : (u : Universe) → Accepted u → (colours : Colouring) (frame : ℕ) → black_voxels_at u colours frame ≤ longest_side ^ frame_axis u
unfolding black_voxels_at
frame_few u accept colours frame =
    omega (
      arith,
      grid_mono (frame_axis u) (side_along u) (λ p. count_black colours (put (frame_axis u) frame p)) (λ p. 1)
          (λ p. count_one (is_black (colours (listed most_axes (put (frame_axis u) frame p))))),
      grid_const (frame_axis u) (side_along u) 1,
      product_most (frame_axis u) (side_along u) longest_side (λ i l. side_few u accept i),
    )

-- ---- the stretches of a call that is not refused
module _ {u : Universe} {m : Mover} {surfaces : Surfaces} {words : List ℕ} (r : Ready u m surfaces words) where
  abbrev counts : ℕ → ℕ
  counts = black_voxels_at u (own_colour u m surfaces words)

  accept : Accepted u
  accept = accepted u (ready_universe r)

  rises : (i j : ℕ) → i ≤ j → j < length m.moments → moment_at m.moments i ≤ moment_at m.moments j
  rises = moments_rise m.moments (ready_keys r).rising

  module _ (i : ℕ) (l : i + 1 < length m.moments) where
    abbrev tree : Tree
    tree = clearance_tree surfaces words

    pub own_is : (v : List ℕ) → moment_at m.moments i ≤ frame_of u v → frame_of u v < moment_at m.moments (i + 1) →
        own_colour u m surfaces words v ≡ tree_colour (with_box surfaces m i) u tree v
    unfolding own_colour
    own_is v h k =
        ap (λ (j : ℕ). tree_colour (with_box surfaces m j) u tree v) (own_stretch_lem m.moments (ready_keys r).rising i (frame_of u v) l h k)

    pub own_counts : (frame : ℕ) → moment_at m.moments i ≤ frame → frame < moment_at m.moments (i + 1) →
        voxels_at u (raw u (with_box surfaces m i) tree) frame ≡ counts frame
    own_counts frame h k =
        let s = raw u (with_box surfaces m i) tree in
        frame_counts_lem u accept s (raw_depth u (ready_universe r) (with_box surfaces m i) tree) frame
        ∙ frame_own u accept (colour_at u s) (own_colour u m surfaces words) frame (omega (arith, (ready_keys r).within (i + 1) l))
        (λ v f e. (demand_2 u (ready_universe r) (with_box surfaces m i) tree).raw_shows.colours v f ∙ sym (own_is v (rw e h) (rw e k)))

    -- THEOREM: a stretch's verdict is that of its frames, each by its own stretch
    pub stretch_own : stretch_verdict u m surfaces words i ≡ over_frames counts (moment_at m.moments i) (frames_of m.moments i)
    unfolding stretch_verdict
    stretch_own =
        let f = moment_at m.moments i in let g = moment_at m.moments (i + 1) in
        let s = raw u (with_box surfaces m i) tree in
        let e : window_length f (g - 1) ≡ g - f = omega (arith, (ready_keys r).rising i l) in
        shape_frames u s f (g - 1)
        ∙ ap (over_frames (voxels_at u s) f) e
        ∙ frames_cong (voxels_at u s) counts f (g - f) (λ c h k. own_counts c h (omega arith))

  -- the frames before key i
  pub up_to : ℕ → Verdict
  up_to i = over_frames counts (moment_at m.moments 0) (moment_at m.moments i - moment_at m.moments 0)

  pub up_start : up_to 0 ≡ Clear
  unfolding up_to
  up_start =
      let f = moment_at m.moments 0 in
      let e : f - f ≡ 0 = omega arith in
      ap (over_frames counts f) e ∙ no_frames counts f

  pub up_next : (i : ℕ) → i + 1 < length m.moments → joined (up_to i) (stretch_verdict u m surfaces words i) ≡ up_to (i + 1)
  unfolding up_to
  up_next i l =
      let o = moment_at m.moments 0 in let f = moment_at m.moments i in let g = moment_at m.moments (i + 1) in
      let p : o ≤ f = rises 0 i (omega arith) (omega arith) in
      let q : f < g = (ready_keys r).rising i l in
      let s : o + (f - o) ≡ f = omega arith in
      let t : f - o + (g - f) ≡ g - o = omega arith in
      ap (joined (over_frames counts o (f - o))) (stretch_own i l ∙ ap (λ (x : ℕ). over_frames counts x (g - f)) (sym s))
      ∙ frames_join counts o (f - o) (g - f)
      ∙ ap (over_frames counts o) t

  -- THEOREM: after the last stretch that is the verdict of all frames, from the first key on and before the last
  pub up_end : up_to (stretches m.moments) ≡ mover_verdict u m surfaces words
  unfolding up_to mover_verdict
  up_end = refl

  told : (i j : ℕ) → i ≤ j → j < length m.moments → moment_at m.moments j ≤ longest_side →
      sum (moment_at m.moments j - moment_at m.moments i) (λ c. counts (moment_at m.moments i + c)) ≤ longest_side * longest_side ^ 3
  told i j h l e =
      let n = moment_at m.moments j - moment_at m.moments i in
      let axes : frame_axis u ≡ 3 = omega (arith, ready_axes r) in
      omega (
        arith,
        sum_mono n (λ c. counts (moment_at m.moments i + c)) (λ c. longest_side ^ 3)
            (λ c k. rw axes at (frame_few u accept (own_colour u m surfaces words) (moment_at m.moments i + c))),
        sum_same n (longest_side ^ 3),
      )

  pub up_fits : (i : ℕ) → i + 1 < length m.moments → Joining (up_to i) (stretch_verdict u m surfaces words i)
  unfolding up_to
  up_fits i l =
      let late = (ready_keys r).within (i + 1) l in
      let most = frames_most u (ready_universe r) in
      let rise = rises i (i + 1) (omega arith) l in
      record {
        fits =
            rw (stretch_own i l)
            (omega (
              arith,
              frames_told counts (moment_at m.moments 0) (moment_at m.moments i - moment_at m.moments 0),
              frames_told counts (moment_at m.moments i) (frames_of m.moments i),
              told 0 i (omega arith) (omega arith) (omega arith),
              told i (i + 1) (omega arith) l (omega arith),
            ));
      }
