-- Counts by blocks. A block outside the window counts nothing; one leaf counts none or, for each of its frames in the window, its voxels of a frame; a halved
-- block counts what its halves do. From the whole universe on that is the shape's voxels of the window, one by one.
use Prim.Native.Nat.{ℕ, zero, suc, ◌+◌, ◌-◌, ◌*◌, ◌^◌, ◌≤◌, ◌<◌, min, max}
use mathlib.Core.Path.{◌≡◌, refl, sym, ap, ◌∙◌}
use mathlib.Core.Logic.{◌⊎◌, inl, inr}
use mathlib.Core.List.{List}
use native.Mathlib.Omega.{arith}
use native.Mathlib.Nat.{mul-le-mul, le_refl, two-pow-succ}
use native.Mathlib.Decide.{dec_lt, dec_le}
use Rattle.lemmas.specs.Sums.{sum}
use Rattle.lemmas.proofs.Sums.{sum_cong, sum_add, sum_zero, sum_same}
use Rattle.universe.specs.declared.Universe.{Universe}
use Rattle.universe.specs.Universe.{universe_refusal, levels, frame_axis, frame_count}
use Rattle.universe.specs.Voxel.{voxel_refusal, window_refusal}
use Rattle.universe.proofs.Universes.{accepted, side_first, side_positive, voxels_left_lem}
use Rattle.bintree.specs.declared.Colour.TheVariants.{White, Black}
use Rattle.bintree.specs.Shape.{Shape, leaf, halved, depth}
use Rattle.bintree.specs.Parts.{colour_at}
use Rattle.bintree.specs.Counts.{frames, voxels_each, voxels_from, voxels_at, inside}
use Rattle.bintree.specs.Verdicts.{window_length, voxels_in}
use Rattle.bintree.proofs.Shape.{depth_low, depth_high, halved_deep}
use Rattle.bintree.proofs.Counts.{sum_split, block_voxels}
use Rattle.bintree.proofs.Windows.{inside_at, outside_at, none_inside, low_begins, high_begins, halves_frames}
use Rattle.demands.specs.Voxels.{Colouring, black_voxels_at}
use Rattle.demands.proofs.Voxels.{frame_counts_lem, frame_same}
use Rattle.demands.proofs.Verdicts.{window_order, window_frames}
use Rattle.contacts.specs.Contacts.{window_voxels}
use Rattle.contacts.specs.Painting.{voxels_over, frames_met}

-- as much at each frame of a run, summed over frames before the run, frames in it and frames after it
three_runs : (first frame n each before within after : ℕ) →
    ((c : ℕ) → c < before → first + c < frame) → frame ≤ first + before → first + (before + within) ≤ frame + n →
    ((c : ℕ) → c < after → frame + n ≤ first + (before + (within + c))) →
    sum (before + (within + after)) (λ c. inside frame n (λ e. each) (first + c)) ≡ within * each
three_runs first frame n each before within after early from to late =
    sum_split before (within + after) f
    ∙ omega (
      arith,
      sum_split within after (λ c. f (before + c)),
      sum_zero before f (λ c h. outside_at frame n (λ e. each) (first + c) (λ k l. omega (arith, early c h))),
      sum_cong within (λ c. f (before + c)) (λ c. each) (λ c h. inside_at frame n (λ e. each) (first + (before + c)) (omega arith) (omega arith)),
      sum_same within each,
      sum_zero after (λ c. f (before + (within + c)))
          (λ c h. outside_at frame n (λ e. each) (first + (before + (within + c))) (λ k l. omega (arith, late c h))),
    )
  where
    f : ℕ → ℕ
    f c = inside frame n (λ e. each) (first + c)

-- so over a window of which the frames lo to hi are the run's
between_sum : (first last frame n each lo hi : ℕ) → first ≤ lo → lo ≤ hi → hi ≤ last → frame ≤ lo → hi < frame + n →
    ((c : ℕ) → first ≤ c → c < lo → c < frame) → ((c : ℕ) → hi < c → c ≤ last → frame + n ≤ c) →
    sum (window_length first last) (λ c. inside frame n (λ e. each) (first + c)) ≡ window_length lo hi * each
between_sum first last frame n each lo hi a b c d e early late =
    let whole : window_length first last ≡ (lo - first) + (window_length lo hi + (last - hi)) = omega arith in
    let start : first + (lo - first) ≡ lo = omega arith in
    let stop : first + ((lo - first) + window_length lo hi) ≡ suc hi = omega arith in
    ap (λ m. sum m (λ c. inside frame n (λ e. each) (first + c))) whole
    ∙ three_runs first frame n each (lo - first) (window_length lo hi) (last - hi)
    (λ k h. early (first + k) (omega arith) (omega arith))
    (rw start d)
    (rw stop e)
    (λ k h. late _ (omega (arith, stop)) (omega (arith, stop)))

-- and so over any window that the run meets
run_sum : (first last frame n each : ℕ) → first ≤ last → 0 < n → frame ≤ last → first < frame + n →
    sum (window_length first last) (λ c. inside frame n (λ e. each) (first + c)) ≡ frames_met first last frame n * each
run_sum first last frame n each order some begins ends =
    between_sum first last frame n each (max frame first) (min (frame + (n - 1)) last)
    (omega arith) (omega arith) (omega arith) (omega arith) (omega arith) (λ c h k. omega arith) (λ c h k. omega arith)

module _ (u : Universe) (first last l frame : ℕ) where
  pub over_outside : (s : Shape) → (last < frame) ⊎ (frame + frames u l ≤ first) → voxels_over u first last l frame s ≡ 0
  unfolding voxels_over
  over_outside s apart =
      sum_zero (window_length first last) _ (λ c h. outside_at frame (frames u l) (voxels_from u l s) (first + c) (λ i j. by apart c h i j))
    where
      by : (last < frame) ⊎ (frame + frames u l ≤ first) → (c : ℕ) → c < window_length first last → frame ≤ first + c → first + c < frame + frames u l → ⊥
      by (inl k) c h i j = omega arith
      by (inr k) c h i j = omega arith

  pub over_white : voxels_over u first last l frame (leaf White) ≡ 0
  unfolding voxels_over voxels_from
  over_white = sum_zero (window_length first last) _ (λ c h. none_inside frame (frames u l) (first + c))

  pub over_black : first ≤ last → frame ≤ last → first < frame + frames u l →
      voxels_over u first last l frame (leaf Black) ≡ frames_met first last frame (frames u l) * voxels_each u l
  unfolding voxels_over voxels_from
  over_black order begins ends = run_sum first last frame (frames u l) (voxels_each u l) order (side_positive u l (frame_axis u)) begins ends

  pub over_halved : 0 < u.axes → l < levels u → (m : ℕ) → frame ≡ m * frames u l → (a b : Shape) →
      voxels_over u first last l frame (halved a b)
      ≡ voxels_over u first last (suc l) frame a + voxels_over u first last (suc l) (frame + (frames u l - frames u (suc l))) b
  unfolding voxels_over
  over_halved some h m f a b =
      sum_cong (window_length first last) _ _ (λ c k. sym (halves_frames u some l h m frame f a b (first + c)))
      ∙ sum_add (window_length first last) _ _

-- a block counts at most its voxels
module _ (u : Universe) (some : 0 < u.axes) (first last : ℕ) (order : first ≤ last) where
  black_most : (l frame : ℕ) → Dec (frame ≤ last) → Dec (first < frame + frames u l) →
      voxels_over u first last l frame (leaf Black) ≤ frames u l * voxels_each u l
  black_most l frame (yes h) (yes k) =
      let few : frames_met first last frame (frames u l) ≤ frames u l = omega (arith, side_positive u l (frame_axis u)) in
      omega (arith, over_black u first last l frame order h k, mul-le-mul few (le_refl (voxels_each u l)))
  black_most l frame (no h) k = omega (arith, over_outside u first last l frame (leaf Black) (inl (omega arith)))
  black_most l frame (yes h) (no k) = omega (arith, over_outside u first last l frame (leaf Black) (inr (omega arith)))

  pub over_most : (n l m frame : ℕ) → l + n ≡ levels u → frame ≡ m * frames u l → (s : Shape) → depth s ≤ n → voxels_over u first last l frame s ≤ 2 ^ n
  over_most n l m frame e f (leaf Black) d =
      omega (arith, black_most l frame (dec_le frame last) (dec_lt first (frame + frames u l)), block_voxels u some l, voxels_left_lem u some n l e)
  over_most n l m frame e f (leaf White) d = omega (arith, over_white u first last l frame)
  over_most zero l m frame e f (halved a b) d = absurd (halved_deep a b d)
  over_most (suc n) l m frame e f (halved a b) d =
      let h : l < levels u = omega arith in
      let p = low_begins u some l h m frame f in
      let q = high_begins u some l h m frame f in
      omega (
        arith,
        over_halved u first last l frame some h m f a b,
        over_most n (suc l) p.0 frame (omega arith) p.1 a (depth_low a b n d),
        over_most n (suc l) q.0 (frame + (frames u l - frames u (suc l))) (omega arith) q.1 b (depth_high a b n d),
        two-pow-succ n,
      )

-- ---- the whole universe: an accepted window
module _ (u : Universe) (e : universe_refusal u ≡ 0) (first last : ℕ) (window : window_refusal u first last ≡ 0) where
  pub over_whole : (s : Shape) → voxels_over u first last 0 0 s ≡ voxels_in u s first last
  unfolding voxels_over voxels_in
  over_whole s =
      sum_cong (window_length first last) _ _
      (λ c h. inside_at 0 (frames u 0) (voxels_from u 0 s) (first + c) (omega arith)
      (omega (arith, side_first u (frame_axis u), window_frames u first last window, window_order u first last window)))

  -- THEOREM: a shape's voxels of the window, for any colouring that agrees with the shape on accepted voxels
  pub shape_window : (s : Shape) → depth s ≤ levels u → (colours : Colouring) → ((v : List ℕ) → voxel_refusal u v ≡ 0 → colour_at u s v ≡ colours v) →
      voxels_in u s first last ≡ window_voxels u colours first last
  unfolding voxels_in window_voxels
  shape_window s fits colours same =
      sum_cong (window_length first last) _ _
      (λ c h. frame_counts_lem u (accepted u e) s fits (first + c)
      ∙ frame_same u (accepted u e) (colour_at u s) colours same (first + c)
      (omega (arith, window_frames u first last window, window_order u first last window)))
