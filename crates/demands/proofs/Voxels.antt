-- Counts, voxel by voxel. A block's voxels are the grid of its lengths, by their places from its low corner: the halves from its level on are the
-- same for two voxels whose places differ by multiples of its lengths. Halving a block across an axis other than the frame axis makes of its grid the
-- low half's grid and the same one moved; across the frame axis the frame names the half. So a shape's voxels of a frame are counted one by one.
use Prim.Native.Nat.{ℕ, zero, suc, ◌+◌, ◌*◌, ◌/◌, ◌%◌, ◌≤◌, ◌<◌}
use mathlib.Core.Path.{◌≡◌, refl, sym, ap, ap₂, ◌∙◌, fun_ext}
use mathlib.Core.Bool.{Bool, true, false, cond}
use mathlib.Core.List.{List, ◌∷◌}
use native.Mathlib.Omega.{arith}
use native.Mathlib.Nat.{add-mul-div_right, add-div_right, div-eq_of_lt}
use native.Mathlib.Decide.{ℕ_discrete}
use lib.Dec.{eqb}
use borrow.Author.Tests.{eq-eqb, ne_eqb}
use Rattle.lemmas.specs.Sums.{sum}
use Rattle.lemmas.specs.Grid.{count, put, grid, listed}
use Rattle.lemmas.proofs.Sums.{sum_cong}
use Rattle.lemmas.proofs.Grid.{put_same, put_other, listed_at, grid_lengths, grid_const}
use Rattle.universe.specs.declared.Universe.{Universe}
use Rattle.universe.specs.Universe.{most_axes, levels, axis_at, side_along, frame_axis, frame_count, block_side}
use Rattle.universe.specs.Voxel.{place_along, voxel_refusal, half_at, path_from}
use Rattle.universe.proofs.Universes.{Accepted, axis_below, side_positive, side_first, side_halved, side_kept}
use Rattle.universe.proofs.Voxel.{taken_voxel}
use Rattle.bintree.specs.declared.Colour.TheVariants.{White, Black}
use Rattle.bintree.specs.Shape.{Shape, leaf, halved, depth}
use Rattle.bintree.specs.Parts.{part, colour_of, colour_at}
use Rattle.bintree.specs.Counts.{volume, of_halves, voxels_from, voxels_at}
use Rattle.bintree.proofs.Shape.{depth_low, depth_high, halved_deep}
use Rattle.bintree.proofs.Parts.{part_half}
use Rattle.bintree.proofs.Counts.{frames_volume}
use Rattle.demands.specs.Voxels.{Colouring, is_black, count_black, black_voxels, black_voxels_at}
use Rattle.demands.proofs.Grids.{Inside, grid_cong, moved, moved_same, moved_other, grid_double}

-- ---- the halves from a level on depend on places up to multiples of the lengths of that level's blocks
-- the place of v along an axis is that of w and some such lengths more
pub record Apart (u : Universe) (l : ℕ) (v w : List ℕ) : Type 0 where
  pub lengths : ℕ → ℕ
  pub place : (i : ℕ) → i < u.axes → place_along v i ≡ place_along w i + lengths i * block_side u l i

half_apart : (x k n : ℕ) → 0 < n → (x + k * (2 * n)) / n % 2 ≡ x / n % 2
half_apart x k n h =
    let e : x + k * (2 * n) ≡ x + (2 * k) * n = omega arith in
    rw (e, add-mul-div_right x (2 * k) h) (omega arith)

module _ (u : Universe) (some : 0 < u.axes) where
  apart_next : (l : ℕ) (v w : List ℕ) → l < levels u → Apart u l v w → Apart u (suc l) v w
  apart_next l v w h a = record {
    lengths = λ i. cond (eqb (axis_at u l) i) (2 * a.lengths i) (a.lengths i);
    place = λ i k. go i k (ℕ_discrete (axis_at u l) i);
  }
    where
      go : (i : ℕ) → i < u.axes → Dec (axis_at u l ≡ i) →
          place_along v i ≡ place_along w i + cond (eqb (axis_at u l) i) (2 * a.lengths i) (a.lengths i) * block_side u (suc l) i
      go i k (yes e) =
          rw (eq-eqb (axis_at u l) i e, ← e)
          (omega (arith, a.place (axis_at u l) (axis_below u some l), ap (λ x. a.lengths (axis_at u l) * x) (side_halved u some l h)))
      go i k (no n) = rw (ne_eqb (axis_at u l) i n, side_kept u l i n) (a.place i k)

  pub path_apart : (n l : ℕ) (v w : List ℕ) → l + n ≡ levels u → Apart u l v w → path_from u v l n ≡ path_from u w l n
  unfolding path_from
  path_apart zero l v w e a = refl
  path_apart (suc n) l v w e a = ap₂ ◌∷◌ half (path_apart n (suc l) v w (omega arith) (apart_next l v w (omega arith) a))
    where
      half : half_at u l (place_along v (axis_at u l)) ≡ half_at u l (place_along w (axis_at u l))
      half =
          rw (a.place (axis_at u l) (axis_below u some l), side_halved u some l (omega arith))
          (half_apart (place_along w (axis_at u l)) (a.lengths (axis_at u l)) (block_side u (suc l) (axis_at u l)) (side_positive u (suc l) (axis_at u l)))

  -- so a voxel's colour depends on its places along the universe's axes
  pub colour_places : (s : Shape) (v w : List ℕ) → ((i : ℕ) → i < u.axes → place_along v i ≡ place_along w i) → colour_at u s v ≡ colour_at u s w
  unfolding colour_at
  colour_places s v w h =
      ap (λ path. colour_of (part s path)) (path_apart (levels u) 0 v w (omega arith) (record { lengths = λ i. 0; place = λ i k. omega (arith, h i k) }))

-- ---- a block's voxels of one frame
-- 1 where the part of a shape at the end of a voxel's n halves from level l on is black
abbrev on_way : Universe → ℕ → ℕ → Shape → List ℕ → ℕ
on_way u l n s v = count (is_black (colour_of (part s (path_from u v l n))))

of_choice : (t : Bool) (a b : Shape) → count (is_black (colour_of (cond t a b))) ≡ cond t (count (is_black (colour_of a))) (count (is_black (colour_of b)))
of_choice true a b = refl
of_choice false a b = refl

half_way : (u : Universe) (l n : ℕ) (a b : Shape) (v : List ℕ) →
    on_way u l (suc n) (halved a b) v ≡ cond (eqb (half_at u l (place_along v (axis_at u l))) 0) (on_way u (suc l) n a v) (on_way u (suc l) n b v)
unfolding path_from
half_way u l n a b v =
    rw (part_half a b (half_at u l (place_along v (axis_at u l))) (path_from u v (suc l) n))
    (of_choice (eqb (half_at u l (place_along v (axis_at u l))) 0) (part a (path_from u v (suc l) n)) (part b (path_from u v (suc l) n)))

-- the place that lies in the low half of a stretch of two lengths, and in the high one
pub low_half : (x n : ℕ) → x < n → x / n % 2 ≡ 0
low_half x n h = rw (div-eq_of_lt h)

pub high_half : (x n : ℕ) → x < n → (x + n) / n % 2 ≡ 1
high_half x n h = rw (add-div_right x {k = n} (omega arith), div-eq_of_lt h)

choose : (d : ℕ) (n : ℕ → ℕ) (t : Bool) (f g : (ℕ → ℕ) → ℕ) → of_halves true t (grid d n f) (grid d n g) ≡ grid d n (λ p. cond t (f p) (g p))
choose d n true f g = refl
choose d n false f g = refl

-- the voxel of a frame with these places along the other axes
unfoldable pub frame_voxel : Universe → ℕ → (ℕ → ℕ) → List ℕ
frame_voxel u frame p = listed most_axes (put (frame_axis u) frame p)

module _ (u : Universe) (accept : Accepted u) (frame : ℕ) where
  last_axis : frame_axis u < most_axes
  last_axis = omega (arith, accept.some_axes, accept.few_axes)

  pub place_frame : (p : ℕ → ℕ) → place_along (frame_voxel u frame p) (frame_axis u) ≡ frame
  unfolding frame_voxel
  place_frame p = listed_at most_axes (put (frame_axis u) frame p) (frame_axis u) last_axis ∙ put_same (frame_axis u) frame p

  pub place_other : (p : ℕ → ℕ) (i : ℕ) → i < frame_axis u → place_along (frame_voxel u frame p) i ≡ p i
  unfolding frame_voxel
  place_other p i h = listed_at most_axes (put (frame_axis u) frame p) i (omega (arith, last_axis)) ∙ put_other (frame_axis u) i frame p (λ e. omega arith)

  -- a point moved along an axis that is not the frame axis
  moved_apart : (l a : ℕ) (p : ℕ → ℕ) → a < frame_axis u → Apart u l (frame_voxel u frame (moved a (block_side u l a) p)) (frame_voxel u frame p)
  moved_apart l a p k = record { lengths = λ i. count (eqb a i); place = λ i h. go i h (ℕ_discrete a i) (ℕ_discrete (frame_axis u) i) }
    where
      go : (i : ℕ) → i < u.axes → Dec (a ≡ i) → Dec (frame_axis u ≡ i) →
          place_along (frame_voxel u frame (moved a (block_side u l a) p)) i ≡ place_along (frame_voxel u frame p) i + count (eqb a i) * block_side u l i
      go i h x (yes f) = rw (← f, place_frame (moved a (block_side u l a) p), place_frame p, ne_eqb a (frame_axis u) (λ e. omega arith)) (omega arith)
      go i h (yes e) (no f) =
          rw (← e, place_other (moved a (block_side u l a) p) a k, place_other p a k, moved_same a (block_side u l a) p, eq-eqb a a refl) (omega arith)
      go i h (no e) (no f) =
          let m : i < frame_axis u = omega arith in
          rw (place_other (moved a (block_side u l a) p) i m, place_other p i m, moved_other a (block_side u l a) i p e, ne_eqb a i e) (omega arith)

  -- what is to be shown of a block of level l, n levels above the last
  Counted : ℕ → ℕ → Shape → Type 0
  Counted l n s = voxels_from u l s frame ≡ grid (frame_axis u) (block_side u l) (λ p. on_way u l n s (frame_voxel u frame p))

  module _ (l n : ℕ) (e : l + suc n ≡ levels u) (a b : Shape) (x : Counted (suc l) n a) (y : Counted (suc l) n b) where
    across_frames_lem : axis_at u l ≡ frame_axis u → Counted l (suc n) (halved a b)
    unfolding Counted voxels_from
    across_frames_lem q =
        rw (eq-eqb (axis_at u l) (frame_axis u) q, x, y)
        (choose (frame_axis u) (block_side u (suc l)) (eqb (half_at u l frame) 0)
        (λ p. on_way u (suc l) n a (frame_voxel u frame p))
        (λ p. on_way u (suc l) n b (frame_voxel u frame p))
        ∙ grid_lengths (frame_axis u) (block_side u (suc l)) (block_side u l) _ (λ i h. side_kept u l i (λ f. omega arith))
        ∙ ap (grid (frame_axis u) (block_side u l)) (fun_ext (λ p. sym (half_way u l n a b (frame_voxel u frame p) ∙ rw (q, place_frame p)))))

    along_frames : (axis_at u l ≡ frame_axis u → ⊥) → Counted l (suc n) (halved a b)
    unfolding Counted voxels_from
    along_frames q =
        rw (ne_eqb (axis_at u l) (frame_axis u) q, x, y)
        (sym (grid_lengths (frame_axis u) (block_side u l) (put axis (2 * side axis) side) _ (λ i h. lengths i (ℕ_discrete axis i))
        ∙ grid_double (frame_axis u) axis side (λ p. on_way u l (suc n) (halved a b) (frame_voxel u frame p)) other
        ∙ ap₂ ◌+◌ (grid_cong (frame_axis u) side _ _ low) (grid_cong (frame_axis u) side _ _ high)))
      where
        axis : ℕ
        axis = axis_at u l

        side : ℕ → ℕ
        side = block_side u (suc l)

        other : axis < frame_axis u
        other = omega (arith, axis_below u accept.some_axes l)

        lengths : (i : ℕ) → Dec (axis ≡ i) → block_side u l i ≡ put axis (2 * side axis) side i
        lengths i (yes f) = rw (← f, put_same axis (2 * side axis) side) (side_halved u accept.some_axes l (omega arith))
        lengths i (no f) = sym (put_other axis i (2 * side axis) side f ∙ side_kept u l i f)

        low : (p : ℕ → ℕ) → Inside (frame_axis u) side p → on_way u l (suc n) (halved a b) (frame_voxel u frame p) ≡ on_way u (suc l) n a (frame_voxel u frame p)
        low p w = half_way u l n a b (frame_voxel u frame p) ∙ rw (place_other p axis other, low_half (p axis) (side axis) (w.below axis other))

        high : (p : ℕ → ℕ) → Inside (frame_axis u) side p →
            on_way u l (suc n) (halved a b) (frame_voxel u frame (moved axis (side axis) p)) ≡ on_way u (suc l) n b (frame_voxel u frame p)
        high p w =
            half_way u l n a b (frame_voxel u frame (moved axis (side axis) p))
            ∙ rw (place_other (moved axis (side axis) p) axis other, moved_same axis (side axis) p, high_half (p axis) (side axis) (w.below axis other))
            (ap (λ path. count (is_black (colour_of (part b path))))
            (path_apart u accept.some_axes n (suc l) _ _ (omega arith) (moved_apart (suc l) axis p other)))

  counted : (n l : ℕ) (s : Shape) → l + n ≡ levels u → depth s ≤ n → Counted l n s
  unfolding Counted voxels_from part
  counted n l (leaf Black) e h = sym (grid_const (frame_axis u) (block_side u l) 1 ∙ omega arith)
  counted n l (leaf White) e h = sym (grid_const (frame_axis u) (block_side u l) 0 ∙ omega arith)
  counted zero l (halved a b) e h = absurd (halved_deep a b h)
  counted (suc n) l (halved a b) e h =
      go (ℕ_discrete (axis_at u l) (frame_axis u))
      (counted n (suc l) a (omega arith) (depth_low a b n h))
      (counted n (suc l) b (omega arith) (depth_high a b n h))
    where
      go : Dec (axis_at u l ≡ frame_axis u) → Counted (suc l) n a → Counted (suc l) n b → Counted l (suc n) (halved a b)
      go (yes q) x y = across_frames_lem l n e a b x y q
      go (no q) x y = along_frames l n e a b x y q

-- ---- the voxels that are counted are accepted ones, so that colourings which agree on these count the same
pub frame_voxel_accepted : (u : Universe) → Accepted u → (frame : ℕ) → frame < frame_count u →
    (p : ℕ → ℕ) → Inside (frame_axis u) (side_along u) p → voxel_refusal u (frame_voxel u frame p) ≡ 0
unfolding frame_voxel
frame_voxel_accepted u accept frame h p w =
    taken_voxel u (frame_voxel u frame p) (record { inside = λ i l. go i l (ℕ_discrete (frame_axis u) i); above = above })
  where
    go : (i : ℕ) → i < u.axes → Dec (frame_axis u ≡ i) → place_along (frame_voxel u frame p) i < side_along u i
    go i l (yes e) = rw (← e, place_frame u accept frame p) h
    go i l (no k) = rw (place_other u accept frame p i (omega arith)) (w.below i (omega arith))

    above : (i : ℕ) → u.axes ≤ i → i < most_axes → place_along (frame_voxel u frame p) i ≡ 0
    above i l k =
        listed_at most_axes (put (frame_axis u) frame p) i k
        ∙ put_other (frame_axis u) i frame p (λ e. omega (arith, accept.some_axes))
        ∙ w.beyond i (omega arith)

-- the voxels of all frames are all voxels
pub black_frames : (u : Universe) → Accepted u → (colours : Colouring) → black_voxels u colours ≡ sum (frame_count u) (black_voxels_at u colours)
unfolding black_voxels black_voxels_at grid
black_frames u accept colours =
    let last : u.axes ≡ suc (frame_axis u) = omega (arith, accept.some_axes) in
    ap (λ d. grid d (side_along u) (count_black colours)) last

module _ (u : Universe) (accept : Accepted u) (c d : Colouring) (same : (v : List ℕ) → voxel_refusal u v ≡ 0 → c v ≡ d v) where
  pub frame_same : (frame : ℕ) → frame < frame_count u → black_voxels_at u c frame ≡ black_voxels_at u d frame
  unfolding black_voxels_at frame_voxel
  frame_same frame h =
      grid_cong (frame_axis u) (side_along u) _ _ (λ p w. ap (λ x. count (is_black x)) (same (frame_voxel u frame p) (frame_voxel_accepted u accept frame h p w)))

  pub black_same : black_voxels u c ≡ black_voxels u d
  black_same = black_frames u accept c ∙ sum_cong (frame_count u) (black_voxels_at u c) (black_voxels_at u d) frame_same ∙ sym (black_frames u accept d)

-- ---- THEOREMS: a shape's voxels of a frame, and all its voxels, counted one by one
module _ (u : Universe) (accept : Accepted u) (s : Shape) (fits : depth s ≤ levels u) where
  pub frame_counts_lem : (frame : ℕ) → voxels_at u s frame ≡ black_voxels_at u (colour_at u s) frame
  unfolding black_voxels_at Counted frame_voxel colour_at
  frame_counts_lem frame =
      counted u accept frame (levels u) 0 s (omega arith) fits
      ∙ grid_lengths (frame_axis u) (block_side u 0) (side_along u) _ (λ i h. side_first u i)

  pub volume_counts : volume u s ≡ black_voxels u (colour_at u s)
  volume_counts =
      sym (frames_volume u accept.some_axes s fits)
      ∙ sum_cong (frame_count u) (voxels_at u s) (black_voxels_at u (colour_at u s)) (λ c h. frame_counts_lem c)
      ∙ sym (black_frames u accept (colour_at u s))

  -- for any colouring that agrees with the shape on accepted voxels
  pub volume_of_lem : (colours : Colouring) → ((v : List ℕ) → voxel_refusal u v ≡ 0 → colour_at u s v ≡ colours v) → volume u s ≡ black_voxels u colours
  volume_of_lem colours same = volume_counts ∙ black_same u accept (colour_at u s) colours same
