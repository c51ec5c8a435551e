-- A window is one more colouring: a mask within the window is the mask and the window's mask. That one is made of its halves, whose frames begin later across
-- the frame axis and not elsewhere; and all voxels within a window are those that a verdict counts.
use mathlib.Core.Path.{◌≡◌, refl, sym, ap, ap₂, ◌∙◌, fun_ext}
use mathlib.Core.Bool.{Bool, true, false, cond, ◌&&◌}
use Prim.Native.Nat.{ℕ, suc, ◌+◌, ◌-◌, ◌*◌, ◌^◌, ◌≤◌, ◌<◌}
use native.Mathlib.Omega.{arith}
use lib.Dec.{leb, ltb}
use lib.Bits.{bit_and}
use lib.Count.{ones}
use borrow.Author.Tests.{le-leb, lt-leb, leb-true, ltb-true}
use Rattle.lemmas.specs.Sums.{sum}
use Rattle.lemmas.specs.Grid.{count, grid}
use Rattle.lemmas.proofs.Sums.{sum_cong, sum_zero, and_left, and_right, and_false}
use Rattle.lemmas.proofs.Grid.{grid_const}
use Rattle.universe.specs.declared.Universe.{Universe}
use Rattle.universe.specs.declared.Block.{Block}
use Rattle.universe.specs.Refusals.{outside}
use Rattle.universe.specs.Universe.{levels, side_along, frame_axis, frame_count, block_side}
use Rattle.universe.specs.Block.{low_along, whole_block}
use Rattle.universe.specs.Voxel.{window_refusal}
use Rattle.universe.proofs.Refusing.{unless_holds}
use Rattle.universe.proofs.Universes.{Accepted}
use Rattle.bintree.specs.declared.Colour.{Colour}
use Rattle.bintree.specs.declared.Colour.TheVariants.{White, Black}
use Rattle.bintree.specs.Verdicts.{window_length}
use Rattle.bintree.proofs.Counts.{sum_split}
use Rattle.demands.specs.Voxels.{Colouring, is_black, black_voxels_at}
use Rattle.demands.specs.Verdicts.{frame_of}
use Rattle.demands.proofs.Voxels.{frame_voxel, place_frame, black_frames}
use Rattle.masks.specs.Mask.{mask_of, all_ones}
use Rattle.masks.specs.Block.{voxel_at, is_black_at, block_mask}
use Rattle.masks.specs.Steps.{step_along, steps_along}
use Rattle.masks.specs.Counts.{black_in}
use Rattle.masks.specs.Windows.{is_between, windowed, frame_at, window_mask}
use Rattle.masks.proofs.Mask.{mask_none, mask_top, mask_cong, mask_apart, and_masks, nowhere_mask, everywhere_mask}
use Rattle.masks.proofs.Block.{Left, two_powers}
use Rattle.masks.proofs.Steps.{place_steps, steps_low, steps_high, steps_few}
use Rattle.masks.proofs.Counts.{black_whole, ones_black}

-- ---- windows

-- THEOREM: the frame of voxel number i is the block's first frame and the steps of its digits
pub frame_at_lem : (n : ℕ) (b : Block) (i : ℕ) → Left n b → frame_of b.universe (voxel_at n b i) ≡ frame_at n b i
frame_at_lem n b i l = place_steps n b i l (frame_axis b.universe)

module _ (start end : ℕ) where
  within : (t : Bool) (c : Colour) → is_black c && t ≡ is_black (cond t c White)
  within true Black = refl
  within true White = refl
  within false Black = refl
  within false White = refl

  -- THEOREM: the mask within a window is the mask and the window's mask
  pub window_mask_lem : (colours : Colouring) (n : ℕ) (b : Block) → Left n b →
      bit_and (block_mask colours n b) (window_mask start end b.universe n (low_along b (frame_axis b.universe)))
      ≡ block_mask (windowed b.universe start end colours) n b
  unfolding block_mask window_mask
  window_mask_lem colours n b l =
      and_masks (2 ^ n) (is_black_at colours n b) (λ i. is_between start end (frame_at n b i))
      ∙ mask_cong (2 ^ n) _ _
      (λ i h. within (is_between start end (frame_at n b i)) (colours (voxel_at n b i))
      ∙ ap (λ c. is_black (cond (is_between start end c) (colours (voxel_at n b i)) White)) (sym (frame_at_lem n b i l)))

  -- so it counts the block's black voxels in the window
  pub window_ones : (colours : Colouring) (n : ℕ) (b : Block) → Left n b →
      ones (bit_and (block_mask colours n b) (window_mask start end b.universe n (low_along b (frame_axis b.universe))))
      ≡ black_in b (windowed b.universe start end colours)
  window_ones colours n b l = ap ones (window_mask_lem colours n b l) ∙ ones_black (windowed b.universe start end colours) n b l

-- ---- all frames of a window

-- a sum over all frames of which only those of a window count
sum_window : (n start end : ℕ) (f : ℕ → ℕ) → start ≤ end → end < n →
    sum n (λ c. cond (is_between start end c) (f c) 0) ≡ sum (window_length start end) (λ c. f (start + c))
sum_window n start end f h k =
    let long = window_length start end in
    let e : n ≡ start + (long + (n - suc end)) = omega arith in
    let g : ℕ → ℕ = λ c. cond (is_between start end c) (f c) 0 in
    ap (λ m. sum m g) e
    ∙ sum_split start (long + (n - suc end)) g
    ∙ omega (
      arith,
      sum_zero start g (λ c l. rw (lt-leb start c l)),
      sum_split long (n - suc end) (λ c. g (start + c)),
      sum_cong long (λ c. g (start + c)) (λ c. f (start + c)) (λ c l. rw (le-leb start (start + c) (omega arith), le-leb (start + c) end (omega arith))),
      sum_zero (n - suc end) (λ c. g (start + (long + c)))
          (λ c l. rw (le-leb start (start + (long + c)) (omega arith), lt-leb (start + (long + c)) end (omega arith))),
    )

module _ (u : Universe) (accept : Accepted u) (colours : Colouring) (start end : ℕ) (window : window_refusal u start end ≡ 0) where
  pub in_order : start ≤ end
  unfolding window_refusal
  in_order = leb-true _ _ (and_left (leb start end) (ltb end (frame_count u)) (unless_holds _ outside (omega arith) window))

  pub in_frames : end < frame_count u
  unfolding window_refusal
  in_frames = ltb-true _ _ (and_right (leb start end) (ltb end (frame_count u)) (unless_holds _ outside (omega arith) window))

  frame_windowed : (frame : ℕ) → black_voxels_at u (windowed u start end colours) frame ≡ cond (is_between start end frame) (black_voxels_at u colours frame) 0
  unfolding black_voxels_at frame_voxel
  frame_windowed frame =
      ap (grid (frame_axis u) (side_along u))
      (fun_ext (λ p. ap (λ c. count (is_black (cond (is_between start end c) (colours (frame_voxel u frame p)) White))) (place_frame u accept frame p)))
      ∙ go (is_between start end frame)
    where
      go : (t : Bool) → grid (frame_axis u) (side_along u) (λ p. count (is_black (cond t (colours (frame_voxel u frame p)) White)))
          ≡ cond t (grid (frame_axis u) (side_along u) (λ p. count (is_black (colours (frame_voxel u frame p))))) 0
      go true = refl
      go false = grid_const (frame_axis u) (side_along u) 0 ∙ omega arith

  -- THEOREM: the black voxels of the whole block within an accepted window are those that a verdict counts
  pub black_window : black_in (whole_block u) (windowed u start end colours) ≡ sum (window_length start end) (λ c. black_voxels_at u colours (start + c))
  black_window =
      black_whole (windowed u start end colours) u
      ∙ black_frames u accept (windowed u start end colours)
      ∙ sum_cong (frame_count u) _ _ (λ c h. frame_windowed c)
      ∙ sum_window (frame_count u) start end (black_voxels_at u colours) in_order in_frames

-- ---- the mask of a window

module _ (start end : ℕ) (u : Universe) where
  abbrev test : ℕ → ℕ → ℕ → Bool
  test n frame i = is_between start end (frame + steps_along u (frame_axis u) n i)

  -- THEOREM: it is made of the halves' masks, whose frames begin a step later for the high half; of one voxel it is the test
  pub window_halves : (n frame : ℕ) →
      window_mask start end u (suc n) frame ≡ window_mask start end u n (frame + step_along u (frame_axis u) n) * 2 ^ 2 ^ n + window_mask start end u n frame
  unfolding window_mask
  window_halves n frame =
      ap (λ (m : ℕ). mask_of m (test (suc n) frame)) (two_powers n)
      ∙ mask_apart (2 ^ n) (2 ^ n) (test (suc n) frame)
      ∙ ap₂ (λ (x y : ℕ). x * 2 ^ 2 ^ n + y)
      (mask_cong (2 ^ n) (λ i. test (suc n) frame (2 ^ n + i)) (test n (frame + step_along u (frame_axis u) n)) (λ i l. ap (is_between start end) (later i l)))
      (mask_cong (2 ^ n) (test (suc n) frame) (test n frame) (λ i l. ap (λ (s : ℕ). is_between start end (frame + s)) (steps_low u (frame_axis u) n i l)))
    where
      later : (i : ℕ) → i < 2 ^ n →
          frame + steps_along u (frame_axis u) (suc n) (2 ^ n + i) ≡ frame + step_along u (frame_axis u) n + steps_along u (frame_axis u) n i
      later i l = omega (arith, steps_high u (frame_axis u) n i l)

  pub window_voxel : (frame : ℕ) → window_mask start end u 0 frame ≡ count (is_between start end frame)
  unfolding window_mask steps_along sum
  window_voxel frame =
      let e : frame + 0 ≡ frame = omega arith in
      mask_top 0 (test 0 frame) ∙ omega (arith, mask_none (test 0 frame), ap (λ (f : ℕ). count (is_between start end f)) e)

  module _ (some : 0 < u.axes) (n frame : ℕ) (few : n ≤ levels u) where
    abbrev long : ℕ
    long = block_side u (levels u - n) (frame_axis u)

    -- a block whose frames are all in the window, all before it, all after it
    pub window_all : start ≤ frame → frame + (long - 1) ≤ end → window_mask start end u n frame ≡ all_ones (2 ^ n)
    unfolding window_mask
    window_all h k =
        mask_cong (2 ^ n) (test n frame) (λ i. true)
        (λ i l. rw (
          le-leb start (frame + steps_along u (frame_axis u) n i) (omega arith),
          le-leb (frame + steps_along u (frame_axis u) n i) end (omega (arith, steps_few u (frame_axis u) some n i few)),
        ))
        ∙ everywhere_mask (2 ^ n)

    pub window_before : frame + (long - 1) < start → window_mask start end u n frame ≡ 0
    unfolding window_mask
    window_before h =
        mask_cong (2 ^ n) (test n frame) (λ i. false)
        (λ i l. rw (lt-leb start (frame + steps_along u (frame_axis u) n i) (omega (arith, steps_few u (frame_axis u) some n i few))))
        ∙ nowhere_mask (2 ^ n)

    pub window_after : end < frame → window_mask start end u n frame ≡ 0
    unfolding window_mask
    window_after h =
        mask_cong (2 ^ n) (test n frame) (λ i. false)
        (λ i l. rw (lt-leb (frame + steps_along u (frame_axis u) n i) end (omega arith)) (and_false (leb start (frame + steps_along u (frame_axis u) n i))))
        ∙ nowhere_mask (2 ^ n)
