-- Counts of black voxels: halving a block halves its voxels, so merging keeps volume and frames; and the frames add up to the volume.
use mathlib.Core.Path.{◌≡◌, refl, sym, ap, ap₂, ◌∙◌}
use mathlib.Core.Bool.{Bool, true, false}
use Prim.Native.Nat.{ℕ, zero, suc, ◌+◌, ◌-◌, ◌*◌, ◌/◌, ◌%◌, ◌≤◌, ◌<◌}
use native.Mathlib.Nat.{le-max_left, le-max_right, div-eq_of_lt-le, mul-le-mul, le_refl}
use native.Mathlib.Decide.{ℕ_discrete}
use native.Mathlib.Omega.{arith}
use borrow.Author.Tests.{eq-eqb, ne_eqb}
use lib.Dec.{eqb}
use Rattle.lemmas.specs.Sums.{sum, product}
use Rattle.lemmas.proofs.Sums.{sum_cong, sum_add, sum_same, product_cong, product_scaled}
use Rattle.universe.specs.declared.Universe.{Universe}
use Rattle.universe.specs.Universe.{levels, axis_at, frame_axis, frame_count, block_side}
use Rattle.universe.specs.Voxel.{half_at}
use Rattle.universe.proofs.Universes.{axis_below, side_positive, side_first, side_halved, side_kept, voxels_halved}
use Rattle.bintree.specs.declared.Colour.{Colour}
use Rattle.bintree.specs.declared.Colour.TheVariants.{White, Black}
use Rattle.bintree.specs.Shape.{Shape, leaf, halved, depth}
use Rattle.bintree.specs.Merging.{merged}
use Rattle.bintree.specs.Counts.{volume_from, volume, frames, voxels_each, of_halves, voxels_from, voxels_at}
use Rattle.bintree.proofs.Merging.{Joined, one, two, joined}

-- a halved shape that is not too deep below level l: the level has halves, and its parts are not too deep below the next
module _ (u : Universe) (l : ℕ) (a b : Shape) (h : l + depth (halved a b) ≤ levels u) where
  pub level_below : l < levels u
  unfolding depth
  level_below = omega arith

  pub low_fits : suc l + depth a ≤ levels u
  unfolding depth
  low_fits = omega (arith, le-max_left (depth a) (depth b))

  pub high_fits : suc l + depth b ≤ levels u
  unfolding depth
  high_fits = omega (arith, le-max_right (depth a) (depth b))

module _ (u : Universe) (some : 0 < u.axes) where
  -- THEOREM: a block has at most all its voxels
  pub volume_most : (l : ℕ) (s : Shape) → l + depth s ≤ levels u → volume_from u l s ≤ product u.axes (block_side u l)
  unfolding volume_from
  volume_most l (leaf Black) h = omega arith
  volume_most l (leaf White) h = omega arith
  volume_most l (halved a b) h =
      let x = volume_most (suc l) a (low_fits u l a b h) in
      let y = volume_most (suc l) b (high_fits u l a b h) in
      omega (arith, voxels_halved u some l (level_below u l a b h))

  -- THEOREM: merging keeps the volume
  join_volume : (l : ℕ) → l < levels u → {a b j : Shape} → Joined a b j → volume_from u l j ≡ volume_from u (suc l) a + volume_from u (suc l) b
  unfolding volume_from
  join_volume l h (one Black) = omega (arith, voxels_halved u some l h)
  join_volume l h (one White) = refl
  join_volume l h (two e) = refl

  pub merged_volume : (l : ℕ) (s : Shape) → l + depth s ≤ levels u → volume_from u l (merged s) ≡ volume_from u l s
  unfolding volume_from merged
  merged_volume l (leaf c) h = refl
  merged_volume l (halved a b) h =
      let x = merged_volume (suc l) a (low_fits u l a b h) in
      let y = merged_volume (suc l) b (high_fits u l a b h) in
      join_volume l (level_below u l a b h) (joined (merged a) (merged b)) ∙ rw (x, y)

  -- the voxels of one frame in a block: a halving across the frame axis keeps them, another one halves them
  frame_kept : (l : ℕ) → axis_at u l ≡ frame_axis u → voxels_each u (suc l) ≡ voxels_each u l
  frame_kept l e = product_cong (frame_axis u) (block_side u (suc l)) (block_side u l) (λ i h. side_kept u l i (λ f. omega arith))

  frame_halved :
      (l : ℕ) → l < levels u → (axis_at u l ≡ frame_axis u → ⊥) → voxels_each u l ≡ 2 * voxels_each u (suc l)
  frame_halved l h n =
      product_scaled (frame_axis u) (block_side u (suc l)) (block_side u l) 2 (axis_at u l) (omega (arith, axis_below u some l))
      (λ i j k. sym (side_kept u l i k)) (side_halved u some l h)

  -- THEOREM: merging keeps the voxels of each frame
  same_half : (lower : Bool) (n : ℕ) → n ≡ of_halves true lower n n
  same_half true n = refl
  same_half false n = refl

  join_leaf :
      (l frame : ℕ) → l < levels u → (c : Colour) →
      voxels_from u l (leaf c) frame
      ≡ of_halves (eqb (axis_at u l) (frame_axis u)) (eqb (half_at u l frame) 0) (voxels_from u (suc l) (leaf c) frame) (voxels_from u (suc l) (leaf c) frame)
  unfolding voxels_from
  join_leaf l frame h Black = go (ℕ_discrete (axis_at u l) (frame_axis u))
    where
      go :
          Dec (axis_at u l ≡ frame_axis u) →
          voxels_each u l
          ≡ of_halves (eqb (axis_at u l) (frame_axis u)) (eqb (half_at u l frame) 0) (voxels_each u (suc l)) (voxels_each u (suc l))
      go (yes e) = rw (eq-eqb (axis_at u l) (frame_axis u) e, frame_kept l e) (same_half (eqb (half_at u l frame) 0) (voxels_each u l))
      go (no n) = rw (ne_eqb (axis_at u l) (frame_axis u) n) (omega (arith, frame_halved l h n))
  join_leaf l frame h White = go (eqb (axis_at u l) (frame_axis u)) (eqb (half_at u l frame) 0)
    where
      go : (across lower : Bool) → 0 ≡ of_halves across lower 0 0
      go true true = refl
      go true false = refl
      go false lower = refl

  join_voxels :
      (l frame : ℕ) → l < levels u → {a b j : Shape} → Joined a b j →
      voxels_from u l j frame
      ≡ of_halves (eqb (axis_at u l) (frame_axis u)) (eqb (half_at u l frame) 0) (voxels_from u (suc l) a frame) (voxels_from u (suc l) b frame)
  unfolding voxels_from
  join_voxels l frame h (one c) = join_leaf l frame h c
  join_voxels l frame h (two e) = refl

  pub merged_voxels : (l : ℕ) (s : Shape) (frame : ℕ) → l + depth s ≤ levels u → voxels_from u l (merged s) frame ≡ voxels_from u l s frame
  unfolding voxels_from merged
  merged_voxels l (leaf c) frame h = refl
  merged_voxels l (halved a b) frame h =
      let x = merged_voxels (suc l) a frame (low_fits u l a b h) in
      let y = merged_voxels (suc l) b frame (high_fits u l a b h) in
      join_voxels l frame (level_below u l a b h) (joined (merged a) (merged b)) ∙ rw (x, y)

-- a run of places in two
pub sum_split : (n m : ℕ) (f : ℕ → ℕ) → sum (n + m) f ≡ sum n f + sum m (λ c. f (n + c))
unfolding sum
sum_split n zero f = let e : n + 0 ≡ n = omega arith in rw e (omega arith)
sum_split n (suc m) f = let e : n + suc m ≡ suc (n + m) = omega arith in rw e (omega (arith, sum_split n m f))

-- the half that holds a place
pub lower_frame : (n m c : ℕ) → m * (2 * n) ≤ c → c < m * (2 * n) + n → c / n % 2 ≡ 0
lower_frame n m c h k = let e : c / n ≡ 2 * m = div-eq_of_lt-le n (omega arith) (omega arith) in omega arith

pub upper_frame : (n m c : ℕ) → m * (2 * n) + n ≤ c → c < m * (2 * n) + 2 * n → c / n % 2 ≡ 1
upper_frame n m c h k = let e : c / n ≡ 2 * m + 1 = div-eq_of_lt-le n (omega arith) (omega arith) in omega arith

half_sum :
    (n k : ℕ) (low high : ℕ → ℕ) →
    sum (2 * n) (λ c. of_halves true (eqb ((k * (2 * n) + c) / n % 2) 0) (low (k * (2 * n) + c)) (high (k * (2 * n) + c)))
    ≡ sum n (λ c. low (2 * k * n + c)) + sum n (λ c. high ((2 * k + 1) * n + c))
half_sum n k low high =
    let both : ℕ → ℕ = λ c. of_halves true (eqb ((k * (2 * n) + c) / n % 2) 0) (low (k * (2 * n) + c)) (high (k * (2 * n) + c)) in
    let e : 2 * n ≡ n + n = omega arith in
    ap (λ m. sum m both) e ∙ sum_split n n both
    ∙ ap₂ (λ x y. x + y) (sum_cong n both (λ c. low (2 * k * n + c)) lower) (sum_cong n (λ c. both (n + c)) (λ c. high ((2 * k + 1) * n + c)) upper)
  where
    lower : (c : ℕ) → c < n → of_halves true (eqb ((k * (2 * n) + c) / n % 2) 0) (low (k * (2 * n) + c)) (high (k * (2 * n) + c)) ≡ low (2 * k * n + c)
    lower c h = let e : k * (2 * n) + c ≡ 2 * k * n + c = omega arith in rw (lower_frame n k (k * (2 * n) + c) (omega arith) (omega arith), e)

    upper :
        (c : ℕ) → c < n →
        of_halves true (eqb ((k * (2 * n) + (n + c)) / n % 2) 0) (low (k * (2 * n) + (n + c))) (high (k * (2 * n) + (n + c))) ≡ high ((2 * k + 1) * n + c)
    upper c h = let e : k * (2 * n) + (n + c) ≡ (2 * k + 1) * n + c = omega arith in rw (upper_frame n k (k * (2 * n) + (n + c)) (omega arith) (omega arith), e)

-- THEOREM: the frames of a block, which begin at a multiple of its length, add up to its volume; hence all frames to the volume
module _ (u : Universe) (some : 0 < u.axes) where
  -- the voxels of a block: those of a frame as often as it has frames
  pub block_voxels : (l : ℕ) → frames u l * voxels_each u l ≡ product u.axes (block_side u l)
  unfolding product
  block_voxels l = let e : u.axes ≡ suc (frame_axis u) = omega arith in omega (arith, ap (λ n. product n (block_side u l)) e)

  -- THEOREM: a frame has at most all voxels of its block
  each_most : (l : ℕ) → voxels_each u l ≤ product u.axes (block_side u l)
  each_most l =
      let all : 1 * voxels_each u l ≤ frames u l * voxels_each u l = mul-le-mul (side_positive u l (frame_axis u)) (le_refl (voxels_each u l)) in
      omega (arith, block_voxels l)

  halves_most : (across lower : Bool) (low high : ℕ) → of_halves across lower low high ≤ low + high
  halves_most true true low high = omega arith
  halves_most true false low high = omega arith
  halves_most false lower low high = omega arith

  pub frame_most : (l : ℕ) (s : Shape) (frame : ℕ) → l + depth s ≤ levels u → voxels_from u l s frame ≤ product u.axes (block_side u l)
  unfolding voxels_from
  frame_most l (leaf Black) frame h = each_most l
  frame_most l (leaf White) frame h = omega arith
  frame_most l (halved a b) frame h =
      omega (
        arith,
        halves_most (eqb (axis_at u l) (frame_axis u)) (eqb (half_at u l frame) 0) (voxels_from u (suc l) a frame) (voxels_from u (suc l) b frame),
        frame_most (suc l) a frame (low_fits u l a b h),
        frame_most (suc l) b frame (high_fits u l a b h),
        voxels_halved u some l (level_below u l a b h),
      )

  -- one level: across the frame axis the halves' frames follow each other, otherwise they are the same
  Framed : ℕ → Shape → Type 0
  Framed l s = (k : ℕ) → sum (frames u l) (λ c. voxels_from u l s (k * frames u l + c)) ≡ volume_from u l s

  across_frames_lem : (l : ℕ) (a b : Shape) → l < levels u → axis_at u l ≡ frame_axis u → Framed (suc l) a → Framed (suc l) b → Framed l (halved a b)
  unfolding voxels_from volume_from Framed
  across_frames_lem l a b h e x y k =
      let n = frames u (suc l) in
      let m : frames u l ≡ 2 * n = rw e at (side_halved u some l h) in
      let at : ℕ → ℕ = λ c. k * (2 * n) + c in
      let both : ℕ → ℕ = λ c. of_halves true (eqb (at c / n % 2) 0) (voxels_from u (suc l) a (at c)) (voxels_from u (suc l) b (at c)) in
      ap (λ z. sum z (λ c. voxels_from u l (halved a b) (k * z + c))) m
      ∙ sum_cong (2 * n) (λ c. voxels_from u l (halved a b) (k * (2 * n) + c)) both (λ c h. rw (eq-eqb (axis_at u l) (frame_axis u) e, e))
      ∙ half_sum n k (voxels_from u (suc l) a) (voxels_from u (suc l) b)
      ∙ ap₂ (λ v w. v + w) (x (2 * k)) (y (2 * k + 1))

  along_frames : (l : ℕ) (a b : Shape) → (axis_at u l ≡ frame_axis u → ⊥) → Framed (suc l) a → Framed (suc l) b → Framed l (halved a b)
  unfolding voxels_from volume_from Framed
  along_frames l a b n x y k =
      let m = sym (side_kept u l (frame_axis u) n) in
      let i = frames u (suc l) in
      ap (λ z. sum z (λ c. voxels_from u l (halved a b) (k * z + c))) m
      ∙ sum_cong i (λ c. voxels_from u l (halved a b) (k * i + c)) (λ c. voxels_from u (suc l) a (k * i + c) + voxels_from u (suc l) b (k * i + c))
      (λ c h. rw (ne_eqb (axis_at u l) (frame_axis u) n))
      ∙ sum_add i (λ c. voxels_from u (suc l) a (k * i + c)) (λ c. voxels_from u (suc l) b (k * i + c))
      ∙ ap₂ (λ v w. v + w) (x k) (y k)

  block_frames : (l : ℕ) (s : Shape) → l + depth s ≤ levels u → Framed l s
  unfolding voxels_from volume_from Framed
  block_frames l (leaf Black) h = λ k. sum_same (frames u l) (voxels_each u l) ∙ block_voxels l
  block_frames l (leaf White) h = λ k. sum_same (frames u l) 0 ∙ omega arith
  block_frames l (halved a b) h =
      go (ℕ_discrete (axis_at u l) (frame_axis u)) (block_frames (suc l) a (low_fits u l a b h)) (block_frames (suc l) b (high_fits u l a b h))
    where
      go : Dec (axis_at u l ≡ frame_axis u) → Framed (suc l) a → Framed (suc l) b → Framed l (halved a b)
      go (yes e) x y = across_frames_lem l a b (level_below u l a b h) e x y
      go (no n) x y = along_frames l a b n x y

  pub frames_volume : (s : Shape) → depth s ≤ levels u → sum (frame_count u) (voxels_at u s) ≡ volume u s
  unfolding Framed
  frames_volume s h =
      let n = block_side u 0 (frame_axis u) in
      ap (λ m. sum m (voxels_at u s)) (sym (side_first u (frame_axis u)))
      ∙ sum_cong n (voxels_at u s) (λ c. voxels_from u 0 s (0 * n + c)) (λ c k. let e : c ≡ 0 * n + c = omega arith in ap (voxels_from u 0 s) e)
      ∙ block_frames 0 s (omega arith) 0

  -- THEOREM: so the frames of a window have at most the volume
  pub window_most : (s : Shape) (first n : ℕ) → depth s ≤ levels u → first + n ≤ frame_count u → sum n (λ c. voxels_at u s (first + c)) ≤ volume u s
  window_most s first n h k =
      let m = frame_count u - (first + n) in
      let e : frame_count u ≡ first + n + m = omega arith in
      omega (
        arith,
        frames_volume s h,
        ap (λ (i : ℕ). sum i (voxels_at u s)) e,
        sum_split (first + n) m (voxels_at u s),
        sum_split first n (voxels_at u s),
      )
