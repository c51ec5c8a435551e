-- Masks of surfaces. A row's value is a sum over the axes, of which a halving changes one: so the value at a voxel is that at the block's first voxel and a
-- step for each digit that is 1, and the mask is made of the halves' masks. A ball's distance is a sum of squares, of which a halving changes one.
use mathlib.Core.Path.{◌≡◌, refl, sym, ap, ap₂, ◌∙◌}
use mathlib.Core.Bool.{Bool, true, false, cond}
use mathlib.Core.List.{List}
use Prim.Native.Nat.{ℕ, zero, suc, ◌+◌, ◌-◌, ◌*◌, ◌%◌, ◌^◌, ◌≤◌, ◌<◌}
use native.Mathlib.Omega.{arith}
use native.Mathlib.Decide.{ℕ_discrete}
use native.Mathlib.Nat.{zero-add, suc-add, mod-eq_of_lt}
use lib.Pow.{pow_mono, mod-mod-pow}
use lib.Pow as powers
use lib.IntN.{ℤ, pos, ◌+ℤ◌, ◌*ℤ◌, +ℤ_idr}
use lib.Signed.{le_z}
use Rattle.lemmas.specs.Sums.{total}
use Rattle.lemmas.specs.Grid.{count}
use Rattle.lemmas.proofs.Sums.{total_cong}
use Rattle.lemmas.proofs.Whole.{ι, ν, ◌⊕◌, ◌⊖◌, ◌⊗◌, eq_by}
use Rattle.universe.specs.declared.Universe.{Universe}
use Rattle.universe.specs.declared.Block.{Block}
use Rattle.universe.specs.Block.{low_along, axis_of, low, high}
use Rattle.universe.specs.Voxel.{place_along}
use Rattle.universe.proofs.Blocks.{half_length, high_here, high_kept}
use Rattle.bintree.specs.declared.Colour.TheVariants.{White, Black}
use Rattle.csg.specs.Halfspace.{Halfspace, centre_value, colour_at_centre}
use Rattle.csg.specs.Ball.{Ball, place_axes, radius_squared, off, distance_at, ball_colour}
use Rattle.demands.specs.Voxels.{is_black}
use Rattle.masks.specs.Mask.{digit_of, has_digit, mask_of}
use Rattle.masks.specs.Block.{half_of, part_at, voxel_at, block_mask}
use Rattle.masks.specs.Steps.{steps_along}
use Rattle.masks.specs.Leaves.{row_step, with_steps, row_mask, off_first, first_distance, ball_mask}
use Rattle.masks.proofs.Mask.{mask_none, mask_top, mask_cong, mask_below, mask_apart}
use Rattle.masks.proofs.Digits.{digit_kept, digit_low, digit_high, digit_count}
use Rattle.masks.proofs.Block.{Left, left_half, two_powers, mask_voxel}
use Rattle.masks.proofs.Steps.{axis_is, side_is, axis_inside, axis_long, place_steps}

-- ---- values with steps

-- the digits below n of the numbers of a low and of a high half
low_total : (n : ℕ) (step : ℕ → ℤ) (i : ℕ) → i < 2 ^ n → total (suc n) (λ j. pos (digit_of i j) *ℤ step j) ≡ total n (λ j. pos (digit_of i j) *ℤ step j)
unfolding total
low_total n step i l =
    ap (λ (d : ℕ). total n (λ j. pos (digit_of i j) *ℤ step j) +ℤ pos d *ℤ step n) (digit_low n i l) ∙ none (total n (λ j. pos (digit_of i j) *ℤ step j)) (step n)
  where
    none : (t s : ℤ) → t +ℤ pos 0 *ℤ s ≡ t
    none t s = eq_by (ι t ⊕ ν 0 ⊗ ι s) (ι t) (omega arith)

high_total : (n : ℕ) (step : ℕ → ℤ) (i : ℕ) → i < 2 ^ n →
    total (suc n) (λ j. pos (digit_of (2 ^ n + i) j) *ℤ step j) ≡ total n (λ j. pos (digit_of i j) *ℤ step j) +ℤ pos 1 *ℤ step n
unfolding total
high_total n step i l =
    ap₂ (λ (x : ℤ) (d : ℕ). x +ℤ pos d *ℤ step n)
    (total_cong n (λ j. pos (digit_of (2 ^ n + i) j) *ℤ step j) (λ j. pos (digit_of i j) *ℤ step j) (λ j h. ap (λ (d : ℕ). pos d *ℤ step j) (digit_kept n j i h)))
    (digit_high n i l)

module _ (v : ℤ) (step : ℕ → ℤ) where
  pub with_steps_none : (i : ℕ) → with_steps v step 0 i ≡ v
  unfolding with_steps total
  with_steps_none i = +ℤ_idr v

  pub with_steps_low : (n i : ℕ) → i < 2 ^ n → with_steps v step (suc n) i ≡ with_steps v step n i
  unfolding with_steps
  with_steps_low n i l = ap (λ x. v +ℤ x) (low_total n step i l)

  pub with_steps_high : (n i : ℕ) → i < 2 ^ n → with_steps v step (suc n) (2 ^ n + i) ≡ with_steps (v +ℤ step n) step n i
  unfolding with_steps
  with_steps_high n i l = ap (λ x. v +ℤ x) (high_total n step i l) ∙ around v (total n (λ j. pos (digit_of i j) *ℤ step j)) (step n)
    where
      around : (v t s : ℤ) → v +ℤ (t +ℤ pos 1 *ℤ s) ≡ (v +ℤ s) +ℤ t
      around v t s = eq_by (ι v ⊕ (ι t ⊕ ν 1 ⊗ ι s)) ((ι v ⊕ ι s) ⊕ ι t) (omega arith)

  -- THEOREM: the mask of a row by those of its halves, whose value is one step more for the high half; of one voxel it is the test
  pub row_mask_halves : (n : ℕ) → row_mask v step (suc n) ≡ row_mask (v +ℤ step n) step n * 2 ^ 2 ^ n + row_mask v step n
  unfolding row_mask
  row_mask_halves n =
      ap (λ (m : ℕ). mask_of m (λ i. le_z (pos 0) (with_steps v step (suc n) i))) (two_powers n)
      ∙ mask_apart (2 ^ n) (2 ^ n) (λ i. le_z (pos 0) (with_steps v step (suc n) i))
      ∙ ap₂ (λ (x y : ℕ). x * 2 ^ 2 ^ n + y)
      (mask_cong (2 ^ n) _ (λ i. le_z (pos 0) (with_steps (v +ℤ step n) step n i)) (λ i l. ap (le_z (pos 0)) (with_steps_high n i l)))
      (mask_cong (2 ^ n) _ (λ i. le_z (pos 0) (with_steps v step n i)) (λ i l. ap (le_z (pos 0)) (with_steps_low n i l)))

  -- a block with fewer levels left has the lowest digits, whatever the further steps
  pub row_mask_fits : (n : ℕ) → row_mask v step n < 2 ^ 2 ^ n
  unfolding row_mask
  row_mask_fits n = mask_below (2 ^ n) _

  pub row_mask_part : (j n : ℕ) → row_mask v step (j + n) % 2 ^ 2 ^ n ≡ row_mask v step n
  row_mask_part zero n = ap (λ (x : ℕ). row_mask v step x % 2 ^ 2 ^ n) (zero-add n) ∙ mod-eq_of_lt (row_mask_fits n)
  row_mask_part (suc j) n =
      let e : 2 ^ (j + n) ≡ (2 ^ (j + n) - 2 ^ n) + 2 ^ n = omega (arith, pow_mono {i = n} {j = j + n} (omega arith)) in
      ap (λ (x : ℕ). row_mask v step x % 2 ^ 2 ^ n) (suc-add j n)
      ∙ sym (mod-mod-pow (row_mask v step (suc (j + n))) (2 ^ (j + n) - 2 ^ n) (2 ^ n))
      ∙ ap (λ (x : ℕ). row_mask v step (suc (j + n)) % 2 ^ x % 2 ^ 2 ^ n) (sym e)
      ∙ ap (λ (x : ℕ). x % 2 ^ 2 ^ (j + n) % 2 ^ 2 ^ n) (row_mask_halves (j + n))
      ∙ ap (λ (x : ℕ). x % 2 ^ 2 ^ n) (powers.low (row_mask (v +ℤ step (j + n)) step (j + n)) (2 ^ (j + n)) (row_mask_fits (j + n)))
      ∙ row_mask_part j n

  pub row_mask_voxel : row_mask v step 0 ≡ count (le_z (pos 0) v)
  unfolding row_mask
  row_mask_voxel =
      mask_top 0 (λ i. le_z (pos 0) (with_steps v step 0 i))
      ∙ omega (arith, mask_none (λ i. le_z (pos 0) (with_steps v step 0 i)), ap (λ z. count (le_z (pos 0) z)) (with_steps_none 0))

-- only the steps below n count
pub row_mask_cong : (v : ℤ) (f g : ℕ → ℤ) (n : ℕ) → ((j : ℕ) → j < n → f j ≡ g j) → row_mask v f n ≡ row_mask v g n
unfolding row_mask with_steps
row_mask_cong v f g n h =
    mask_cong (2 ^ n) _ _ (λ i l. ap (λ z. le_z (pos 0) (v +ℤ z)) (total_cong n _ _ (λ j m. ap (λ s. pos (digit_of i j) *ℤ s) (h j m))))

-- ---- a sum of whole numbers of which one changes

pub total_one : (d a : ℕ) (f g : ℕ → ℤ) (k : ℤ) → a < d → ((i : ℕ) → i < d → (a ≡ i → ⊥) → g i ≡ f i) → g a ≡ f a +ℤ k → total d g ≡ total d f +ℤ k
unfolding total
total_one zero a f g k l same e = absurd (omega arith)
total_one (suc d) a f g k l same e = go (ℕ_discrete a d) (λ h. total_one d a f g k h (λ i m. same i (omega arith)) e)
  where
    last : (t x k : ℤ) → t +ℤ (x +ℤ k) ≡ t +ℤ x +ℤ k
    last t x k = eq_by (ι t ⊕ (ι x ⊕ ι k)) (ι t ⊕ ι x ⊕ ι k) (omega arith)

    before : (t k x : ℤ) → t +ℤ k +ℤ x ≡ t +ℤ x +ℤ k
    before t k x = eq_by (ι t ⊕ ι k ⊕ ι x) (ι t ⊕ ι x ⊕ ι k) (omega arith)

    go : Dec (a ≡ d) → (a < d → total d g ≡ total d f +ℤ k) → total d g +ℤ g d ≡ total d f +ℤ f d +ℤ k
    go (yes q) ih =
        ap₂ ◌+ℤ◌ (total_cong d g f (λ i m. same i (omega arith) (λ r. omega arith))) (ap g (sym q) ∙ e ∙ ap (λ i. f i +ℤ k) q) ∙ last (total d f) (f d) k
    go (no q) ih = ap₂ ◌+ℤ◌ (ih (omega arith)) (same d (omega arith) q) ∙ before (total d f) k (f d)

-- ---- rows

module _ (h : Halfspace) where
  -- a voxel moved along one axis
  centre_moved : (u : Universe) (v w : List ℕ) (a s : ℕ) → a < u.axes → ((i : ℕ) → i < u.axes → (a ≡ i → ⊥) → place_along w i ≡ place_along v i) →
      place_along w a ≡ place_along v a + s → centre_value u h w ≡ centre_value u h v +ℤ pos 2 *ℤ h.coefficient a *ℤ pos s
  unfolding centre_value
  centre_moved u v w a s l same e =
      ap (λ x. pos 2 *ℤ h.offset +ℤ x)
      (total_one u.axes a (λ i. h.coefficient i *ℤ pos (2 * place_along v i + 1)) (λ i. h.coefficient i *ℤ pos (2 * place_along w i + 1))
      (pos 2 *ℤ h.coefficient a *ℤ pos s) l
      (λ i m k. ap (λ x. h.coefficient i *ℤ pos (2 * x + 1)) (same i m k))
      (ap (λ x. h.coefficient a *ℤ pos (2 * x + 1)) e ∙ further (h.coefficient a) (place_along v a)))
      ∙ around (pos 2 *ℤ h.offset) (total u.axes (λ i. h.coefficient i *ℤ pos (2 * place_along v i + 1))) (pos 2 *ℤ h.coefficient a *ℤ pos s)
    where
      further : (c : ℤ) (x : ℕ) → c *ℤ pos (2 * (x + s) + 1) ≡ c *ℤ pos (2 * x + 1) +ℤ pos 2 *ℤ c *ℤ pos s
      further c x = eq_by (ι c ⊗ ν (2 * (x + s) + 1)) (ι c ⊗ ν (2 * x + 1) ⊕ ν 2 ⊗ ι c ⊗ ν s) (omega arith)

      around : (o t k : ℤ) → o +ℤ (t +ℤ k) ≡ o +ℤ t +ℤ k
      around o t k = eq_by (ι o ⊕ (ι t ⊕ ι k)) (ι o ⊕ ι t ⊕ ι k) (omega arith)

  -- the value at the first voxel of a half
  pub half_value : {n : ℕ} {b : Block} → Left (suc n) b → (t : Bool) →
      centre_value b.universe h (half_of t b).low ≡ centre_value b.universe h b.low +ℤ pos (count t) *ℤ row_step b.universe h n
  half_value {n} {b} l false = none (centre_value b.universe h b.low) (row_step b.universe h n)
    where
      none : (x s : ℤ) → x ≡ x +ℤ pos 0 *ℤ s
      none x s = eq_by (ι x) (ι x ⊕ ν 0 ⊗ ι s) (omega arith)
  half_value {n} {b} l true =
      centre_moved b.universe b.low (high b).low (axis_of b) (half_length b) (axis_inside l) (λ i m k. high_kept b i k) (high_here b (axis_long l))
      ∙ ap₂ (λ a s. centre_value b.universe h b.low +ℤ pos 2 *ℤ h.coefficient a *ℤ pos s) (sym (axis_is l)) (sym (side_is l))
      ∙ once (centre_value b.universe h b.low) (row_step b.universe h n)
    where
      once : (x s : ℤ) → x +ℤ s ≡ x +ℤ pos 1 *ℤ s
      once x s = eq_by (ι x ⊕ ι s) (ι x ⊕ ν 1 ⊗ ι s) (omega arith)

  -- THEOREM: twice a row's value at the centre of voxel number i is that at the block's first voxel and a step for each digit of i that is 1
  pub centre_steps : (n : ℕ) (b : Block) (i : ℕ) → Left n b →
      centre_value b.universe h (voxel_at n b i) ≡ with_steps (centre_value b.universe h b.low) (row_step b.universe h) n i
  unfolding part_at with_steps total
  centre_steps zero b i l = sym (+ℤ_idr (centre_value b.universe h b.low))
  centre_steps (suc n) b i l = go (has_digit i n) (digit_count i n) (centre_steps n (half_of (has_digit i n) b) i (left_half (has_digit i n) l))
    where
      around : (v s t : ℤ) → (v +ℤ s) +ℤ t ≡ v +ℤ (t +ℤ s)
      around v s t = eq_by ((ι v ⊕ ι s) ⊕ ι t) (ι v ⊕ (ι t ⊕ ι s)) (omega arith)

      steps : ℤ
      steps = total n (λ j. pos (digit_of i j) *ℤ row_step b.universe h j)

      join : (t : Bool) → count t ≡ digit_of i n →
          centre_value b.universe h (half_of t b).low +ℤ steps
          ≡ centre_value b.universe h b.low +ℤ (steps +ℤ pos (digit_of i n) *ℤ row_step b.universe h n)
      join t e =
          ap (λ x. x +ℤ steps) (half_value l t ∙ ap (λ d. centre_value b.universe h b.low +ℤ pos d *ℤ row_step b.universe h n) e)
          ∙ around (centre_value b.universe h b.low) (pos (digit_of i n) *ℤ row_step b.universe h n) steps

      go : (t : Bool) → count t ≡ digit_of i n →
          centre_value (half_of t b).universe h (voxel_at n (half_of t b) i)
          ≡ centre_value (half_of t b).universe h (half_of t b).low +ℤ total n (λ j. pos (digit_of i j) *ℤ row_step (half_of t b).universe h j) →
          centre_value b.universe h (voxel_at n (half_of t b) i)
          ≡ centre_value b.universe h b.low +ℤ (steps +ℤ pos (digit_of i n) *ℤ row_step b.universe h n)
      go true e ih = ih ∙ join true e
      go false e ih = ih ∙ join false e

is_black_lem : (t : Bool) → is_black (cond t Black White) ≡ t
is_black_lem true = refl
is_black_lem false = refl

-- THEOREM: so is the mask of the voxels at which the value and some number more is 0 or more, as it is with the reach of a value over its voxel
pub moved_mask : (h : Halfspace) (more : ℤ) (n : ℕ) (b : Block) → Left n b →
    mask_of (2 ^ n) (λ i. le_z (pos 0) (centre_value b.universe h (voxel_at n b i) +ℤ more))
    ≡ row_mask (centre_value b.universe h b.low +ℤ more) (row_step b.universe h) n
unfolding row_mask with_steps
moved_mask h more n b l =
    mask_cong (2 ^ n) _ _
    (λ i m. ap (le_z (pos 0)) (ap (λ z. z +ℤ more) (centre_steps h n b i l)
    ∙ around (centre_value b.universe h b.low) (total n (λ j. pos (digit_of i j) *ℤ row_step b.universe h j))))
  where
    around : (v t : ℤ) → (v +ℤ t) +ℤ more ≡ (v +ℤ more) +ℤ t
    around v t = eq_by ((ι v ⊕ ι t) ⊕ ι more) ((ι v ⊕ ι more) ⊕ ι t) (omega arith)

-- THEOREM: the mask of a halfspace over a block, from its value at the first voxel and a step for each digit
pub halfspace_mask : (h : Halfspace) (n : ℕ) (b : Block) → Left n b →
    block_mask (colour_at_centre b.universe h) n b ≡ row_mask (centre_value b.universe h b.low) (row_step b.universe h) n
unfolding block_mask row_mask colour_at_centre
halfspace_mask h n b l =
    mask_cong (2 ^ n) _ _ (λ i m. is_black_lem (le_z (pos 0) (centre_value b.universe h (voxel_at n b i))) ∙ ap (le_z (pos 0)) (centre_steps h n b i l))

-- ---- balls

-- THEOREM: the mask of a ball over a block: along each place axis the square depends on that axis's digits alone
pub ball_mask_lem : (ball : Ball) (n : ℕ) (b : Block) → Left n b → block_mask (ball_colour b.universe ball) n b ≡ ball_mask ball n b
unfolding block_mask ball_mask ball_colour distance_at
ball_mask_lem ball n b l =
    mask_cong (2 ^ n) _ _
    (λ i m. is_black_lem (le_z (total (place_axes b.universe) (λ a. square_at_lem a (place_along (voxel_at n b i) a))) (pos (4 * radius_squared ball)))
    ∙ ap (λ z. le_z z (pos (4 * radius_squared ball)))
    (total_cong (place_axes b.universe) (λ a. square_at_lem a (place_along (voxel_at n b i) a))
    (λ a. square_at_lem a (low_along b a + steps_along b.universe a n i)) (λ a h. ap (square_at_lem a) (place_steps n b i l a))))
  where
    square_at_lem : ℕ → ℕ → ℤ
    square_at_lem a x = off 2 (2 * x + 1) (ball.centre a) *ℤ off 2 (2 * x + 1) (ball.centre a)

-- of one voxel it is the test of the distance there
pub ball_voxel : (ball : Ball) (b : Block) →
    block_mask (ball_colour b.universe ball) 0 b ≡ count (le_z (first_distance ball b) (pos (4 * radius_squared ball)))
unfolding ball_colour
ball_voxel ball b =
    mask_voxel (ball_colour b.universe ball) b ∙ ap count (is_black_lem (le_z (first_distance ball b) (pos (4 * radius_squared ball))))

-- THEOREM: at the first voxel of the high half it is more by 4·s·(o + s), o being how far the block's first voxel is off along the axis and s the half's
-- length, where that is a place axis; and the same where it is the frame axis
module _ (ball : Ball) {n : ℕ} {b : Block} (l : Left (suc n) b) where
  pub distance_high : axis_of b < place_axes b.universe →
      first_distance ball (high b) ≡ first_distance ball b +ℤ pos (4 * half_length b) *ℤ (off_first ball b (axis_of b) +ℤ pos (half_length b))
  unfolding distance_at
  distance_high h =
      total_one (place_axes b.universe) (axis_of b) (square_along b.low) (square_along (high b).low) _ h
      (λ i m k. ap (λ x. square_of i x) (high_kept b i k))
      (ap (square_of (axis_of b)) (high_here b (axis_long l))
      ∙ ap₂ ◌*ℤ◌ (further (ball.centre (axis_of b)) (low_along b (axis_of b))) (further (ball.centre (axis_of b)) (low_along b (axis_of b)))
      ∙ square (off_first ball b (axis_of b)))
    where
      s : ℕ
      s = half_length b

      square_of : ℕ → ℕ → ℤ
      square_of i x = off 2 (2 * x + 1) (ball.centre i) *ℤ off 2 (2 * x + 1) (ball.centre i)

      square_along : List ℕ → ℕ → ℤ
      square_along v i = square_of i (place_along v i)

      further : (c : ℤ) (x : ℕ) → off 2 (2 * (x + s) + 1) c ≡ off 2 (2 * x + 1) c +ℤ pos (2 * s)
      further c x = eq_by (ν (2 * (x + s) + 1) ⊖ ν 2 ⊗ ι c) (ν (2 * x + 1) ⊖ ν 2 ⊗ ι c ⊕ ν (2 * s)) (omega arith)

      square : (o : ℤ) → (o +ℤ pos (2 * s)) *ℤ (o +ℤ pos (2 * s)) ≡ o *ℤ o +ℤ pos (4 * s) *ℤ (o +ℤ pos s)
      square o = eq_by ((ι o ⊕ ν (2 * s)) ⊗ (ι o ⊕ ν (2 * s))) (ι o ⊗ ι o ⊕ ν (4 * s) ⊗ (ι o ⊕ ν s)) (omega arith)

  pub distance_kept : place_axes b.universe ≤ axis_of b → first_distance ball (high b) ≡ first_distance ball b
  unfolding distance_at
  distance_kept h =
      total_cong (place_axes b.universe) _ _
      (λ i m. ap (λ x. off 2 (2 * x + 1) (ball.centre i) *ℤ off 2 (2 * x + 1) (ball.centre i)) (high_kept b i (λ e. omega arith)))
