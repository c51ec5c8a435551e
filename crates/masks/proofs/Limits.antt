-- How large values, steps and distances are: a row within its limits has no larger value at a voxel than its numbers times the longest side allow. The
-- sums on the way from a block's first voxel to another are values at voxels too (`half_value` of Leaves), so they are no larger.
use mathlib.Core.Path.{◌≡◌, ap}
use mathlib.Core.Bool.{Bool, true, false, cond}
use mathlib.Core.List.{List}
use Prim.Native.Nat.{ℕ, zero, suc, ◌+◌, ◌*◌, ◌≤◌, ◌<◌}
use native.Mathlib.Omega.{arith}
use native.Mathlib.Nat.{mul-le-mul, le_refl, le_trans}
use lib.Dec.{ltb, leb}
use lib.Pow.{pow_mono}
use lib.IntN.{ℤ, pos, neg_ℤ, nat_abs, ◌+ℤ◌, ◌*ℤ◌}
use borrow.Author.Tests.{leb-true, lt-ltb}
use Rattle.lemmas.specs.Sums.{sum, total, every}
use Rattle.lemmas.proofs.Sums.{below, top, and_left, and_right, every_all}
use Rattle.lemmas.proofs.Machine.{size_mul, size_add, size_neg}
use Rattle.universe.specs.declared.Universe.{Universe}
use Rattle.universe.specs.Universe.{most_axes, centre_limit, longest_side, offset_limit, coefficient_limit, bits_along, block_side}
use Rattle.universe.specs.Voxel.{place_along, voxel_refusal}
use Rattle.universe.proofs.Universes.{Accepted, axis_below, side_few}
use Rattle.universe.proofs.Voxel.{voxel_taken}
use Rattle.csg.specs.Halfspace.{Halfspace, within_limits, centre_value}
use Rattle.csg.specs.Ball.{Ball, place_axes, most_places, centre_limit_along, radius_within, ball_within, off, distance_at}
use Rattle.masks.specs.Steps.{axis_left, side_left}
use Rattle.masks.specs.Leaves.{row_step, value_limit, step_limit, off_limit, distance_limit}
use Rattle.masks.specs.Own.{reach, reached}

total_few : (n : ℕ) (f : ℕ → ℤ) (most : ℕ) → ((i : ℕ) → i < n → nat_abs (f i) ≤ most) → nat_abs (total n f) ≤ n * most
unfolding total
total_few zero f most h = omega arith
total_few (suc n) f most h = omega (arith, size_add (total n f) (f n), total_few n f most (below h), top h)

total_within : (n most-terms : ℕ) (f : ℕ → ℤ) (most : ℕ) → n ≤ most-terms → ((i : ℕ) → i < n → nat_abs (f i) ≤ most) → nat_abs (total n f) ≤ most-terms * most
total_within n most-terms f most l h = le_trans (total_few n f most h) (mul-le-mul l (le_refl most))

-- a total whose terms have room for something more
total_more : (n : ℕ) (f : ℕ → ℤ) (g : ℕ → ℕ) (most : ℕ) → ((i : ℕ) → i < n → nat_abs (f i) + g i ≤ most) → nat_abs (total n f) + sum n g ≤ n * most
unfolding total sum
total_more zero f g most h = omega arith
total_more (suc n) f g most h = omega (arith, size_add (total n f) (f n), total_more n f g most (below h), top h)

module _ (u : Universe) (accept : Accepted u) (h : Halfspace) (within : within_limits u h ≡ true) where
  offset_few : nat_abs h.offset ≤ offset_limit
  unfolding within_limits
  offset_few = leb-true _ _ (and_left (leb (nat_abs h.offset) offset_limit) (every most_axes _) within)

  coefficient_few : (i : ℕ) → i < u.axes → nat_abs (h.coefficient i) ≤ coefficient_limit
  unfolding within_limits
  coefficient_few i l =
      let test : ℕ → Bool = λ i. leb (nat_abs (h.coefficient i)) (cond (ltb i u.axes) coefficient_limit 0) in
      let all = every_all most_axes test (and_right (leb (nat_abs h.offset) offset_limit) (every most_axes test) within) i (omega (arith, accept.few_axes)) in
      leb-true _ _ (rw (lt-ltb i u.axes l) at all)

  -- THEOREM: twice the value at the centre of a voxel keeps its limit
  pub value_few : (v : List ℕ) → voxel_refusal u v ≡ 0 → nat_abs (centre_value u h v) ≤ value_limit
  unfolding centre_value
  value_few v e =
      let terms : ℕ → ℤ = λ i. h.coefficient i *ℤ pos (2 * place_along v i + 1) in
      let each = coefficient_limit * (2 * longest_side) in
      omega (
        arith,
        size_add (pos 2 *ℤ h.offset) (total u.axes terms),
        size_mul (pos 2) h.offset,
        offset_few,
        total_within u.axes most_axes terms each accept.few_axes one,
      )
    where
      one : (i : ℕ) → i < u.axes → nat_abs (h.coefficient i *ℤ pos (2 * place_along v i + 1)) ≤ coefficient_limit * (2 * longest_side)
      one i l =
          let place : 2 * place_along v i + 1 ≤ 2 * longest_side = omega (arith, (voxel_taken u v accept e).inside i l, side_few u accept i) in
          omega (arith, size_mul (h.coefficient i) (pos (2 * place_along v i + 1)), mul-le-mul (coefficient_few i l) place)

  -- and so does twice its least value over the voxel, or its greatest
  pub reached_few : (possible : Bool) (v : List ℕ) → voxel_refusal u v ≡ 0 → nat_abs (centre_value u h v +ℤ reached possible (reach u.axes h)) ≤ value_limit
  unfolding centre_value reach
  reached_few possible v e =
      let terms : ℕ → ℤ = λ i. h.coefficient i *ℤ pos (2 * place_along v i + 1) in
      let sizes : ℕ → ℕ = λ i. nat_abs (h.coefficient i) in
      let each = coefficient_limit * (2 * longest_side) in
      omega (
        arith,
        size_add (centre_value u h v) (reached possible (reach u.axes h)),
        size_add (pos 2 *ℤ h.offset) (total u.axes terms),
        size_mul (pos 2) h.offset,
        offset_few,
        size possible (reach u.axes h),
        total_more u.axes terms sizes each one,
        mul-le-mul accept.few_axes (le_refl each),
      )
    where
      size : (possible : Bool) (n : ℕ) → nat_abs (reached possible n) ≤ n
      size true n = omega arith
      size false n = omega (arith, size_neg (pos n))

      one : (i : ℕ) → i < u.axes → nat_abs (h.coefficient i *ℤ pos (2 * place_along v i + 1)) + nat_abs (h.coefficient i) ≤ coefficient_limit * (2 * longest_side)
      one i l =
          let place : 2 * place_along v i + 2 ≤ 2 * longest_side = omega (arith, (voxel_taken u v accept e).inside i l, side_few u accept i) in
          omega (arith, size_mul (h.coefficient i) (pos (2 * place_along v i + 1)), mul-le-mul (coefficient_few i l) place)

  -- THEOREM: and so does each step
  pub step_few : (j : ℕ) → nat_abs (row_step u h j) ≤ step_limit
  unfolding block_side
  step_few j =
      let axis = axis_left u j in
      let short : side_left u j ≤ longest_side = le_trans (pow_mono {j = bits_along u axis} (omega arith)) (side_few u accept axis) in
      let twice : 2 * nat_abs (h.coefficient axis) ≤ 2 * coefficient_limit = omega (arith, coefficient_few axis (axis_below u accept.some_axes _)) in
      omega (
        arith,
        size_mul (pos 2 *ℤ h.coefficient axis) (pos (side_left u j)),
        ap (λ x. x * side_left u j) (size_mul (pos 2) (h.coefficient axis)),
        mul-le-mul twice short,
      )

-- ---- balls

module _ (u : Universe) (accept : Accepted u) (ball : Ball) (within : ball_within u ball ≡ true) where
  centre_few : (i : ℕ) → i < place_axes u → nat_abs (ball.centre i) ≤ centre_limit
  unfolding ball_within
  centre_few i l =
      let test : ℕ → Bool = λ i. leb (nat_abs (ball.centre i)) (centre_limit_along u i) in
      let all = every_all most_places test (and_right (radius_within ball.radius) (every most_places test) within) i (omega (arith, accept.few_axes)) in
      leb-true _ _ (rw (lt-ltb i (place_axes u) l) at all)

  -- THEOREM: how far a voxel's centre is off along an axis, and the sum of the squares, keep their limits
  pub off_few : (v : List ℕ) → voxel_refusal u v ≡ 0 → (i : ℕ) → i < place_axes u → nat_abs (off 2 (2 * place_along v i + 1) (ball.centre i)) ≤ off_limit
  off_few v e i l =
      omega (
        arith,
        size_add (pos (2 * place_along v i + 1)) (neg_ℤ (pos 2 *ℤ ball.centre i)),
        size_neg (pos 2 *ℤ ball.centre i),
        size_mul (pos 2) (ball.centre i),
        centre_few i l,
        (voxel_taken u v accept e).inside i (omega arith),
        side_few u accept i,
      )

  pub distance_few : (v : List ℕ) → voxel_refusal u v ≡ 0 → nat_abs (distance_at u ball 2 (λ i. 2 * place_along v i + 1)) ≤ distance_limit
  unfolding distance_at
  distance_few v e =
      total_within (place_axes u) most_places (λ i. off 2 (2 * place_along v i + 1) (ball.centre i) *ℤ off 2 (2 * place_along v i + 1) (ball.centre i))
      (off_limit * off_limit) (omega (arith, accept.few_axes))
      (λ i l. omega (
        arith,
        size_mul (off 2 (2 * place_along v i + 1) (ball.centre i)) (off 2 (2 * place_along v i + 1) (ball.centre i)),
        mul-le-mul (off_few v e i l) (off_few v e i l),
      ))
