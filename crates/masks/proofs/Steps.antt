-- Each digit adds its step. The high half of a block begins one step further along the halving's axis and nowhere else; so by induction over the halvings
-- the place of a voxel along an axis is the block's and the steps of the digits that are 1. Together they stay within the block's length.
use mathlib.Core.Path.{◌≡◌, sym, ap, ap₂, ◌∙◌, subst}
use mathlib.Core.Bool.{Bool, true, false}
use Prim.Native.Nat.{ℕ, zero, suc, ◌+◌, ◌-◌, ◌*◌, ◌^◌, ◌≤◌, ◌<◌}
use native.Mathlib.Omega.{arith}
use native.Mathlib.Nat.{mul-le-mul, le_refl}
use native.Mathlib.Decide.{ℕ_discrete}
use lib.ListN.{length, get_or}
use borrow.Author.Tests.{eq-eqb, ne_eqb}
use Rattle.lemmas.specs.Sums.{sum}
use Rattle.lemmas.specs.Grid.{count}
use Rattle.lemmas.proofs.Sums.{sum_cong}
use Rattle.universe.specs.declared.Universe.{Universe}
use Rattle.universe.specs.declared.Block.{Block}
use Rattle.universe.specs.Universe.{levels, axis_at, block_side}
use Rattle.universe.specs.Questions.{axes_left}
use Rattle.universe.specs.Block.{low_along, axis_of, high}
use Rattle.universe.specs.Voxel.{place_along}
use Rattle.universe.proofs.Universes.{is_accepted, side_positive, side_halved, side_kept}
use Rattle.universe.proofs.Blocks.{given_placed, given_length, half_length, high_here, high_kept, axis_few}
use Rattle.universe.proofs.Questions.{axes_left_at}
use Rattle.masks.specs.Mask.{digit_of, has_digit}
use Rattle.masks.specs.Block.{half_of, part_at, voxel_at}
use Rattle.masks.specs.Steps.{axis_left, side_left, step_along, steps_along}
use Rattle.masks.proofs.Digits.{digit_kept, digit_low, digit_high, digit_few, digit_count}
use Rattle.masks.proofs.Block.{Left, left_above, left_half, half_universe}

-- ---- the halving of a block with n + 1 levels left

module _ {n : ℕ} {b : Block} (l : Left (suc n) b) where
  -- its axis and the length of its halves, by the levels left
  level_is : levels b.universe - suc n ≡ b.level
  level_is = omega (arith, l.left)

  next_is : levels b.universe - n ≡ suc b.level
  next_is = omega (arith, l.left)

  pub axis_is : axis_left b.universe n ≡ axis_of b
  axis_is = ap (axis_at b.universe) level_is

  pub side_is : side_left b.universe n ≡ half_length b
  side_is = ap₂ (block_side b.universe) next_is axis_is

  -- and the table of axes has that axis
  pub axis_tabled : get_or (axes_left b.universe) n 0 ≡ axis_left b.universe n
  axis_tabled = axes_left_at b.universe (is_accepted b.universe (given_placed l.given).taken) n (omega (arith, l.left))

  pub axis_inside : axis_of b < b.universe.axes
  axis_inside = axis_few b (given_placed l.given) (left_above l)

  pub axis_long : axis_of b < length b.low
  axis_long = omega (arith, axis_inside, (given_placed l.given).taken.few_axes, given_length l.given)

  -- where the half begins along an axis
  pub half_place : (t : Bool) (a : ℕ) → low_along (half_of t b) a ≡ low_along b a + count t * step_along b.universe a n
  half_place false a = omega arith
  half_place true a = go (ℕ_discrete (axis_of b) a)
    where
      go : Dec (axis_of b ≡ a) → low_along (high b) a ≡ low_along b a + 1 * step_along b.universe a n
      go (yes e) = rw (axis_is, next_is, eq-eqb (axis_of b) a e, ← e) (high_here b axis_long ∙ omega arith)
      go (no k) = rw (axis_is, ne_eqb (axis_of b) a k) (high_kept b a k ∙ omega arith)

-- THEOREM: the place of voxel number i along an axis is the block's and a step for each digit of i that is 1
pub place_steps : (n : ℕ) (b : Block) (i : ℕ) → Left n b → (a : ℕ) → place_along (voxel_at n b i) a ≡ low_along b a + steps_along b.universe a n i
unfolding part_at steps_along sum
place_steps zero b i l a = omega arith
place_steps (suc n) b i l a =
    let t = has_digit i n in
    omega (
      arith,
      place_steps n (half_of t b) i (left_half t l) a,
      half_place l t a,
      ap (λ u. sum n (λ j. digit_of i j * step_along u a j)) (half_universe t b),
      ap (λ x. x * step_along b.universe a n) (digit_count i n),
    )

-- ---- what the digits below n add along an axis

module _ (u : Universe) (a : ℕ) where
  pub steps_low : (n i : ℕ) → i < 2 ^ n → steps_along u a (suc n) i ≡ steps_along u a n i
  unfolding steps_along sum
  steps_low n i l = omega (arith, ap (λ (d : ℕ). d * step_along u a n) (digit_low n i l))

  pub steps_high : (n i : ℕ) → i < 2 ^ n → steps_along u a (suc n) (2 ^ n + i) ≡ steps_along u a n i + step_along u a n
  unfolding steps_along sum
  steps_high n i l =
      omega (
        arith,
        sum_cong n (λ j. digit_of (2 ^ n + i) j * step_along u a j) (λ j. digit_of i j * step_along u a j)
            (λ j h. ap (λ (d : ℕ). d * step_along u a j) (digit_kept n j i h)),
        ap (λ (d : ℕ). d * step_along u a n) (digit_high n i l),
      )

  pub step_across : (n : ℕ) → axis_left u n ≡ a → step_along u a n ≡ block_side u (levels u - n) a
  step_across n e = rw (eq-eqb (axis_left u n) a e) (ap (block_side u (levels u - n)) e)

  pub step_none : (n : ℕ) → (axis_left u n ≡ a → ⊥) → step_along u a n ≡ 0
  step_none n k = rw (ne_eqb (axis_left u n) a k)

  -- THEOREM: they stay within the block
  pub steps_few : 0 < u.axes → (n i : ℕ) → n ≤ levels u → steps_along u a n i < block_side u (levels u - n) a
  unfolding steps_along sum
  steps_few some zero i h = omega (arith, side_positive u (levels u - 0) a)
  steps_few some (suc n) i h = go (ℕ_discrete (axis_left u n) a) (steps_few some n i (omega arith))
    where
      next : suc (levels u - suc n) ≡ levels u - n
      next = omega arith

      go : Dec (axis_left u n ≡ a) → sum n (λ j. digit_of i j * step_along u a j) < block_side u (levels u - n) a →
          sum n (λ j. digit_of i j * step_along u a j) + digit_of i n * step_along u a n < block_side u (levels u - suc n) a
      go (yes e) ih =
          let s = side_halved u some (levels u - suc n) (omega arith) ∙ ap (λ (m : ℕ). 2 * block_side u m (axis_left u n)) next in
          let t : block_side u (levels u - suc n) a ≡ 2 * block_side u (levels u - n) a =
          subst (λ (c : ℕ). block_side u (levels u - suc n) c ≡ 2 * block_side u (levels u - n) c) e s in
          let few : digit_of i n ≤ 1 = omega (arith, digit_few i n) in
          omega (arith, step_across n e, mul-le-mul few (le_refl (step_along u a n)))
      go (no k) ih =
          let s : block_side u (levels u - n) a ≡ block_side u (levels u - suc n) a =
          ap (λ (m : ℕ). block_side u m a) (sym next) ∙ side_kept u (levels u - suc n) a k in
          omega (arith, ap (λ (x : ℕ). digit_of i n * x) (step_none n k))
