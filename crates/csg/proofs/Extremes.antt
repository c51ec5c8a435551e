-- Least and greatest over the halves of a block, from those over the block. A halving moves one end along one axis by half the block's length, so
-- that each half keeps one of the two extremes and has the other moved by the coefficient's share of it: which of the two, the sign tells.
use Prim.Native.Nat.{ℕ, ◌+◌, ◌*◌, ◌<◌}
use mathlib.Core.Path.{◌≡◌, refl, sym, ap, subst}
use mathlib.Core.Bool.{Bool, true, false, cond}
use native.Mathlib.Omega.{arith}
use native.Mathlib.Decide.{ℕ_discrete}
use lib.IntN.{ℤ, pos, ◌+ℤ◌, ◌-ℤ◌, ◌*ℤ◌}
use lib.Signed.{le_z}
use lib.ListN.{length}
use Rattle.lemmas.specs.Sums.{sum}
use Rattle.lemmas.proofs.Sums.{sum_cong}
use Rattle.lemmas.proofs.Whole.{up, dn, one_part, le_z_true, le_z_false, Is, is_eq, is_nat, is_self, is_add, is_sub, is_mul, le_is, lt_is}
use Rattle.lemmas.proofs.Totals.{weighted_moved}
use Rattle.universe.specs.declared.Block.{Block}
use Rattle.universe.specs.Universe.{levels}
use Rattle.universe.specs.Block.{low_along, length_along, axis_of, low, high}
use Rattle.universe.proofs.Universes.{some_axes, axis_below, side_halved, side_kept}
use Rattle.universe.proofs.Blocks.{half_length, high_here, high_kept}
use Rattle.csg.specs.Halfspace.{Halfspace, lesser, greater, least, greatest}
use Rattle.csg.proofs.Halfspace.{axes_of, end_along, added, taken, rise, fall, least_is, greatest_is}

-- the part of a number above 0, and the part below
pub above_is : (a : ℤ) → Is (greater (pos 0) a) (up a) 0
above_is a = by (le_z (pos 0) a) refl
  where
    by : (t : Bool) → le_z (pos 0) a ≡ t → Is (cond t a (pos 0)) (up a) 0
    by true t =
        let most = le_is (is_nat 0) (is_self a) (le_z_true _ _ t) in
        one_part a (Is a (up a) 0) (λ z. record { is = omega (arith, z) }) (λ z. record { is = omega (arith, most, z) })
    by false t =
        let less = lt_is (is_self a) (is_nat 0) (le_z_false _ _ t) in
        one_part a (Is (pos 0) (up a) 0) (λ z. absurd (omega (arith, less, z))) (λ z. record { is = omega (arith, (is_nat 0).is, z) })

pub below_is : (a : ℤ) → Is (lesser (pos 0) a) 0 (dn a)
below_is a = by (le_z (pos 0) a) refl
  where
    by : (t : Bool) → le_z (pos 0) a ≡ t → Is (cond t (pos 0) a) 0 (dn a)
    by true t =
        let most = le_is (is_nat 0) (is_self a) (le_z_true _ _ t) in
        one_part a (Is (pos 0) 0 (dn a)) (λ z. record { is = omega (arith, (is_nat 0).is, z) }) (λ z. record { is = omega (arith, (is_nat 0).is, most, z) })
    by false t =
        let less = lt_is (is_self a) (is_nat 0) (le_z_false _ _ t) in
        one_part a (Is a 0 (dn a)) (λ z. absurd (omega (arith, less, z))) (λ z. record { is = omega (arith, z) })

-- what half a block's length along the axis of its halving adds to a halfspace's value where the coefficient is 0 or more, and where it is less
abbrev pub rise_over : Halfspace → Block → ℤ
rise_over h b = greater (pos 0) (h.coefficient (axis_of b)) *ℤ pos (half_length b)

abbrev pub fall_over : Halfspace → Block → ℤ
fall_over h b = lesser (pos 0) (h.coefficient (axis_of b)) *ℤ pos (half_length b)

module _ (h : Halfspace) (b : Block) (l : b.level < levels b.universe) where
  abbrev axis : ℕ
  axis = axis_of b

  within : axis < axes_of b
  within = axis_below b.universe (some_axes b.universe b.level l) b.level

  halved : length_along b axis ≡ 2 * half_length b
  halved = side_halved b.universe (some_axes b.universe b.level l) b.level l

  rise_is : Is (rise_over h b) (added h axis * half_length b) 0
  rise_is = record { is = omega (arith, (is_mul (above_is (h.coefficient axis)) (half_length b)).is) }

  fall_is : Is (fall_over h b) 0 (taken h axis * half_length b)
  fall_is = record { is = omega (arith, (is_mul (below_is (h.coefficient axis)) (half_length b)).is) }

  -- the low half begins where the block does, and ends half its length earlier
  low_ends : (u : ℕ → ℕ) →
      sum (axes_of b) (λ i. u i * end_along b i) ≡ sum (axes_of b) (λ i. u i * end_along (low b) i) + u axis * half_length b
  low_ends u =
      weighted_moved (axes_of b) u (end_along (low b)) (end_along b) axis (half_length b) within
      (λ i m n. ap (λ (t : ℕ). low_along b i + t) (sym (side_kept b.universe b.level i n)))
      (omega (arith, halved))

  pub least_low : least h (low b) ≡ least h b -ℤ fall_over h b
  unfolding rise fall
  least_low = is_eq (least_is h (low b)) (is_sub (least_is h b) fall_is) (omega (arith, low_ends (taken h)))

  pub greatest_low : greatest h (low b) ≡ greatest h b -ℤ rise_over h b
  unfolding rise fall
  greatest_low = is_eq (greatest_is h (low b)) (is_sub (greatest_is h b) rise_is) (omega (arith, low_ends (added h)))

  module _ (wide : axis < length b.low) where
    -- the high half begins half the block's length later, and ends where the block does
    high_begins : (u : ℕ → ℕ) →
        sum (axes_of b) (λ i. u i * low_along (high b) i) ≡ sum (axes_of b) (λ i. u i * low_along b i) + u axis * half_length b
    high_begins u =
        weighted_moved (axes_of b) u (low_along b) (low_along (high b)) axis (half_length b) within (λ i m n. high_kept b i n) (high_here b wide)

    high_ends : (i : ℕ) → i < axes_of b → end_along (high b) i ≡ end_along b i
    high_ends i m = by (ℕ_discrete axis i)
      where
        by : Dec (axis ≡ i) → end_along (high b) i ≡ end_along b i
        by (yes e) = subst (λ (j : ℕ). end_along (high b) j ≡ end_along b j) e (omega (arith, high_here b wide, halved))
        by (no n) = omega (arith, high_kept b i n, side_kept b.universe b.level i n)

    high_ends_sum : (u : ℕ → ℕ) → sum (axes_of b) (λ i. u i * end_along (high b) i) ≡ sum (axes_of b) (λ i. u i * end_along b i)
    high_ends_sum u = sum_cong (axes_of b) _ _ (λ i m. ap (λ (t : ℕ). u i * t) (high_ends i m))

    pub least_high : least h (high b) ≡ least h b +ℤ rise_over h b
    unfolding rise fall
    least_high =
        is_eq (least_is h (high b)) (is_add (least_is h b) rise_is) (omega (arith, high_begins (added h), high_ends_sum (taken h)))

    pub greatest_high : greatest h (high b) ≡ greatest h b +ℤ fall_over h b
    unfolding rise fall
    greatest_high =
        is_eq (greatest_is h (high b)) (is_add (greatest_is h b) fall_is) (omega (arith, high_begins (taken h), high_ends_sum (added h)))
