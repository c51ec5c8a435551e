-- A halfspace's values over the whole universe, axis by axis: by the two parts of its coefficients they are the least and the greatest over a block that begins
-- at 0 along every axis, and they stay small on the way.
use Prim.Native.Nat.{ℕ, zero, suc, ◌+◌, ◌*◌, ◌≤◌, ◌<◌}
use mathlib.Core.Path.{◌≡◌, refl, ap, ◌∙◌}
use mathlib.Core.Bool.{true}
use mathlib.Core.List.{List}
use native.Mathlib.Omega.{arith}
use native.Mathlib.Nat.{mul-le-mul}
use lib.IntN.{ℤ, nat_abs, ◌+ℤ◌}
use lib.ListN.{get_or}
use Rattle.lemmas.specs.Sums.{sum}
use Rattle.lemmas.proofs.Machine.{near, nat_abs_parts, size_add}
use Rattle.lemmas.proofs.Sums.{sum_cong}
use Rattle.lemmas.proofs.Whole.{up, dn, Is, is_self, is_add, is_eq}
use Rattle.universe.specs.declared.Block.{Block}
use Rattle.universe.specs.Universe.{most_axes, longest_side, coefficient_limit}
use Rattle.universe.specs.Block.{low_along, length_along}
use Rattle.csg.specs.Halfspace.{Halfspace, row_at, least, greatest}
use Rattle.csg.proofs.Halfspace.{axes_of, end_along, added, taken, rise, fall, least_is, greatest_is}
use Rattle.convert.specs.Small.{SmallCoefficient, SmallPlace}
use Rattle.pruned.specs.declared.leaf.Extremes.{Extremes}
use Rattle.pruned.specs.Nodes.{rises, falls, moved_least, moved_greatest, extreme_limit, SmallExtreme}
use Rattle.pruned.specs.Loading.{widened, whole_extremes, WholeReady}
use Rattle.pruned.proofs.Moving.{held, extreme_near, rise_is, fall_is}
use Rattle.pruned.proofs.Steps.{weighted_few, is_size}

extremes_eq : {a b e f : ℤ} → a ≡ b → e ≡ f → ◌≡◌ {A = Extremes} (record { least = a; greatest = e }) (record { least = b; greatest = f })
extremes_eq p q = λ i. record { least = p i; greatest = q i }

-- ---- one more axis, as the machine computes it
module _ {a : ℤ} {side : ℕ} {x y : ℤ} (sa : SmallCoefficient a) (ss : SmallPlace side) (sx : SmallExtreme x) (sy : SmallExtreme y) where
  share : (up a * side ≤ coefficient_limit * longest_side) × (dn a * side ≤ coefficient_limit * longest_side)
  share =
      let p : up a ≤ coefficient_limit = omega (arith, nat_abs_parts a, sa.most) in
      let q : dn a ≤ coefficient_limit = omega (arith, nat_abs_parts a, sa.most) in
      (mul-le-mul p ss.most, mul-le-mul q ss.most)

  fallen : nat_abs (x +ℤ falls a side) ≤ extreme_limit + coefficient_limit * longest_side
  fallen = omega (arith, size_add x (falls a side), is_size (fall_is a side), share.1, sx.most)

  risen : nat_abs (y +ℤ rises a side) ≤ extreme_limit + coefficient_limit * longest_side
  risen = omega (arith, size_add y (rises a side), is_size (rise_is a side), share.0, sy.most)

  pub widened_is : {v w : ℤ} → v ≡ moved_least true a side y → w ≡ moved_greatest true a side x →
      ◌≡◌ {A = Extremes} (record { least = held w; greatest = held v }) (widened (record { least = x; greatest = y }) a side)
  widened_is p q = extremes_eq (ap held q ∙ (near (record { most = fallen }) tt).same) (ap held p ∙ (near (record { most = risen }) tt).same)

-- ---- all axes
module _ {axes : ℕ} {rows : List ℤ} {i : ℕ} {side : List ℕ} (ready : WholeReady axes rows i side) where
  abbrev h : Halfspace
  h = row_at rows i

  abbrev at : ℕ → Extremes
  at n = whole_extremes n h side

  abbrev sides : ℕ → ℕ
  sides j = get_or side j 0

  nowhere : ℕ → ℕ
  nowhere j = 0

  least_parts : (n : ℕ) → Is (at n).least (up h.offset) (dn h.offset + fall h n sides)
  unfolding whole_extremes fall sum
  least_parts zero = record { is = omega (arith, (is_self h.offset).is) }
  least_parts (suc n) = record { is = omega (arith, (is_add (least_parts n) (fall_is (h.coefficient n) (sides n))).is) }

  greatest_parts : (n : ℕ) → Is (at n).greatest (up h.offset + rise h n sides) (dn h.offset)
  unfolding whole_extremes rise sum
  greatest_parts zero = record { is = omega (arith, (is_self h.offset).is) }
  greatest_parts (suc n) = record { is = omega (arith, (is_add (greatest_parts n) (rise_is (h.coefficient n) (sides n))).is) }

  parts_few : (n : ℕ) → n ≤ most_axes → rise h n sides + fall h n sides ≤ n * (coefficient_limit * longest_side)
  parts_few n l = weighted_few h n sides sides l ready.small (λ j m. (ready.sides.place j).most) (λ j m. (ready.sides.place j).most)

  pub whole_small : (n : ℕ) → n ≤ most_axes → SmallExtreme (at n).least × SmallExtreme (at n).greatest
  whole_small n l = (
    record { most = omega (arith, is_size (least_parts n), parts_few n l, ready.small.offset, nat_abs_parts h.offset) },
    record { most = omega (arith, is_size (greatest_parts n), parts_few n l, ready.small.offset, nat_abs_parts h.offset) },
  )

  abbrev first : Extremes
  first = record { least = held h.offset; greatest = held h.offset }

  pub starts : first ≡ at 0
  unfolding whole_extremes
  starts = let s = whole_small 0 (omega arith) in extremes_eq (extreme_near s.0).same (extreme_near s.1).same

  coefficient : (n : ℕ) → n < most_axes → held (h.coefficient n) ≡ h.coefficient n
  coefficient n l = (near (record { most = (ready.small.coefficient n l).most }) tt).same

  -- what adding axis n asks
  pub asks : {s : Extremes} (n : ℕ) → n < most_axes → s ≡ at n →
      SmallCoefficient (held (h.coefficient n)) × (SmallPlace (sides n) × (SmallExtreme s.least × SmallExtreme s.greatest))
  asks n l e = rw (e, coefficient n l) (ready.small.coefficient n l, (ready.sides.place n, whole_small n (omega arith)))

  abbrev next : ℕ → Extremes → Extremes
  next n s = widened s (held (h.coefficient n)) (sides n)

  pub goes_on : {s r : Extremes} (n : ℕ) → n < most_axes → s ≡ at n → r ≡ next n s → r ≡ at (suc n)
  unfolding whole_extremes
  goes_on n l e f = f ∙ rw (e, coefficient n l)

  -- over a block that begins at 0 and has these sides they are the least and the greatest
  module _ (b : Block) (same-axes : axes ≡ axes_of b) (begins : (j : ℕ) → j < axes_of b → low_along b j ≡ 0)
      (along : (j : ℕ) → j < axes_of b → sides j ≡ length_along b j) where
    low_none : (w : ℕ → ℕ) → sum (axes_of b) (λ j. w j * low_along b j) ≡ sum (axes_of b) (λ j. w j * nowhere j)
    unfolding nowhere
    low_none w = sum_cong (axes_of b) _ _ (λ j l. ap (λ (x : ℕ). w j * x) (begins j l))

    none : (n : ℕ) (w : ℕ → ℕ) → sum n (λ j. w j * nowhere j) ≡ 0
    unfolding sum nowhere
    none zero w = refl
    none (suc n) w = omega (arith, none n w)

    ends_are : (w : ℕ → ℕ) → sum (axes_of b) (λ j. w j * end_along b j) ≡ sum (axes_of b) (λ j. w j * sides j)
    ends_are w = sum_cong (axes_of b) _ _ (λ j l. ap (λ (x : ℕ). w j * x) (omega (arith, begins j l, along j l)))

    pub whole_values : ((at axes).least ≡ least h b) × ((at axes).greatest ≡ greatest h b)
    unfolding rise fall
    whole_values = rw same-axes (
      is_eq (least_parts (axes_of b)) (least_is h b) (omega (arith, low_none (added h), none (axes_of b) (added h), ends_are (taken h))),
      is_eq (greatest_parts (axes_of b)) (greatest_is h b) (omega (arith, low_none (taken h), none (axes_of b) (taken h), ends_are (added h))),
    )
