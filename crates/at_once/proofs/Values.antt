-- A row's least and greatest value over a block, as the machine adds them up: the value at the block's low end, and what falls and what rises from there along
-- its sides, by doublings. By the two parts of the coefficients they are those of the block's corners; an axis that the universe lacks has coefficient 0, so
-- that all four are added.
use Prim.Native.Nat.{ℕ, zero, suc, ◌+◌, ◌*◌, ◌^◌, ◌≤◌, ◌<◌}
use mathlib.Core.Path.{◌≡◌, refl, sym, ap, ap₂, ◌∙◌}
use mathlib.Core.Bool.{Bool, true, false, cond}
use mathlib.Core.List.{List}
use native.Mathlib.Omega.{arith}
use native.Mathlib.Nat.{mul-le-mul}
use native.Mathlib.Decide.{ℕ_discrete, dec_lt}
use lib.IntN.{ℤ, pos, nat_abs, ◌+ℤ◌, ◌-ℤ◌, ◌*ℤ◌}
use lib.ListN.{get_or}
use lib.Signed.{le_z}
use mir.Syntax.{w64}
use mir.Val.{SFits}
use Rattle.lemmas.specs.Sums.{sum, total}
use Rattle.lemmas.proofs.Machine.{Near, near_size, near_add, near_sub, near_back, near_call, near_fits, nat_abs_parts, size_mul}
use Rattle.lemmas.proofs.Sums.{sum_cong, sum_zero, total_cong}
use Rattle.lemmas.proofs.Totals.{total_is, weighted_add}
use Rattle.lemmas.proofs.Whole.{up, dn, Is, is_self, is_add, is_sub, is_mul, is_eq}
use Rattle.universe.specs.declared.Block.{Block}
use Rattle.universe.specs.Universe.{most_axes, longest_side, offset_limit, coefficient_limit}
use Rattle.universe.specs.Block.{low_along}
use Rattle.csg.specs.Halfspace.{Halfspace, lesser, row_at}
use Rattle.csg.proofs.Halfspace.{axes_of, end_along, added, taken, rise, fall, least_is, greatest_is}
use Rattle.convert.specs.Small.{SmallCoefficient, SmallPlace, SmallPlaces}
use Rattle.pruned.specs.Nodes.{falls}
use Rattle.pruned.proofs.Moving.{held, fall_is, rises_all, falls_all}
use Rattle.pruned.proofs.Steps.{is_size}
use Rattle.at_once.specs.Words.{RowNamed}
use Rattle.at_once.specs.Values.{along_of, fall_along, RowOver, RowFound}
use Rattle.at_once.specs.Moves.{lengths_by, low_value, SmallTimes, RowStands}
use Rattle.at_once.proofs.Powers.{length_at, times_at, small_times}
use Rattle.std.specs.Int.{int_min}
use Rattle.at_once.proofs.Falling.{min_falls}
use Rattle.at_once.proofs.RowValues.{term_limit, coefficient_near, FourSmall, total_near}

-- ---- what falls
lesser_falls : (a : ℤ) (side : ℕ) → lesser (pos 0) (a *ℤ pos side) ≡ falls a side
lesser_falls a side = by (le_z (pos 0) (a *ℤ pos side)) refl
  where
    by : (t : Bool) → le_z (pos 0) (a *ℤ pos side) ≡ t → cond t (pos 0) (a *ℤ pos side) ≡ falls a side
    by true e = sym (rises_all a side e).1
    by false e = sym (falls_all a side e).1

-- ---- along the axes
-- what an axis gives at the most
abbrev share : ℕ
share = coefficient_limit * longest_side

module _ {rows : List ℤ} {i : ℕ} (row : RowNamed rows i) {places : List ℕ} (few : SmallPlaces places) where
  abbrev line : Halfspace
  line = row_at rows i

  module _ (axis : ℕ) (l : axis < most_axes) where
    along_size : nat_abs (along_of line places axis) ≤ share
    along_size = rw (size_mul (line.coefficient axis) (pos (get_or places axis 0))) (mul-le-mul (row.small.coefficient axis l).most (few.place axis).most)

    -- a call's result
    module _ {t : ℤ} (e : t ≡ along_of line places axis) where
      along_held : Near (held t) (along_of line places axis) share
      along_held = near_call {x = along_of line places axis} e (record { same = refl; size = along_size }) tt

      pub falls_along : {f : ℤ} → f ≡ int_min (held t) (pos 0) → f ≡ fall_along line places axis
      falls_along g = g ∙ min_falls (held t) ∙ ap (lesser (pos 0)) along_held.same ∙ lesser_falls (line.coefficient axis) (get_or places axis 0)

  pub along_small : FourSmall (along_of line places)
  along_small = record { few = λ j l. omega (arith, along_size j l) }

  fall_few : (j : ℕ) → j < most_axes → nat_abs (fall_along line places j) ≤ share
  fall_few j l =
      let d : dn (line.coefficient j) ≤ coefficient_limit = omega (arith, nat_abs_parts (line.coefficient j), (row.small.coefficient j l).most) in
      omega (arith, is_size (fall_is (line.coefficient j) (get_or places j 0)), mul-le-mul d (few.place j).most)

  pub fall_small : FourSmall (fall_along line places)
  fall_small = record { few = λ j l. omega (arith, fall_few j l) }

  -- by parts
  along_parts : Is (total most_axes (along_of line places)) (rise line most_axes (λ j. get_or places j 0)) (fall line most_axes (λ j. get_or places j 0))
  unfolding rise fall
  along_parts =
      total_is most_axes (along_of line places) (λ j. added line j * get_or places j 0) (λ j. taken line j * get_or places j 0)
      (λ j l. is_mul (is_self (line.coefficient j)) (get_or places j 0))

  fall_parts : Is (total most_axes (fall_along line places)) (sum most_axes (λ j. 0)) (fall line most_axes (λ j. get_or places j 0))
  unfolding fall
  fall_parts =
      total_is most_axes (fall_along line places) (λ j. 0) (λ j. taken line j * get_or places j 0)
      (λ j l. fall_is (line.coefficient j) (get_or places j 0))

-- ---- an axis's amount by doublings
module _ {rows : List ℤ} {i : ℕ} (row : RowNamed rows i) {times : List ℕ} (small : SmallTimes times) (axis : ℕ) (l : axis < most_axes) where
  abbrev coefficient_read : ℤ
  coefficient_read = held (get_or rows (5 * i + 1 + axis) (pos 0))

  pub amount_asks : SmallCoefficient coefficient_read × ((get_or times axis 0 < 64) × SmallPlace (2 ^ get_or times axis 0))
  amount_asks = (
    record { most = (near_size (coefficient_near row axis l)).most },
    (small.few axis l, rw (length_at times axis l) at (small.short.place axis)),
  )

  pub amount_is : {t : ℤ} → t ≡ coefficient_read *ℤ pos (2 ^ get_or times axis 0) → held t ≡ along_of (row_at rows i) (lengths_by times) axis
  amount_is e =
      (along_held row small.short axis l
      (e ∙ ap₂ (λ (x : ℤ) (k : ℕ). x *ℤ pos k) (coefficient_near row axis l).same (sym (length_at times axis l)))).same

-- a sum goes on as it is where nothing is added
sum_beyond : (f : ℕ → ℕ) (n m : ℕ) → n ≤ m → ((j : ℕ) → n ≤ j → j < m → f j ≡ 0) → sum m f ≡ sum n f
unfolding sum
sum_beyond f n zero l none = let e : n ≡ 0 = omega arith in rw e
sum_beyond f n (suc m) l none = by (ℕ_discrete n (suc m)) (sum_beyond f n m)
  where
    by : Dec (n ≡ suc m) → (n ≤ m → ((j : ℕ) → n ≤ j → j < m → f j ≡ 0) → sum m f ≡ sum n f) → sum (suc m) f ≡ sum n f
    by (yes e) rec = rw e
    by (no d) rec = omega (arith, rec (omega (arith, d)) (λ j p q. none j p (omega arith)), none m (omega (arith, d)) (omega arith))

-- ---- over a block
module _ {rows : List ℤ} {i : ℕ} {low side : List ℕ} (job : RowOver rows i low side) where
  abbrev h : Halfspace
  h = row_at rows i

  abbrev b : Block
  b = job.block

  abbrev begins : ℕ → ℕ
  begins j = get_or low j 0

  abbrev sides : ℕ → ℕ
  sides j = get_or side j 0

  abbrev ends : ℕ → ℕ
  ends j = get_or low j 0 + get_or side j 0

  row_named : RowNamed rows i
  row_named = record { here = job.named; small = job.small }

  small_low : SmallPlaces low
  small_low = record { place = λ j. record { most = omega (arith, (job.places j).most) } }

  small_side : SmallPlaces side
  small_side = record { place = λ j. record { most = omega (arith, (job.places j).most) } }

  -- over the block
  nothing : (j : ℕ) → axes_of b ≤ j → j < most_axes → (added h j ≡ 0) × (taken h j ≡ 0)
  nothing j p q =
      let e = ap nat_abs (job.beyond j p q) in
      (omega (arith, nat_abs_parts (h.coefficient j), e), omega (arith, nat_abs_parts (h.coefficient j), e))

  over : (w x y : ℕ → ℕ) → ((j : ℕ) → axes_of b ≤ j → j < most_axes → w j ≡ 0) → ((j : ℕ) → j < axes_of b → x j ≡ y j) →
      sum most_axes (λ j. w j * x j) ≡ sum (axes_of b) (λ j. w j * y j)
  over w x y none same =
      sum_beyond (λ j. w j * x j) (axes_of b) most_axes job.few_axes (λ j p q. rw (none j p q) (omega arith))
      ∙ sum_cong (axes_of b) _ _ (λ j l. ap (λ (k : ℕ). w j * k) (same j l))

  ends_are : (j : ℕ) → j < axes_of b → ends j ≡ end_along b j
  ends_are j l = omega (arith, job.begins j l, job.along j l)

  -- the value at the low end, and what calls handed over: what the axes give along the sides, and what falls of that
  module _ {v q f : ℤ} (e : v ≡ low_value h low) (g : q ≡ total most_axes (along_of h side)) (k : f ≡ total most_axes (fall_along h side)) where
    abbrev at_low : ℤ
    at_low = low_value h low

    abbrev all : ℤ
    all = total most_axes (along_of h side)

    abbrev fallen : ℤ
    fallen = total most_axes (fall_along h side)

    low_near : Near at_low at_low (offset_limit + 4 * term_limit)
    low_near =
        near_add {x = h.offset} {y = total most_axes (along_of h low)} (record { same = refl; size = job.small.offset })
        (record { same = refl; size = (total_near (along_small row_named small_low) refl).size })

    value_held : Near (held v) at_low (offset_limit + 4 * term_limit)
    value_held = near_call {x = at_low} e low_near tt

    fallen_near : Near (held f) fallen (4 * term_limit)
    fallen_near = total_near (fall_small row_named small_side) k

    least_near : Near (held v +ℤ held f) (at_low +ℤ fallen) (offset_limit + 4 * term_limit + 4 * term_limit)
    least_near = near_add {x = at_low} {y = fallen} value_held fallen_near

    pub least_fits : SFits w64 (held v +ℤ held f)
    least_fits = near_fits {x = at_low +ℤ fallen} least_near tt

    rise_near : Near (held q -ℤ held f) (all -ℤ fallen) (4 * term_limit + 4 * term_limit)
    rise_near = near_sub {x = all} {y = fallen} (total_near (along_small row_named small_side) g) fallen_near

    pub rise_fits : SFits w64 (held q -ℤ held f)
    rise_fits = near_fits {x = all -ℤ fallen} rise_near tt

    greatest_near : Near (held v +ℤ held (held q -ℤ held f)) (at_low +ℤ (all -ℤ fallen)) (offset_limit + 4 * term_limit + (4 * term_limit + 4 * term_limit))
    greatest_near = near_add {x = at_low} {y = all -ℤ fallen} value_held (near_back {x = all -ℤ fallen} rise_near tt)

    pub greatest_fits : SFits w64 (held v +ℤ held (held q -ℤ held f))
    greatest_fits = near_fits {x = at_low +ℤ (all -ℤ fallen)} greatest_near tt

    low_is : Is at_low (up h.offset + rise h most_axes begins) (dn h.offset + fall h most_axes begins)
    low_is = is_add (is_self h.offset) (along_parts row_named small_low)

    pub found : RowFound job (held (held v +ℤ held f)) (held (held v +ℤ held (held q -ℤ held f)))
    unfolding rise fall
    found =
        record {
          least_is =
              (near_back {x = at_low +ℤ fallen} least_near tt).same
              ∙ is_eq (is_add low_is (fall_parts row_named small_side)) (least_is h b) (omega (
                arith,
                over (added h) begins (low_along b) (λ j p q. (nothing j p q).0) job.begins,
                over (taken h) ends (end_along b) (λ j p q. (nothing j p q).1) ends_are,
                weighted_add most_axes (taken h) begins sides,
                sum_zero most_axes (λ j. 0) (λ j l. refl),
              ));
          greatest_is =
              (near_back {x = at_low +ℤ (all -ℤ fallen)} greatest_near tt).same
              ∙ is_eq (is_add low_is (is_sub (along_parts row_named small_side) (fall_parts row_named small_side))) (greatest_is h b) (omega (
                arith,
                over (added h) ends (end_along b) (λ j p q. (nothing j p q).0) ends_are,
                over (taken h) begins (low_along b) (λ j p q. (nothing j p q).1) job.begins,
                weighted_add most_axes (added h) begins sides,
                sum_zero most_axes (λ j. 0) (λ j l. refl),
              ));
        }

-- ---- with sides to which 1 is doubled so often
module _ {rows : List ℤ} {i : ℕ} {values : List ℤ} {times : List ℕ} (job : RowStands rows i values times) where
  abbrev line_over : Halfspace
  line_over = row_at rows i

  pub along_needs : RowNamed rows i × SmallTimes times
  along_needs = (row_named job.over, rw job.times_are (small_times (small_side job.over)))

  nothing_times : (k : ℕ) → pos 0 *ℤ pos k ≡ pos 0
  nothing_times k = ap pos (omega arith)

  -- the lengths are the sides, or the coefficient is 0
  same_along : (f : ℤ → ℕ → ℤ) → ((k : ℕ) → f (pos 0) k ≡ pos 0) → (j : ℕ) → j < most_axes →
      f (line_over.coefficient j) (get_or (lengths_by times) j 0) ≡ f (line_over.coefficient j) (get_or job.side j 0)
  same_along f none j l = by (dec_lt j job.over.block.universe.axes)
    where
      by : Dec (j < job.over.block.universe.axes) →
          f (line_over.coefficient j) (get_or (lengths_by times) j 0) ≡ f (line_over.coefficient j) (get_or job.side j 0)
      by (yes k) =
          ap (f (line_over.coefficient j))
          (length_at times j l ∙ ap (λ (t : List ℕ). 2 ^ get_or t j 0) job.times_are ∙ ap (λ (n : ℕ). 2 ^ n) (times_at job.side j l)
          ∙ sym (job.powers j k).power)
      by (no k) = rw (job.over.beyond j (omega (arith, k)) l) (none (get_or (lengths_by times) j 0) ∙ sym (none (get_or job.side j 0)))

  pub along_sides : total most_axes (along_of line_over (lengths_by times)) ≡ total most_axes (along_of line_over job.side)
  along_sides = total_cong most_axes _ _ (same_along (λ a k. a *ℤ pos k) nothing_times)

  pub fall_sides : total most_axes (fall_along line_over (lengths_by times)) ≡ total most_axes (fall_along line_over job.side)
  fall_sides = total_cong most_axes _ _ (same_along falls nothing_times)
