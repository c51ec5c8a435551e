-- What is carried of the whole universe. The array of slots holds the rows that the words name; grown along every axis, the values from the point at 0 on are
-- the extremes over the whole block; and with zeros for amounts judging it is judging the block itself, twice, and going to it is staying.
use Prim.Native.Nat.{ℕ, zero, suc, ◌+◌, ◌*◌, ◌%◌, ◌≤◌, ◌<◌}
use mathlib.Core.Path.{◌≡◌, ap, ◌∙◌}
use mathlib.Core.Bool.{Bool, true, false, ◌&&◌}
use mathlib.Core.List.{List, ◌++◌}
use native.Mathlib.Omega.{arith}
use borrow.Author.Tests.{leb-true}
use lib.Dec.{eqb, leb}
use lib.IntN.{ℤ, pos, ◌+ℤ◌, ◌-ℤ◌, +ℤ_idr}
use lib.ListN.{length, get_or, drop, replicate, length-replicate, get_or-append}
use lib.Seq.{sets}
use Rattle.lemmas.specs.Sums.{sum, every}
use Rattle.lemmas.proofs.Sums.{and_left, and_right, sum_cong, sum_zero}
use Rattle.lemmas.proofs.Stores.{sets_append, sets_first}
use Rattle.lemmas.proofs.Whole.{up, dn, Is, is_eq, is_nat, is_self, is_add, is_sub, ι, ν, ◌⊖◌, eq_by}
use Rattle.universe.specs.declared.Universe.{Universe}
use Rattle.universe.specs.declared.Block.{Block}
use Rattle.universe.specs.Refusals.{bad_rows}
use Rattle.universe.specs.Universe.{most_axes}
use Rattle.universe.specs.Block.{low_along, length_along}
use Rattle.universe.proofs.Refusing.{unless_holds}
use Rattle.universe.proofs.Blocks.{zero_low}
use Rattle.csg.specs.Halfspace.{Halfspace, least, greatest, row_at, row_count, row_length, most_rows, within_limits, rows_refusal}
use Rattle.csg.specs.Surfaces.{Surfaces}
use Rattle.csg.proofs.Halfspace.{axes_of, end_along, added, taken, rise, fall, least_is, greatest_is}
use Rattle.convert.specs.Slots.{rows_named, slots_of, row_in, part_of, least_to, greatest_to, Slotted, Growing, SmallAmount}
use Rattle.convert.specs.Slots.{most_slots, no_place, halved_by, Amounts}
use Rattle.convert.specs.Codes.{bits_of}
use Rattle.convert.specs.Blocks.{Ready, Standing, Halved, Carried, Judging, trees_of, block_left, whole_sides, judged}
use Rattle.convert.specs.Shapes.{Laying, Half}
use Rattle.convert.proofs.Judging.{small_rows}
use Rattle.convert.proofs.Slots.{halved_none}
use Rattle.convert.proofs.Laying.{half_of}
use Rattle.convert.proofs.Naming.{slots_few, slots_named, count_is}
use Rattle.convert.proofs.Carrying.{part_above, part_below, carried_least, carried_greatest}

-- ---- grown values by the two parts of the coefficients
module _ (h : Halfspace) (side : List ℕ) where
  least_to_is : (n : ℕ) → Is (least_to n h side) (up h.offset) (dn h.offset + fall h n (λ i. get_or side i 0))
  unfolding least_to fall sum
  least_to_is zero = record { is = omega (arith, (is_self h.offset).is) }
  least_to_is (suc n) =
      let a = part_of false (h.coefficient n) * get_or side n 0 in
      record { is = omega (arith, (is_sub (least_to_is n) (is_nat a)).is, ap (λ (t : ℕ). t * get_or side n 0) (part_below (h.coefficient n))) }

  greatest_to_is : (n : ℕ) → Is (greatest_to n h side) (up h.offset + rise h n (λ i. get_or side i 0)) (dn h.offset)
  unfolding greatest_to rise sum
  greatest_to_is zero = record { is = omega (arith, (is_self h.offset).is) }
  greatest_to_is (suc n) =
      let a = part_of true (h.coefficient n) * get_or side n 0 in
      record { is = omega (arith, (is_add (greatest_to_is n) (is_nat a)).is, ap (λ (t : ℕ). t * get_or side n 0) (part_above (h.coefficient n))) }

module _ (h : Halfspace) (b : Block) (side : List ℕ) (from_zero : (i : ℕ) → low_along b i ≡ 0) (along : (i : ℕ) → i < axes_of b →
    get_or side i 0 ≡ length_along b i) where
  begins : (x : ℕ → ℕ) → sum (axes_of b) (λ i. x i * low_along b i) ≡ 0
  begins x = sum_zero (axes_of b) (λ i. x i * low_along b i) (λ i l. omega (arith, ap (λ (t : ℕ). x i * t) (from_zero i)))

  ends : (x : ℕ → ℕ) → sum (axes_of b) (λ i. x i * end_along b i) ≡ sum (axes_of b) (λ i. x i * get_or side i 0)
  ends x = sum_cong (axes_of b) _ _ (λ i l. ap (λ (t : ℕ). x i * t) (omega (arith, from_zero i, along i l)))

  least_grown : least_to (axes_of b) h side ≡ least h b
  unfolding rise fall
  least_grown = is_eq (least_to_is h side (axes_of b)) (least_is h b) (omega (arith, begins (added h), ends (taken h)))

  greatest_grown : greatest_to (axes_of b) h side ≡ greatest h b
  unfolding rise fall
  greatest_grown = is_eq (greatest_to_is h side (axes_of b)) (greatest_is h b) (omega (arith, begins (taken h), ends (added h)))

-- ---- the slots of two accepted trees
module _ {u : Universe} {surfaces : Surfaces} {first second : List ℕ} (r : Ready u surfaces first second) where
  abbrev rows : List ℤ
  rows = surfaces.rows

  rows_few : row_count rows ≤ most_rows
  unfolding rows_refusal
  rows_few =
      let shape : Bool = eqb (length rows % row_length) 0 && leb (row_count rows) most_rows in
      let all : Bool = every (row_count rows) (λ i. within_limits u (row_at rows i)) in
      let good : shape && all ≡ true = unless_holds (shape && all) bad_rows (omega arith) r.accepted_rows in
      leb-true _ _ (and_right (eqb (length rows % row_length) 0) (leb (row_count rows) most_rows) (and_left shape all good))

  module _ {one two : List ℕ} {from count : ℕ} (p : one ≡ sets (replicate most_slots 0) 0 (rows_named first)) (q : two ≡ sets one from (rows_named second))
      (f : from ≡ 0 + length (rows_named first)) (c : count ≡ from + length (rows_named second)) where
    count_same : count ≡ length (slots_of first second)
    count_same = count_is r f c

    array_is : two ≡ slots_of first second ++ drop (length (slots_of first second)) (replicate most_slots 0)
    array_is =
        q ∙ rw (p, f) (sets_append (rows_named first) (rows_named second) (replicate most_slots 0) 0)
        ∙ sets_first (slots_of first second) (replicate most_slots 0) (omega (arith, slots_few r, length-replicate {A = ℕ} most_slots 0))

    slot_at : (k : ℕ) → k < count → get_or two k 0 ≡ get_or (slots_of first second) k 0
    slot_at k l =
        ap (λ (x : List ℕ). get_or x k 0) array_is
        ∙ get_or-append (slots_of first second) (drop (length (slots_of first second)) (replicate most_slots 0)) 0 k (omega (arith, count_same))

    pub begin_slots : Slotted rows two count
    begin_slots = record {
      few = omega (arith, count_same, slots_few r);
      few_rows = rows_few;
      named = λ k l. rw (slot_at k l) (slots_named r k (omega (arith, count_same)));
      small = λ k l. rw (slot_at k l) (small_rows u rows r.accepted_rows (get_or (slots_of first second) k 0) (slots_named r k (omega (arith, count_same))));
    }

    -- what is carried of the whole, once it is grown along each axis
    module _ {left : ℕ} {side : List ℕ} (s : Standing u left (replicate most_axes 0) side) (whole : side ≡ whole_sides u) {leasts greatests : List ℤ}
        {amounts : List ℕ}
        (g : Growing rows two count side u.axes leasts greatests amounts) where
      abbrev lows : List ℕ
      lows = replicate most_axes 0

      abbrev b : Block
      b = block_left u left lows

      within : (k : ℕ) → k < length (slots_of first second) → k < count
      within k l = omega (arith, count_same)

      same_row : (k : ℕ) → k < length (slots_of first second) → row_in rows two k ≡ row_in rows (slots_of first second) k
      same_row k l = ap (row_at rows) (slot_at k (within k l))

      pub whole_amounts : Amounts u.axes rows (slots_of first second) (whole_sides u) amounts
      whole_amounts = rw (← whole) (record {
        places = g.places;
        fall_is = λ i k l m. g.fall_is i k l (within k m) ∙ ap (λ (h : Halfspace). part_of false (h.coefficient i) * get_or side i 0) (same_row k m);
        rise_is = λ i k l m. g.rise_is i k l (within k m) ∙ ap (λ (h : Halfspace). part_of true (h.coefficient i) * get_or side i 0) (same_row k m);
      })

      whole_carried : Carried u surfaces first second left lows leasts greatests amounts
      whole_carried = record {
        extremes = record {
          least_is = λ k l. g.least_is k (within k l) ∙ ap (λ (h : Halfspace). least_to u.axes h side) (same_row k l)
              ∙ least_grown (row_in rows (slots_of first second) k) b side (zero_low most_axes) s.along;
          greatest_is = λ k l. g.greatest_is k (within k l) ∙ ap (λ (h : Halfspace). greatest_to u.axes h side) (same_row k l)
              ∙ greatest_grown (row_in rows (slots_of first second) k) b side (zero_low most_axes) s.along;
        };
        moves = whole_amounts;
        least_places = g.least_places;
        greatest_places = g.greatest_places;
      }

      none : (k : ℕ) → k < length (slots_of first second) → ◌≡◌ {A = ℕ} (get_or (halved_by 0 amounts) (no_place + k) 0) 0
      none k l = rw (halved_none amounts) (g.none_is k (omega (arith, slots_few r)))

      -- judging it twice
      pub whole_judging : Judging u surfaces first second left lows lows side leasts greatests amounts no_place no_place 0
      whole_judging = record {
        ready = r;
        below = s;
        above = s;
        least_moves = record { few = slots_few r; few_times = omega arith; room = omega arith; value = carried_least r s whole_carried; amount = no_amount };
        greatest_moves = record
            { few = slots_few r; few_times = omega arith; room = omega arith; value = carried_greatest r s whole_carried; amount = no_amount };
        below_least = least_same;
        below_greatest = greatest_same;
        above_least = least_same;
        above_greatest = greatest_same;
      }
        where
          no_amount : (k : ℕ) → k < length (slots_of first second) → SmallAmount (get_or (halved_by 0 amounts) (no_place + k) 0)
          no_amount k l = record { most = omega (arith, none k l) }

          least_same : (k : ℕ) → k < length (slots_of first second) →
              get_or leasts k (pos 0) +ℤ pos (get_or (halved_by 0 amounts) (no_place + k) 0) ≡ least (row_in rows (slots_of first second) k) b
          least_same k l = rw (none k l) (+ℤ_idr (get_or leasts k (pos 0)) ∙ whole_carried.extremes.least_is k l)

          greatest_same : (k : ℕ) → k < length (slots_of first second) →
              get_or greatests k (pos 0) -ℤ pos (get_or (halved_by 0 amounts) (no_place + k) 0) ≡ greatest (row_in rows (slots_of first second) k) b
          greatest_same k l =
              let x = get_or greatests k (pos 0) in
              rw (none k l) (eq_by (ι x ⊖ ν 0) (ι x) (omega arith) ∙ whole_carried.extremes.greatest_is k l)

      -- it can be laid as a half is
      pub whole_half : {axes turns : List ℕ} {at mark : ℕ} → Laying u surfaces first second axes left lows side at →
          mark ≡ bits_of (judged surfaces (trees_of surfaces first second) left b) → Halved u turns →
          Half u surfaces first second axes turns left lows side leasts greatests amounts no_place no_place 0 at mark
      whole_half l e d = half_of whole_judging l e d whole_amounts g.least_places g.greatest_places
