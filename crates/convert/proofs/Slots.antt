-- What is carried in slots. A run of stores is told by what stands at each place after it (`stored_at`, `stored_above`), so that values moved and moved back
-- are as they were. An amount that is halved so many times is what the machine shifts it to.
use Prim.Native.Nat.{ℕ, zero, suc, ◌+◌, ◌*◌, ◌-◌, ◌/◌, ◌^◌, ◌≤◌, ◌<◌}
use mathlib.Core.Path.{◌≡◌, refl, sym, ap, ap₂, ◌∙◌}
use mathlib.Core.Bool.{Bool, true, false, cond}
use mathlib.Core.List.{List, [], ◌∷◌, ◌++◌, append-nil}
use native.Mathlib.Omega.{arith}
use native.Mathlib.Nat.{le_refl, le_trans, mul-le-mul, zero-div, div-one}
use native.Mathlib.Numerals.{add-one}
use native.Mathlib.Decide.{ℕ_discrete, dec_lt}
use lib.Dec.{leb}
use borrow.Author.Tests.{leb-true}
use lib.IntN.{ℤ, pos, neg_ℤ, nat_abs, ◌+ℤ◌, ◌-ℤ◌}
use lib.ListN.{length, get_or, set, take, drop, replicate, length-replicate, length-set, length-append, take-append-drop}
use lib.Signed.{le_z}
use lib.Seq.{sets, get_or-set_same, get_or-set_other, ext_get_or, take-suc, take_all}
use mir.Syntax.{w64}
use mir.Val.{SFits, to_z, of_z}
use Rattle.lemmas.proofs.Machine.{Near, near, near_nat, near_add, near_sub, near_back, near_cast, near_fits}
use Rattle.lemmas.proofs.Machine.{size_add, size_neg}
use Rattle.lemmas.proofs.Sums.{and_right}
use Rattle.lemmas.proofs.Stores.{sets_append}
use Rattle.lemmas.proofs.Whole.{ι, ν, ◌⊕◌, ◌⊖◌, eq_by}
use Rattle.universe.specs.Universe.{most_axes, offset_limit, coefficient_limit}
use Rattle.universe.proofs.Blocks.{zero_low}
use Rattle.csg.specs.Halfspace.{Halfspace, most_rows, row_length}
use Rattle.csg.specs.Words.{is_operator, names_halfspace, first_halfspace}
use Rattle.csg.proofs.Words.{among_is}
use Rattle.convert.specs.Small.{SmallCoefficient, SmallPlace, SmallPlaces, SmallHalfspace}
use Rattle.convert.specs.Codes.{paired, centre_unit, mark_by_values, colour_by_values, value_code}
use Rattle.convert.specs.Slots.{stored, raised, lowered, halved_by, rows_named, most_slots, most_amounts, part_of}
use Rattle.convert.specs.Slots.{amount_limit, value_limit, SmallValue, SmallAmount, Movable, Slotted, row_in, least_to, greatest_to, Growing}
use Rattle.convert.specs.Slots.{offsets_in, amounts_in, fall_place, rise_place, no_place}

-- ---- runs of stores
module _ {A : Type 0} (f : ℕ → A) (from : ℕ) where
  pub stored_length : (n : ℕ) (list : List A) → length (stored f from n list) ≡ length list
  unfolding stored
  stored_length zero list = refl
  stored_length (suc n) list = length-set (stored f from n list) (from + n) (f n) ∙ stored_length n list

  module _ (list : List A) (d : A) where
    pub stored_above : (n k : ℕ) → from + n ≤ k → get_or (stored f from n list) k d ≡ get_or list k d
    unfolding stored
    stored_above zero k l = refl
    stored_above (suc n) k l = get_or-set_other (stored f from n list) (from + n) k (f n) d (omega arith) ∙ stored_above n k (omega arith)

    pub stored_below : (n k : ℕ) → k < from → get_or (stored f from n list) k d ≡ get_or list k d
    unfolding stored
    stored_below zero k l = refl
    stored_below (suc n) k l = get_or-set_other (stored f from n list) (from + n) k (f n) d (omega arith) ∙ stored_below n k l

    pub stored_at : (n k : ℕ) → k < n → from + n ≤ length list → get_or (stored f from n list) (from + k) d ≡ f k
    unfolding stored
    stored_at zero k l r = absurd (omega arith)
    stored_at (suc n) k l r = by (ℕ_discrete k n) (stored_at n k)
      where
        by : Dec (k ≡ n) → (k < n → from + n ≤ length list → get_or (stored f from n list) (from + k) d ≡ f k) →
            get_or (set (stored f from n list) (from + n) (f n)) (from + k) d ≡ f k
        by (yes e) ih = rw e (get_or-set_same (stored f from n list) (from + n) (f n) d (omega (arith, stored_length n list)))
        by (no e) ih = get_or-set_other (stored f from n list) (from + n) (from + k) (f n) d (omega arith) ∙ ih (omega arith) (omega arith)

-- a loop that has set the first i of them
pub record Storing {A : Type 0} (f : ℕ → A) (from count : ℕ) (before now : List A) (i : ℕ) : Type 0 where
  pub reached : i ≤ count
  pub now_is : now ≡ stored f from i before

module _ {A : Type 0} {f : ℕ → A} {from count : ℕ} {before : List A} where
  pub storing_start : Storing f from count before before 0
  unfolding stored
  storing_start = record { reached = omega arith; now_is = refl }

  module _ {now : List A} {i : ℕ} (s : Storing f from count before now i) where
    pub storing_next : i < count → {x : A} → x ≡ f i → Storing f from count before (set now (from + i) x) (i + 1)
    unfolding stored
    storing_next l e = record { reached = omega arith; now_is = rw (e, s.now_is, add-one) }

    pub storing_here : (d : A) → get_or now (from + i) d ≡ get_or before (from + i) d
    storing_here d = rw s.now_is (stored_above f from before d i (from + i) (omega arith))

    pub storing_end : count ≤ i → now ≡ stored f from count before
    storing_end l = let e : i ≡ count = omega (arith, s.reached) in rw (← e) s.now_is

-- ---- values moved by amounts: what the machine adds up and takes off is what the definition says
-- what the machine reads of a number that it holds
abbrev held : ℤ → ℤ
held z = to_z w64 (of_z w64 z)

value_near : {x : ℤ} → SmallValue x → Near (held x) x value_limit
value_near s = near (record { most = s.most }) tt

amount_near : {a : ℕ} → SmallAmount a → Near (to_z w64 a) (pos a) amount_limit
amount_near {a} s = near_cast a amount_limit s.most tt

sum_near : {x : ℤ} {a : ℕ} → SmallValue x → SmallAmount a → Near (held x +ℤ to_z w64 a) (x +ℤ pos a) (value_limit + amount_limit)
sum_near {x} {a} s t = near_add {x = x} {y = pos a} (value_near s) (amount_near t)

rest_near : {x : ℤ} {a : ℕ} → SmallValue x → SmallAmount a → Near (held x -ℤ to_z w64 a) (x -ℤ pos a) (value_limit + amount_limit)
rest_near {x} {a} s t = near_sub {x = x} {y = pos a} (value_near s) (amount_near t)

module _ {l g : ℤ} {a o : ℕ} (s : SmallValue l) (t : SmallValue g) (p : SmallAmount a) (q : SmallAmount o) where
  up_is : held (held l +ℤ to_z w64 a) ≡ l +ℤ pos a
  up_is = (near_back {x = l +ℤ pos a} (sum_near s p) tt).same

  down_is : held (held g -ℤ to_z w64 o) ≡ g -ℤ pos o
  down_is = (near_back {x = g -ℤ pos o} (rest_near t q) tt).same

  pub moved_mark : mark_by_values (held (held l +ℤ to_z w64 a)) (held (held g -ℤ to_z w64 o)) ≡ mark_by_values (l +ℤ pos a) (g -ℤ pos o)
  moved_mark = ap₂ mark_by_values up_is down_is

  pub moved_colour : colour_by_values (held (held l +ℤ to_z w64 a)) (held (held g -ℤ to_z w64 o)) ≡ colour_by_values (l +ℤ pos a) (g -ℤ pos o)
  moved_colour = ap₂ colour_by_values up_is down_is

-- the codes over two blocks, by their marks, and by the colours where they are voxels
module _ (l g h k : ℤ) {m n p : ℕ} (a : m ≡ mark_by_values l g) (b : n ≡ mark_by_values h k) (e : p ≡ paired m n) where
  pub codes_over : {centre : Bool} → centre ≡ false → p ≡ paired (value_code centre l g) (value_code centre h k)
  codes_over f = rw f (e ∙ ap₂ paired a b)

  pub codes_at : {centre : Bool} → centre ≡ true → {c d q : ℕ} → c ≡ colour_by_values l g → d ≡ colour_by_values h k → q ≡ paired c d →
      p + centre_unit * q ≡ paired (value_code centre l g) (value_code centre h k)
  codes_at f x y z = rw f (omega (arith, e, z, a, b, x, y))

-- a store at the first places
next_first : {A : Type 0} {f : ℕ → A} {count : ℕ} {before now : List A} {i : ℕ} → Storing f 0 count before now i → i < count → {x : A} → x ≡ f i →
    Storing f 0 count before (set now i x) (i + 1)
next_first {i = i} s l e = let z : 0 + i ≡ i = omega arith in rw z at (storing_next s l e)

here_first : {A : Type 0} {f : ℕ → A} {count : ℕ} {before now : List A} {i : ℕ} → Storing f 0 count before now i → (d : A) → get_or now i d ≡ get_or before i d
here_first {i = i} s d = let z : 0 + i ≡ i = omega arith in rw z at (storing_here s d)

-- ---- amounts that are halved
pub halved_at : (times : ℕ) (amounts : List ℕ) (k : ℕ) → get_or (halved_by times amounts) k 0 ≡ get_or amounts k 0 / 2 ^ times
unfolding halved_by
halved_at times [] k = sym (zero-div (2 ^ times))
halved_at times (a ∷ amounts) zero = refl
halved_at times (a ∷ amounts) (suc k) = halved_at times amounts k

-- not once
pub halved_none : (amounts : List ℕ) → halved_by 0 amounts ≡ amounts
unfolding halved_by
halved_none [] = refl
halved_none (a ∷ amounts) = ap₂ ◌∷◌ (div-one a) (halved_none amounts)

module _ {before : List ℤ} {amounts : List ℕ} {from times count : ℕ} (m : Movable before amounts from times count) {f : ℕ → ℤ} {values : List ℤ} {i : ℕ}
    (s : Storing f 0 count before values i) (l : i < count) where
  -- the amount as the machine shifts it
  abbrev shifted : ℕ
  shifted = get_or amounts (from + i) 0 / 2 ^ times

  shifted_small : SmallAmount shifted
  shifted_small = rw (halved_at times amounts (from + i)) at (m.amount i l)

  same : get_or values i (pos 0) ≡ get_or before i (pos 0)
  same = here_first s (pos 0)

  small_here : SmallValue (get_or values i (pos 0))
  small_here = rw same (m.value i l)

  pub amount_fits : SFits w64 (pos shifted)
  amount_fits = near_fits {x = pos shifted} (near_nat shifted amount_limit shifted_small.most) tt

  pub sum_fits : SFits w64 (held (get_or values i (pos 0)) +ℤ to_z w64 shifted)
  sum_fits = near_fits {x = get_or values i (pos 0) +ℤ pos shifted} (sum_near small_here shifted_small) tt

  pub rest_fits : SFits w64 (held (get_or values i (pos 0)) -ℤ to_z w64 shifted)
  rest_fits = near_fits {x = get_or values i (pos 0) -ℤ pos shifted} (rest_near small_here shifted_small) tt

  sum_is : held (held (get_or values i (pos 0)) +ℤ to_z w64 shifted) ≡ get_or before i (pos 0) +ℤ pos (get_or (halved_by times amounts) (from + i) 0)
  sum_is =
      (near_back {x = get_or values i (pos 0) +ℤ pos shifted} (sum_near small_here shifted_small) tt).same
      ∙ ap₂ (λ (x : ℤ) (a : ℕ). x +ℤ pos a) same (sym (halved_at times amounts (from + i)))

  rest_is : held (held (get_or values i (pos 0)) -ℤ to_z w64 shifted) ≡ get_or before i (pos 0) -ℤ pos (get_or (halved_by times amounts) (from + i) 0)
  rest_is =
      (near_back {x = get_or values i (pos 0) -ℤ pos shifted} (rest_near small_here shifted_small) tt).same
      ∙ ap₂ (λ (x : ℤ) (a : ℕ). x -ℤ pos a) same (sym (halved_at times amounts (from + i)))

module _ {before : List ℤ} {amounts : List ℕ} {from times count : ℕ} (m : Movable before amounts from times count) {values : List ℤ} {i : ℕ} where
  pub raising : (s : Storing (λ k. get_or before k (pos 0) +ℤ pos (get_or (halved_by times amounts) (from + k) 0)) 0 count before values i) → i < count →
      Storing (λ k. get_or before k (pos 0) +ℤ pos (get_or (halved_by times amounts) (from + k) 0)) 0 count before
      (set values i (held (held (get_or values i (pos 0)) +ℤ to_z w64 (get_or amounts (from + i) 0 / 2 ^ times)))) (i + 1)
  raising s l = next_first s l (sum_is m s l)

  pub lowering : (s : Storing (λ k. get_or before k (pos 0) -ℤ pos (get_or (halved_by times amounts) (from + k) 0)) 0 count before values i) → i < count →
      Storing (λ k. get_or before k (pos 0) -ℤ pos (get_or (halved_by times amounts) (from + k) 0)) 0 count before
      (set values i (held (held (get_or values i (pos 0)) -ℤ to_z w64 (get_or amounts (from + i) 0 / 2 ^ times)))) (i + 1)
  lowering s l = next_first s l (rest_is m s l)

-- ---- the rows that words name, word by word
pub named_append : (xs ys : List ℕ) → rows_named (xs ++ ys) ≡ rows_named xs ++ rows_named ys
unfolding rows_named
named_append [] ys = refl
named_append (x ∷ xs) ys = by (names_halfspace x) (named_append xs ys)
  where
    by : (b : Bool) → rows_named (xs ++ ys) ≡ rows_named xs ++ rows_named ys →
        cond b ((x - first_halfspace) ∷ rows_named (xs ++ ys)) (rows_named (xs ++ ys))
        ≡ cond b ((x - first_halfspace) ∷ rows_named xs) (rows_named xs) ++ rows_named ys
    by true e = ap (λ (l : List ℕ). (x - first_halfspace) ∷ l) e
    by false e = e

-- what the first i words name
abbrev pub named_by : List ℕ → ℕ → List ℕ
named_by words i = rows_named (take i words)

module _ (words : List ℕ) (i : ℕ) (l : i < length words) where
  named_next : named_by words (i + 1) ≡ named_by words i ++ rows_named (get_or words i 0 ∷ [])
  named_next = rw (add-one, take-suc words i 0 l) (named_append (take i words) (get_or words i 0 ∷ []))

  pub named_one : names_halfspace (get_or words i 0) ≡ true → named_by words (i + 1) ≡ named_by words i ++ ((get_or words i 0 - first_halfspace) ∷ [])
  unfolding rows_named
  named_one e = named_next ∙ rw e

  pub named_none : names_halfspace (get_or words i 0) ≡ false → named_by words (i + 1) ≡ named_by words i
  unfolding rows_named
  named_none e = named_next ∙ rw e (append-nil (named_by words i))

  -- those that the words from it on name come behind
  pub named_rest : rows_named words ≡ named_by words (i + 1) ++ rows_named (drop (i + 1) words)
  named_rest = rw (← named_append (take (i + 1) words) (drop (i + 1) words)) (ap rows_named (sym (take-append-drop (i + 1) words)))

  pub named_place : names_halfspace (get_or words i 0) ≡ true → length (named_by words i) < length (rows_named words)
  named_place e = omega (
    arith,
    ap length named_rest,
    length-append (named_by words (i + 1)) (rows_named (drop (i + 1) words)),
    ap length (named_one e),
    length-append (named_by words i) ((get_or words i 0 - first_halfspace) ∷ []),
  )

operator_names : (w : ℕ) → is_operator w ≡ true → names_halfspace w ≡ false
operator_names w o = by (names_halfspace w) refl
  where
    most : w ≤ 4
    most = leb-true _ _ (and_right (leb 2 w) (leb w 4) o)

    by : (b : Bool) → names_halfspace w ≡ b → b ≡ false
    by true e = absurd (omega (arith, most, (among_is first_halfspace most_rows w e).0))
    by false e = refl

-- the slot after that of a word
module _ (words : List ℕ) (from i : ℕ) {slot : ℕ} (s : slot ≡ from + length (named_by words i)) where
  pub slot_next : i < length words → {r : ℕ} → r ≡ cond (names_halfspace (get_or words i 0)) (slot + 1) slot → r ≡ from + length (named_by words (i + 1))
  slot_next l e = by (names_halfspace (get_or words i 0)) refl e
    where
      by : (b : Bool) → names_halfspace (get_or words i 0) ≡ b → {r : ℕ} → r ≡ cond b (slot + 1) slot → r ≡ from + length (named_by words (i + 1))
      by true f g =
          omega (arith, g, s, ap length (named_one words i l f), length-append (named_by words i) ((get_or words i 0 - first_halfspace) ∷ []))
      by false f g = omega (arith, g, s, ap length (named_none words i l f))

  -- an operator has none
  pub slot_kept : i < length words → is_operator (get_or words i 0) ≡ true → slot ≡ from + length (named_by words (i + 1))
  slot_kept l o = omega (arith, s, ap length (named_none words i l (operator_names (get_or words i 0) o)))

pub named_start : (words : List ℕ) (from : ℕ) → from ≡ from + length (named_by words 0)
unfolding rows_named
named_start words from = omega arith

-- a loop that has set the rows that the first i words name
pub record Naming (words : List ℕ) (from : ℕ) (before slots : List ℕ) (slot i : ℕ) : Type 0 where
  pub reached : i ≤ length words
  pub slot_is : slot ≡ from + length (named_by words i)
  pub now_is : slots ≡ sets before from (named_by words i)

pub naming_start : (words : List ℕ) (from : ℕ) (before : List ℕ) → Naming words from before before from 0
unfolding rows_named
naming_start words from before = record { reached = omega arith; slot_is = omega arith; now_is = refl }

module _ {words : List ℕ} {from : ℕ} {before slots : List ℕ} {slot i : ℕ} (n : Naming words from before slots slot i) where
  pub naming_room : from + length (rows_named words) ≤ most_slots → i < length words → {b : Bool} → b ≡ names_halfspace (get_or words i 0) → b ≡ true →
      slot < most_slots
  naming_room r l e t = omega (arith, r, n.slot_is, named_place words i l (sym e ∙ t))

  pub naming_one : i < length words → {b : Bool} → b ≡ names_halfspace (get_or words i 0) → b ≡ true →
      Naming words from before (set slots slot (get_or words i 0 - first_halfspace)) (slot + 1) (i + 1)
  naming_one l e t =
      let one = named_one words i l (sym e ∙ t) in
      record {
        reached = omega arith;
        slot_is = omega (arith, n.slot_is, ap length one, length-append (named_by words i) ((get_or words i 0 - first_halfspace) ∷ []));
        now_is = rw (n.slot_is, n.now_is, one) (sets_append (named_by words i) ((get_or words i 0 - first_halfspace) ∷ []) before from);
      }

  pub naming_none : i < length words → {b : Bool} → b ≡ names_halfspace (get_or words i 0) → b ≡ false → Naming words from before slots slot (i + 1)
  naming_none l e t = let none =
      named_none words i l (sym e ∙ t) in record { reached = omega arith; slot_is = rw none n.slot_is; now_is = rw none n.now_is }

  pub naming_end : length words ≤ i → (slot ≡ from + length (rows_named words)) × (slots ≡ sets before from (rows_named words))
  naming_end l =
      let e : named_by words i ≡ rows_named words = ap rows_named (take_all i words l) in
      (rw (← e) n.slot_is, rw (← e) n.now_is)

-- ---- a part of a small coefficient times a side
pub part_most : (above : Bool) (a : ℤ) → part_of above a ≤ nat_abs a
part_most true a = by (le_z (pos 0) a)
  where
    by : (b : Bool) → nat_abs (cond b a (pos 0)) ≤ nat_abs a
    by true = le_refl (nat_abs a)
    by false = omega arith
part_most false a = by (le_z (pos 0) a)
  where
    by : (b : Bool) → nat_abs (cond b (pos 0) a) ≤ nat_abs a
    by true = omega arith
    by false = le_refl (nat_abs a)

pub small_product : (above : Bool) {a : ℤ} {side : ℕ} → SmallCoefficient a → SmallPlace side → part_of above a * side ≤ amount_limit
small_product above {a} s p = mul-le-mul (le_trans (part_most above a) s.most) p.most

module _ {rows : List ℤ} {slots : List ℕ} {count : ℕ} (s : Slotted rows slots count) (i : ℕ) (l : i < count) where
  pub offset_held : held (row_in rows slots i).offset ≡ (row_in rows slots i).offset
  offset_held = (near {b = offset_limit} (record { most = (s.small i l).offset }) tt).same

  module _ (axis : ℕ) (w : axis < most_axes) where
    pub coefficient_held : held ((row_in rows slots i).coefficient axis) ≡ (row_in rows slots i).coefficient axis
    coefficient_held = (near {b = coefficient_limit} (record { most = ((s.small i l).coefficient axis w).most }) tt).same

-- the next offset, and the next amount
pub next_offset : {rows : List ℤ} {slots : List ℕ} {count : ℕ} → Slotted rows slots count → {before values : List ℤ} {i : ℕ} →
    Storing (λ k. (row_in rows slots k).offset) 0 count before values i → i < count →
    Storing (λ k. (row_in rows slots k).offset) 0 count before (set values i (held (row_in rows slots i).offset)) (i + 1)
next_offset a {i = i} s l = next_first s l (offset_held a i l)

module _ {rows : List ℤ} {slots : List ℕ} {count axis side : ℕ} (a : Slotted rows slots count) (w : axis < most_axes) (p : SmallPlace side) where
  -- a coefficient as it is read
  abbrev read_of : ℕ → ℤ
  read_of i = held (get_or rows (row_length * get_or slots i 0 + (axis + 1)) (pos 0))

  read_is : {i : ℕ} → i < count → read_of i ≡ (row_in rows slots i).coefficient axis
  read_is {i} l = let z : axis + 1 ≡ suc axis = omega arith in rw z (coefficient_held a i l axis w)

  pub small_coefficient : {i : ℕ} → i < count → SmallCoefficient (read_of i)
  small_coefficient {i} l = rw (read_is l) ((a.small i l).coefficient axis w)

  pub product_fits : {i r : ℕ} (above : Bool) → i < count → r ≡ part_of above (read_of i) → r * side < 2 ^ 64
  product_fits {i} {r} above l e = omega (arith, small_product above (small_coefficient l) p, ap (λ (x : ℕ). x * side) e)

  pub next_amount : (above : Bool) {from : ℕ} {before amounts : List ℕ} {i r : ℕ} →
      Storing (λ k. part_of above ((row_in rows slots k).coefficient axis) * side) from count before amounts i → i < count → r ≡ part_of above (read_of i) →
      Storing (λ k. part_of above ((row_in rows slots k).coefficient axis) * side) from count before (set amounts (from + i) (r * side)) (i + 1)
  next_amount above {i = i} s l e = storing_next s l (ap (λ (x : ℕ). x * side) (e ∙ ap (part_of above) (read_is l)))

-- ---- the whole universe's values, axis by axis
module _ {h : Halfspace} {side : List ℕ} (small : SmallHalfspace h) (sides : SmallPlaces side) where
  amount_most : (above : Bool) (n : ℕ) → n < most_axes → part_of above (h.coefficient n) * get_or side n 0 ≤ amount_limit
  amount_most above n l = small_product above (small.coefficient n l) (sides.place n)

  least_to_most : (n : ℕ) → n ≤ most_axes → nat_abs (least_to n h side) ≤ offset_limit + n * amount_limit
  unfolding least_to
  least_to_most zero l = omega (arith, small.offset)
  least_to_most (suc n) l =
      let a = part_of false (h.coefficient n) * get_or side n 0 in
      omega (arith, size_add (least_to n h side) (neg_ℤ (pos a)), size_neg (pos a), least_to_most n (omega arith), amount_most false n l)

  greatest_to_most : (n : ℕ) → n ≤ most_axes → nat_abs (greatest_to n h side) ≤ offset_limit + n * amount_limit
  unfolding greatest_to
  greatest_to_most zero l = omega (arith, small.offset)
  greatest_to_most (suc n) l =
      let a = part_of true (h.coefficient n) * get_or side n 0 in
      omega (arith, size_add (greatest_to n h side) (pos a), greatest_to_most n (omega arith), amount_most true n l)

  pub least_to_small : (n : ℕ) → n ≤ most_axes → SmallValue (least_to n h side)
  least_to_small n l = record { most = omega (arith, least_to_most n l) }

  pub greatest_to_small : (n : ℕ) → n ≤ most_axes → SmallValue (greatest_to n h side)
  greatest_to_small n l = record { most = omega (arith, greatest_to_most n l) }

module _ {rows : List ℤ} {slots : List ℕ} {count : ℕ} {side : List ℕ} {n : ℕ} {leasts greatests : List ℤ} {amounts : List ℕ}
    (w : n < most_axes) (g : Growing rows slots count side n leasts greatests amounts) where
  abbrev fallen : List ℕ
  fallen = amounts_in rows slots false n (get_or side n 0) (fall_place n) count amounts

  abbrev grown : List ℕ
  grown = amounts_in rows slots true n (get_or side n 0) (rise_place n) count fallen

  few : count ≤ most_slots
  few = g.slotted.few

  grown_places : length grown ≡ most_amounts
  grown_places = stored_length _ _ count fallen ∙ stored_length _ _ count amounts ∙ g.places

  -- what stands in the places of both parts, and in others
  fall_here : (k : ℕ) → k < count → get_or grown (fall_place n + k) 0 ≡ part_of false ((row_in rows slots k).coefficient n) * get_or side n 0
  fall_here k l =
      stored_below _ (rise_place n) fallen 0 count (fall_place n + k) (omega (arith, few))
      ∙ stored_at _ (fall_place n) amounts 0 count k l (omega (arith, few, g.places, w))

  rise_here : (k : ℕ) → k < count → get_or grown (rise_place n + k) 0 ≡ part_of true ((row_in rows slots k).coefficient n) * get_or side n 0
  rise_here k l = stored_at _ (rise_place n) fallen 0 count k l
      (omega (arith, few, stored_length (λ k. part_of false ((row_in rows slots k).coefficient n) * get_or side n 0) (fall_place n) count amounts, g.places, w))

  below_kept : (p : ℕ) → p < fall_place n → get_or grown p 0 ≡ get_or amounts p 0
  below_kept p l = stored_below _ (rise_place n) fallen 0 count p (omega arith) ∙ stored_below _ (fall_place n) amounts 0 count p l

  above_kept : (p : ℕ) → fall_place (suc n) ≤ p → get_or grown p 0 ≡ get_or amounts p 0
  above_kept p l = stored_above _ (rise_place n) fallen 0 count p (omega (arith, few)) ∙ stored_above _ (fall_place n) amounts 0 count p (omega (arith, few))

  small_row : (k : ℕ) → k < count → SmallHalfspace (row_in rows slots k)
  small_row k l = g.slotted.small k l

  falls_movable : Movable leasts grown (fall_place n) 0 count
  falls_movable = record {
    few = few;
    few_times = omega arith;
    room = omega (arith, w);
    value = λ k l. rw (g.least_is k l) (least_to_small (small_row k l) g.sides n (omega arith));
    amount = λ k l. record { most = rw (halved_none grown, fall_here k l) (amount_most (small_row k l) g.sides false n w) };
  }

  rises_movable : Movable greatests grown (rise_place n) 0 count
  rises_movable = record {
    few = few;
    few_times = omega arith;
    room = omega (arith, w);
    value = λ k l. rw (g.greatest_is k l) (greatest_to_small (small_row k l) g.sides n (omega arith));
    amount = λ k l. record { most = rw (halved_none grown, rise_here k l) (amount_most (small_row k l) g.sides true n w) };
  }

  places_are : {i : ℕ} → i < suc n → {P : ℕ → Type 0} → ((j : ℕ) → j < n → P j) → P n → P i
  places_are {i} l {P} f x = by (ℕ_discrete i n)
    where
      by : Dec (i ≡ n) → P i
      by (yes e) = rw e x
      by (no d) = f i (omega arith)

  next_least : (k : ℕ) → k < count → get_or (lowered grown (fall_place n) count leasts) k (pos 0) ≡ least_to (suc n) (row_in rows slots k) side
  unfolding least_to
  next_least k l =
      let z : 0 + k ≡ k = omega arith in
      (rw z at (stored_at (λ j. get_or leasts j (pos 0) -ℤ pos (get_or grown (fall_place n + j) 0)) 0 leasts (pos 0) count k l
      (omega (arith, few, g.least_places))))
      ∙ rw (g.least_is k l, fall_here k l)

  next_greatest : (k : ℕ) → k < count → get_or (raised grown (rise_place n) count greatests) k (pos 0) ≡ greatest_to (suc n) (row_in rows slots k) side
  unfolding greatest_to
  next_greatest k l =
      let z : 0 + k ≡ k = omega arith in
      (rw z at (stored_at (λ j. get_or greatests j (pos 0) +ℤ pos (get_or grown (rise_place n + j) 0)) 0 greatests (pos 0) count k l
      (omega (arith, few, g.greatest_places))))
      ∙ rw (g.greatest_is k l, rise_here k l)

  grows : Growing rows slots count side (suc n) (lowered grown (fall_place n) count leasts) (raised grown (rise_place n) count greatests) grown
  grows = record {
    slotted = g.slotted;
    sides = g.sides;
    least_places = stored_length _ 0 count leasts ∙ g.least_places;
    greatest_places = stored_length _ 0 count greatests ∙ g.greatest_places;
    places = grown_places;
    least_is = next_least;
    greatest_is = next_greatest;
    fall_is = λ i k l m. places_are l {P = λ j. get_or grown (fall_place j + k) 0 ≡ part_of false ((row_in rows slots k).coefficient j) * get_or side j 0}
        (λ j o. below_kept (fall_place j + k) (omega (arith, few)) ∙ g.fall_is j k o m) (fall_here k m);
    rise_is = λ i k l m. places_are l {P = λ j. get_or grown (rise_place j + k) 0 ≡ part_of true ((row_in rows slots k).coefficient j) * get_or side j 0}
        (λ j o. below_kept (rise_place j + k) (omega (arith, few)) ∙ g.rise_is j k o m) (rise_here k m);
    none_is = λ k l. above_kept (no_place + k) (omega (arith, w)) ∙ g.none_is k l;
  }

  -- what the calls of one axis handed over
  module _ {one two : List ℕ} (p : one ≡ fallen) (q : two ≡ amounts_in rows slots true n (get_or side n 0) (rise_place n) count one) where
    two_is : two ≡ grown
    two_is = q ∙ ap (amounts_in rows slots true n (get_or side n 0) (rise_place n) count) p

    pub grow_asks : Movable leasts two (fall_place n) 0 count × Movable greatests two (rise_place n) 0 count
    grow_asks = rw two_is (falls_movable, rises_movable)

    pub grown_is : {low high : List ℤ} → low ≡ lowered (halved_by 0 two) (fall_place n) count leasts →
        high ≡ raised (halved_by 0 two) (rise_place n) count greatests →
        Growing rows slots count side (n + 1) low high two
    grown_is e f = rw (e, f, halved_none two, two_is, add-one) grows

-- before the first axis
pub grown_none : {rows : List ℤ} {slots : List ℕ} {count : ℕ} → Slotted rows slots count → {side : List ℕ} → SmallPlaces side →
    {low high : List ℤ} {amounts : List ℕ} (before other : List ℤ) → length before ≡ most_slots → length other ≡ most_slots →
    low ≡ offsets_in rows slots count before → high ≡ offsets_in rows slots count other → amounts ≡ replicate most_amounts 0 →
    Growing rows slots count side 0 low high amounts
unfolding least_to greatest_to
grown_none {rows} {slots} {count} s {side} p {low} {high} {amounts} before other l m e f z = record {
  slotted = s;
  sides = p;
  least_places = ap length e ∙ stored_length _ 0 count before ∙ l;
  greatest_places = ap length f ∙ stored_length _ 0 count other ∙ m;
  places = ap length z ∙ length-replicate {A = ℕ} most_amounts 0;
  least_is = λ k h. rw e (first before l k h);
  greatest_is = λ k h. rw f (first other m k h);
  fall_is = λ i k h j. absurd (omega arith);
  rise_is = λ i k h j. absurd (omega arith);
  none_is = λ k h. rw z (zero_low most_amounts (no_place + k));
}
  where
    first : (list : List ℤ) → length list ≡ most_slots → (k : ℕ) → k < count → get_or (offsets_in rows slots count list) k (pos 0) ≡ (row_in rows slots k).offset
    first list h k j =
        let w : 0 + k ≡ k = omega arith in
        rw w at (stored_at (λ i. (row_in rows slots i).offset) 0 list (pos 0) count k j (omega (arith, h, s.few)))

-- ---- moved and moved back, halved and doubled
first_at : {A : Type 0} (f : ℕ → A) (n : ℕ) (list : List A) (d : A) (k : ℕ) → k < n → n ≤ length list → get_or (stored f 0 n list) k d ≡ f k
first_at f n list d k l r = let z : 0 + k ≡ k = omega arith in rw z at (stored_at f 0 list d n k l (omega arith))

pub raised_at : (amounts : List ℕ) (from n : ℕ) (values : List ℤ) (k : ℕ) → k < n → n ≤ length values →
    get_or (raised amounts from n values) k (pos 0) ≡ get_or values k (pos 0) +ℤ pos (get_or amounts (from + k) 0)
raised_at amounts from n values k l r = first_at (λ j. get_or values j (pos 0) +ℤ pos (get_or amounts (from + j) 0)) n values (pos 0) k l r

pub lowered_at : (amounts : List ℕ) (from n : ℕ) (values : List ℤ) (k : ℕ) → k < n → n ≤ length values →
    get_or (lowered amounts from n values) k (pos 0) ≡ get_or values k (pos 0) -ℤ pos (get_or amounts (from + k) 0)
lowered_at amounts from n values k l r = first_at (λ j. get_or values j (pos 0) -ℤ pos (get_or amounts (from + j) 0)) n values (pos 0) k l r

module _ (amounts : List ℕ) (from n : ℕ) (values : List ℤ) (r : n ≤ length values) where
  pub lowered_raised : lowered amounts from n (raised amounts from n values) ≡ values
  lowered_raised = ext_get_or (pos 0) _ _ (stored_length _ 0 n (raised amounts from n values) ∙ stored_length _ 0 n values) (λ k l. by k (dec_lt k n))
    where
      by : (k : ℕ) → Dec (k < n) → get_or (lowered amounts from n (raised amounts from n values)) k (pos 0) ≡ get_or values k (pos 0)
      by k (yes l) =
          let v = get_or values k (pos 0) in
          let a = get_or amounts (from + k) 0 in
          lowered_at amounts from n (raised amounts from n values) k l
          (omega (arith, r, stored_length (λ j. get_or values j (pos 0) +ℤ pos (get_or amounts (from + j) 0)) 0 n values))
          ∙ ap (λ (x : ℤ). x -ℤ pos a) (raised_at amounts from n values k l r)
          ∙ eq_by (ι v ⊕ ν a ⊖ ν a) (ι v) (omega arith)
      by k (no l) = stored_above _ 0 (raised amounts from n values) (pos 0) n k (omega arith) ∙ stored_above _ 0 values (pos 0) n k (omega arith)

  pub raised_lowered : raised amounts from n (lowered amounts from n values) ≡ values
  raised_lowered = ext_get_or (pos 0) _ _ (stored_length _ 0 n (lowered amounts from n values) ∙ stored_length _ 0 n values) (λ k l. by k (dec_lt k n))
    where
      by : (k : ℕ) → Dec (k < n) → get_or (raised amounts from n (lowered amounts from n values)) k (pos 0) ≡ get_or values k (pos 0)
      by k (yes l) =
          let v = get_or values k (pos 0) in
          let a = get_or amounts (from + k) 0 in
          raised_at amounts from n (lowered amounts from n values) k l
          (omega (arith, r, stored_length (λ j. get_or values j (pos 0) -ℤ pos (get_or amounts (from + j) 0)) 0 n values))
          ∙ ap (λ (x : ℤ). x +ℤ pos a) (lowered_at amounts from n values k l r)
          ∙ eq_by (ι v ⊖ ν a ⊕ ν a) (ι v) (omega arith)
      by k (no l) = stored_above _ 0 (lowered amounts from n values) (pos 0) n k (omega arith) ∙ stored_above _ 0 values (pos 0) n k (omega arith)
