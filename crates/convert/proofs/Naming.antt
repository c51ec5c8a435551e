-- The slots of two accepted trees. Reading the words tells that each slot holds a row that is there, and that they are few: each operator takes one shape off,
-- so that no tree has more leaves than half its words and one. The slot of a word holds its own row.
use Prim.Native.Nat.{ℕ, suc, ◌+◌, ◌-◌, ◌*◌, ◌≤◌, ◌<◌}
use mathlib.Core.Path.{◌≡◌, refl, ap, ◌∙◌}
use mathlib.Core.Bool.{Bool, true, false, cond}
use mathlib.Core.List.{List, [], ◌∷◌, ◌++◌}
use native.Mathlib.Omega.{arith}
use borrow.Author.Tests.{leb-true, lt-leb}
use lib.Dec.{leb}
use lib.ListN.{length, get_or, drop, length-append, get_or-append}
use lib.Seq.{get_or_at}
use Rattle.lemmas.specs.Lists.{Below, none, more}
use Rattle.lemmas.proofs.Lists.{below_append, below_at}
use Rattle.lemmas.proofs.Sums.{and_right}
use Rattle.universe.specs.declared.Universe.{Universe}
use Rattle.csg.specs.Halfspace.{most_rows, row_count}
use Rattle.csg.specs.Surfaces.{Named, Surfaces, named}
use Rattle.csg.specs.Tree.{Leaf, Operator}
use Rattle.csg.specs.Words.{first_halfspace, names_halfspace, is_operator, is_leaf, tree_refusal}
use Rattle.csg.proofs.Words.{among_is, Names, a_halfspace, a_ball, leaf_names, accepted_length, accepted_run}
use Rattle.csg.proofs.Words.{Reads, reads, left_one, leaf_next, two_pending, join_next}
use Rattle.convert.specs.Slots.{rows_named, slots_of, most_slots}
use Rattle.convert.specs.Blocks.{Ready, Slots}
use Rattle.convert.proofs.Slots.{named_by, named_one, named_rest}

-- ---- reading words, for a meaning of no interest
abbrev of_leaf : Leaf → ℕ
of_leaf l = 0

abbrev of_node : Operator → ℕ → ℕ → ℕ
of_node o a b = 0

module _ (names : Named) where
  -- a word that names a halfspace is no operator, and as a leaf its row is there
  no_operator : (w : ℕ) → is_operator w ≡ true → names_halfspace w ≡ false
  no_operator w e = let m : w ≤ 4 = leb-true _ _ (and_right (leb 2 w) (leb w 4) e) in rw (lt-leb first_halfspace w (omega arith))

  row_there : (w : ℕ) → is_leaf names w ≡ true → names_halfspace w ≡ true → w - first_halfspace < names.halfspaces
  row_there w l e =
      let a = among_is first_halfspace most_rows w e in
      by a (leaf_names names w l (omega (arith, a.0)))
    where
      by : (first_halfspace ≤ w) × (w < first_halfspace + most_rows) → Names names w → w - first_halfspace < names.halfspaces
      by a (a_halfspace x y z) = z
      by a (a_ball x y z) = absurd (omega (arith, a.1))

  abbrev Few : List ℕ → ℕ → Type 0
  Few ws n = (2 * length (rows_named ws) + n ≤ length ws + 1) × Below names.halfspaces (rows_named ws)

  after_leaf : (w : ℕ) (ws : List ℕ) (n : ℕ) → is_leaf names w ≡ true → Few ws (suc n) → Few (w ∷ ws) n
  unfolding rows_named
  after_leaf w ws n l f = by (names_halfspace w) refl
    where
      by : (b : Bool) → names_halfspace w ≡ b →
          (2 * length (cond b ((w - first_halfspace) ∷ rows_named ws) (rows_named ws)) + n ≤ suc (length ws) + 1)
          × Below names.halfspaces (cond b ((w - first_halfspace) ∷ rows_named ws) (rows_named ws))
      by true e = (omega (arith, f.0), more (row_there w l e) f.1)
      by false e = (omega (arith, f.0), f.1)

  after_operator : (w : ℕ) (ws : List ℕ) (n : ℕ) → is_operator w ≡ true → Few ws (suc n) → Few (w ∷ ws) (suc (suc n))
  unfolding rows_named
  after_operator w ws n o f = rw (no_operator w o) (omega (arith, f.0), f.1)

  few : (ws pending : List ℕ) (x : ℕ) → Reads of_leaf of_node names ws pending x → Few ws (length pending)
  unfolding rows_named
  few [] pending x r = let e = left_one r refl in rw e (omega arith, none)
  few (w ∷ ws) pending x r = by (is_operator w) refl pending r (few ws)
    where
      by : (b : Bool) → is_operator w ≡ b → (p : List ℕ) → Reads of_leaf of_node names (w ∷ ws) p x →
          ((q : List ℕ) (y : ℕ) → Reads of_leaf of_node names ws q y → Few ws (length q)) → Few (w ∷ ws) (length p)
      by false e p r ih = let l = leaf_next r e in after_leaf w ws (length p) l.0 (ih (0 ∷ p) x l.2)
      by true e [] r ih = absurd (omega (arith, two_pending r e))
      by true e (a ∷ []) r ih = absurd (omega (arith, two_pending r e))
      by true e (a ∷ b ∷ p) r ih = after_operator w ws (length p) e (ih (0 ∷ p) x (join_next r e))

  accepted_few : (ws : List ℕ) → tree_refusal names ws ≡ 0 → Few ws 0
  accepted_few ws a = few ws [] _ (reads ws [] _ (accepted_run names ws a of_leaf of_node))

-- ---- two accepted trees
module _ {u : Universe} {surfaces : Surfaces} {first second : List ℕ} (r : Ready u surfaces first second) where
  halves_few : (ws : List ℕ) → tree_refusal (named surfaces) ws ≡ 0 → 2 * length (rows_named ws) ≤ most_slots
  halves_few ws a = omega (arith, (accepted_few (named surfaces) ws a).0, accepted_length (named surfaces) ws a)

  pub slots_few : length (slots_of first second) ≤ most_slots
  slots_few = omega (
    arith,
    length-append (rows_named first) (rows_named second),
    halves_few first r.accepted_first,
    halves_few second r.accepted_second,
  )

  pub slots_named : (k : ℕ) → k < length (slots_of first second) → get_or (slots_of first second) k 0 < row_count surfaces.rows
  slots_named k l =
      below_at k (below_append (accepted_few (named surfaces) first r.accepted_first).1 (accepted_few (named surfaces) second r.accepted_second).1) l

  -- what the two calls ask, and what their slots hold
  pub first_asks : 0 + length (rows_named first) ≤ most_slots
  first_asks = omega (arith, halves_few first r.accepted_first)

  pub second_asks : {from : ℕ} → from ≡ 0 + length (rows_named first) → from + length (rows_named second) ≤ most_slots
  second_asks e = omega (arith, e, slots_few, length-append (rows_named first) (rows_named second))

-- ---- the slot of a word
right_at : (xs ys : List ℕ) (n : ℕ) → get_or (xs ++ ys) (length xs + n) 0 ≡ get_or ys n 0
right_at [] ys n = let z : 0 + n ≡ n = omega arith in rw z
right_at (x ∷ xs) ys n = let z : suc (length xs) + n ≡ suc (length xs + n) = omega arith in rw z (right_at xs ys n)

module _ (words : List ℕ) (i : ℕ) (l : i < length words) (e : names_halfspace (get_or words i 0) ≡ true) where
  abbrev own : ℕ
  own = get_or words i 0 - first_halfspace

  abbrev rest : List ℕ
  rest = rows_named (drop (i + 1) words)

  rows_are : rows_named words ≡ (named_by words i ++ (own ∷ [])) ++ rest
  rows_are = named_rest words i l ∙ ap (λ (x : List ℕ). x ++ rest) (named_one words i l e)

  pub place_few : length (named_by words i) < length (rows_named words)
  place_few = omega (
    arith,
    ap length rows_are,
    length-append (named_by words i ++ (own ∷ [])) rest,
    length-append (named_by words i) (own ∷ []),
  )

  pub place_holds : get_or (rows_named words) (length (named_by words i)) 0 ≡ own
  place_holds =
      ap (λ (x : List ℕ). get_or x (length (named_by words i)) 0) rows_are
      ∙ get_or-append (named_by words i ++ (own ∷ [])) rest 0 (length (named_by words i)) (omega (arith, length-append (named_by words i) (own ∷ [])))
      ∙ get_or_at (named_by words i) own [] 0 (length (named_by words i)) refl

pub first_slots : (first second : List ℕ) → Slots (slots_of first second) first 0
first_slots first second = record { named = by }
  where
    by : (i slot : ℕ) → slot ≡ 0 + length (named_by first i) → i < length first → names_halfspace (get_or first i 0) ≡ true →
        (slot < length (slots_of first second)) × (get_or (slots_of first second) slot 0 ≡ get_or first i 0 - first_halfspace)
    by i slot s l e =
        let z : slot ≡ length (named_by first i) = omega arith in
        let p = place_few first i l e in
        rw z (
          omega (arith, p, length-append (rows_named first) (rows_named second)),
          get_or-append (rows_named first) (rows_named second) 0 (length (named_by first i)) p ∙ place_holds first i l e,
        )

pub second_slots : (first second : List ℕ) {from : ℕ} → from ≡ length (rows_named first) → Slots (slots_of first second) second from
second_slots first second {from} f = record { named = by }
  where
    by : (i slot : ℕ) → slot ≡ from + length (named_by second i) → i < length second → names_halfspace (get_or second i 0) ≡ true →
        (slot < length (slots_of first second)) × (get_or (slots_of first second) slot 0 ≡ get_or second i 0 - first_halfspace)
    by i slot s l e =
        let z : slot ≡ length (rows_named first) + length (named_by second i) = omega arith in
        let p = place_few second i l e in
        rw z (
          omega (arith, p, length-append (rows_named first) (rows_named second)),
          right_at (rows_named first) (rows_named second) (length (named_by second i)) ∙ place_holds second i l e,
        )

-- ---- the array that the two calls leave
module _ {u : Universe} {surfaces : Surfaces} {first second : List ℕ} (r : Ready u surfaces first second) where
  pub count_is : {from count : ℕ} → from ≡ 0 + length (rows_named first) → count ≡ from + length (rows_named second) → count ≡ length (slots_of first second)
  count_is e f = omega (arith, e, f, length-append (rows_named first) (rows_named second))
