-- An evaluation of accepted words, for any meaning of leaves and operators: a loop that has read i words holds what they left pending, the last
-- shape apart and the others in an array of 32. An operator finds two shapes and a leaf finds room, and at the end one shape stands, the meaning of the
-- tree.
use Prim.Native.Nat.{ℕ, zero, suc, ◌+◌, ◌-◌, ◌≤◌, ◌<◌}
use native.Mathlib.Omega.{arith}
use native.Mathlib.Decide.{dec_lt}
use native.Mathlib.Numerals.{add-one}
use mathlib.Core.Path.{◌≡◌, refl, ap}
use mathlib.Core.Bool.{true, false, false≢true}
use mathlib.Core.List.{List, [], ◌∷◌}
use lib.ListN.{length, get_or, drop, set, length-set, drop_of_length-le, get_or-eq_default}
use lib.Seq.{get_or-set_same, get_or-set_other}
use Rattle.csg.specs.Surfaces.{Named}
use Rattle.csg.specs.Tree.{Leaf, Operator}
use Rattle.csg.specs.Words.{most_pending, is_operator, operator_of, is_leaf, leaf_of, fold, tree_refusal, tree_of}
use Rattle.csg.proofs.Words.{next, accepted_run, Reads, reads, left_one, leaf_next, two_pending, join_next}

-- an evaluation, over the shapes pending: what is left of accepted words comes to what all of them come to
pub record Midway {A : Type 0} (of_leaf : Leaf → A) (of_node : Operator → A → A → A) (names : Named) (ws : List ℕ) (pending : List A) (i : ℕ) : Type 0 where
  pub read : i ≤ length ws
  pub few : length pending ≤ most_pending
  pub onward : Reads of_leaf of_node names (drop i ws) pending (fold of_leaf of_node (tree_of names ws))

module _ {A : Type 0} {of_leaf : Leaf → A} {of_node : Operator → A → A → A} {names : Named} {ws : List ℕ} where
  pub midway_start : tree_refusal names ws ≡ 0 → Midway of_leaf of_node names ws [] 0
  midway_start accepted = record { read = omega arith; few = omega arith; onward = reads ws [] _ (accepted_run names ws accepted of_leaf of_node) }

  pub midway_end : {pending : List A} {i : ℕ} → Midway of_leaf of_node names ws pending i → length ws ≤ i → pending ≡ fold of_leaf of_node (tree_of names ws) ∷ []
  midway_end {i = i} m h = left_one m.onward (drop_of_length-le ws {i = i} h)

  here : {pending : List A} {i : ℕ} → Midway of_leaf of_node names ws pending i → i < length ws →
      Reads of_leaf of_node names (get_or ws i 0 ∷ drop (i + 1) ws) pending (fold of_leaf of_node (tree_of names ws))
  here {i = i} m h = rw (next ws i h) at m.onward

  module _ {pending : List A} {i : ℕ} (m : Midway of_leaf of_node names ws pending i) (h : i < length ws) where
    -- a word that is no operator is a leaf, for which there is room
    pub midway_leaf : is_operator (get_or ws i 0) ≡ false → is_leaf names (get_or ws i 0) ≡ true
    midway_leaf o = (leaf_next (here m h) o).0

    pub midway_room : is_operator (get_or ws i 0) ≡ false → length pending < most_pending
    midway_room o = (leaf_next (here m h) o).1

    pub midway_push : is_operator (get_or ws i 0) ≡ false → Midway of_leaf of_node names ws (of_leaf (leaf_of (get_or ws i 0)) ∷ pending) (i + 1)
    midway_push o = let g = midway_room o in record { read = omega arith; few = omega arith; onward = (leaf_next (here m h) o).2 }

    -- an operator has two shapes to join
    pub midway_two : is_operator (get_or ws i 0) ≡ true → 2 ≤ length pending
    midway_two o = two_pending (here m h) o

  pub midway_join : {pending : List A} {x y : A} {i : ℕ} → Midway of_leaf of_node names ws (y ∷ x ∷ pending) i → i < length ws →
      is_operator (get_or ws i 0) ≡ true → Midway of_leaf of_node names ws (of_node (operator_of (get_or ws i 0)) x y ∷ pending) (i + 1)
  midway_join m h o = record { read = omega arith; few = omega (arith, m.few); onward = join_next (here m h) o }

-- n shapes pending, the last one apart as `top`, the others in an array, from its place n − 1 down to 1; `d` stands past its end
module _ {A : Type 0} (d : A) where
  abbrev below : List A → ℕ → List A
  below array zero = []
  below array (suc n) = get_or array (suc n) d ∷ below array n

  abbrev pending_in : List A → A → ℕ → List A
  pending_in array top zero = []
  pending_in array top (suc n) = top ∷ below array n

  length_below : (array : List A) (n : ℕ) → length (below array n) ≡ n
  length_below array zero = refl
  length_below array (suc n) = ap suc (length_below array n)

  length_pending : (array : List A) (top : A) (n : ℕ) → length (pending_in array top n) ≡ n
  length_pending array top zero = refl
  length_pending array top (suc n) = ap suc (length_below array n)

  -- a store above n is not seen
  below_kept : (array : List A) (n k : ℕ) (x : A) → n < k → below (set array k x) n ≡ below array n
  below_kept array zero k x h = refl
  below_kept array (suc n) k x h = rw (get_or-set_other array k (suc n) x d (omega arith), below_kept array n k x (omega arith))

  pending_push : (array : List A) (top : A) (n : ℕ) (x : A) → n < length array → pending_in (set array n top) x (n + 1) ≡ x ∷ pending_in array top n
  pending_push array top zero x h = refl
  pending_push array top (suc n) x h = rw (add-one, get_or-set_same array (suc n) top d h, below_kept array n (suc n) top (omega arith))

  pending_two : (array : List A) (top : A) (n : ℕ) → 2 ≤ n → pending_in array top n ≡ top ∷ get_or array (n - 1) d ∷ below array (n - 2)
  pending_two array top zero h = absurd (omega arith)
  pending_two array top (suc zero) h = absurd (omega arith)
  pending_two array top (suc (suc n)) h =
      let last : suc (suc n) - 1 ≡ suc n = omega arith in
      let rest : suc (suc n) - 2 ≡ n = omega arith in
      rw (last, rest)

  pending_join : (array : List A) (n : ℕ) (x : A) → 2 ≤ n → pending_in array x (n - 1) ≡ x ∷ below array (n - 2)
  pending_join array n x h = let e : n - 1 ≡ suc (n - 2) = omega arith in rw e

-- an evaluation over an array of 32, which has read i words and holds n shapes pending
pub record Evaluating {A : Type 0} (of_leaf : Leaf → A) (of_node : Operator → A → A → A) (names : Named) (ws : List ℕ)
    (d : A) (array : List A) (top : A) (n i : ℕ) : Type 0 where
  pub few : n ≤ most_pending
  pub long : length array ≡ most_pending
  pub midway : Midway of_leaf of_node names ws (pending_in d array top n) i

module _ {A : Type 0} {of_leaf : Leaf → A} {of_node : Operator → A → A → A} {names : Named} {ws : List ℕ} {d : A} where
  pub evaluating_start : (array : List A) (top : A) → length array ≡ most_pending → tree_refusal names ws ≡ 0 → Evaluating of_leaf of_node names ws d array top 0 0
  evaluating_start array top e accepted = record { few = omega arith; long = e; midway = midway_start accepted }

  module _ {array : List A} {top : A} {n i : ℕ} (v : Evaluating of_leaf of_node names ws d array top n i) where
    -- at the end exactly one is pending, and it is the meaning of the tree
    pub evaluating_end : length ws ≤ i → top ≡ fold of_leaf of_node (tree_of names ws)
    evaluating_end h =
        let e = midway_end v.midway h in
        let one : n ≡ 1 = omega (arith, length_pending d array top n, ap length e) in
        let f : pending_in d array top 1 ≡ fold of_leaf of_node (tree_of names ws) ∷ [] = rw one at e in
        cc

    module _ (h : i < length ws) where
      pub evaluating_leaf : is_operator (get_or ws i 0) ≡ false → is_leaf names (get_or ws i 0) ≡ true
      evaluating_leaf o = midway_leaf v.midway h o

      pub evaluating_room : is_operator (get_or ws i 0) ≡ false → n < most_pending
      evaluating_room o = rw (length_pending d array top n) at (midway_room v.midway h o)

      pub evaluating_push : is_operator (get_or ws i 0) ≡ false → (x : A) → x ≡ of_leaf (leaf_of (get_or ws i 0)) →
          Evaluating of_leaf of_node names ws d (set array n top) x (n + 1) (i + 1)
      evaluating_push o x e =
          let r = evaluating_room o in
          record {
            few = omega arith;
            long = simp length-set v.long;
            midway = rw (pending_push d array top n x (omega (arith, v.long)), e) (midway_push v.midway h o);
          }

      pub evaluating_two : is_operator (get_or ws i 0) ≡ true → 2 ≤ n
      evaluating_two o = rw (length_pending d array top n) at (midway_two v.midway h o)

      pub evaluating_join : is_operator (get_or ws i 0) ≡ true → (x : A) → x ≡ of_node (operator_of (get_or ws i 0)) (get_or array (n - 1) d) top →
          Evaluating of_leaf of_node names ws d array x (n - 1) (i + 1)
      evaluating_join o x e =
          let r = evaluating_two o in
          record {
            few = omega (arith, v.few);
            long = v.long;
            midway = rw (pending_join d array n x r, e) (midway_join (rw (pending_two d array top n r) at v.midway) h o);
          }

      -- past the last word stands no operator
      pub evaluating_there : is_operator (get_or ws (i + 1) 0) ≡ true → i + 1 < length ws
      evaluating_there p = by (dec_lt (i + 1) (length ws))
        where
          by : Dec (i + 1 < length ws) → i + 1 < length ws
          by (yes l) = l
          by (no l) =
              let z : get_or ws (i + 1) 0 ≡ 0 = get_or-eq_default ws 0 {n = i + 1} (omega arith) in
              absurd (false≢true (rw z at p))

      -- a leaf that an operator follows may be joined at once: nothing is stored
      pub evaluating_both : is_operator (get_or ws i 0) ≡ false → is_operator (get_or ws (i + 1) 0) ≡ true → (x y : A) → x ≡ of_leaf (leaf_of (get_or ws i 0)) →
          y ≡ of_node (operator_of (get_or ws (i + 1) 0)) top x → Evaluating of_leaf of_node names ws d array y n (i + 2)
      evaluating_both o p x y e f =
          let m = midway_push v.midway h o in
          record { few = v.few; long = v.long; midway = joined n m (omega (arith, midway_two m (evaluating_there p) p, length_pending d array top n)) }
        where
          joined : (k : ℕ) → Midway of_leaf of_node names ws (of_leaf (leaf_of (get_or ws i 0)) ∷ pending_in d array top k) (i + 1) → 1 ≤ k →
              Midway of_leaf of_node names ws (pending_in d array y k) (i + 2)
          joined zero m l = absurd (omega arith)
          joined (suc k) m l = let z : i + 2 ≡ i + 1 + 1 = omega arith in rw (z, f, e) (midway_join m (evaluating_there p) p)
