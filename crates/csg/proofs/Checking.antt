-- What the check of a tree and the counts of its words cite. The check keeps the number of shapes pending alone: that is the machine with
-- no meaning at all, and what is left of the words decides. A count keeps those of the words read that are among so many from the first on.
use Prim.Native.Nat.{ℕ, zero, suc, ◌+◌, ◌-◌, ◌≤◌, ◌<◌}
use native.Mathlib.Omega.{arith}
use native.Mathlib.Numerals.{add-one, sub-one}
use mathlib.Core.Path.{◌≡◌, refl, sym, ap, ◌∙◌}
use mathlib.Core.Bool.{true, false}
use mathlib.Core.List.{List, [], ◌∷◌}
use lib.ListN.{length, get_or, drop, replicate, length-replicate, drop_of_length-le}
use borrow.Author.Tests.{le-ltb}
use Rattle.universe.specs.Refusals.{bad_tree, overfull_tree}
use Rattle.csg.specs.Surfaces.{Named}
use Rattle.csg.specs.Tree.{Leaf, Operator, leaf, node}
use Rattle.csg.specs.Words.{most_words, most_pending, is_among, is_operator, is_leaf, Outcome, refused, made, map_outcome}
use Rattle.csg.specs.Words.{finish, run, fold, parse, outcome_refusal, tree_refusal, count_words}
use Rattle.csg.proofs.Words.{next, on_leaf, on_full, on_operator, on_few, on_unknown, run_parse}

-- the refusal by the number of shapes pending alone: the machine with no meaning at all
abbrev blank_leaf : Leaf → Unit {0}
blank_leaf l = tt {0}

abbrev blank_node : Operator → Unit {0} → Unit {0} → Unit {0}
blank_node o a b = tt {0}

abbrev blanks : ℕ → List (Unit {0})
blanks n = replicate n (tt {0})

abbrev pub refusal_from : Named → List ℕ → ℕ → ℕ
refusal_from names ws n = outcome_refusal (run blank_leaf blank_node names ws (blanks n))

-- i words are read and n shapes are pending: what is left decides
pub record Counting (names : Named) (ws : List ℕ) (n i : ℕ) : Type 0 where
  pub read : i ≤ length ws
  pub few : n ≤ most_pending
  pub same : tree_refusal names ws ≡ refusal_from names (drop i ws) n

kept_refusal : {A B : Type 0} (f : A → B) (o : Outcome A) → outcome_refusal (map_outcome f o) ≡ outcome_refusal o
kept_refusal f (refused fault) = refl
kept_refusal f (made a) = refl

pub counting_start : (names : Named) (ws : List ℕ) → length ws ≤ most_words → Counting names ws 0 0
unfolding tree_refusal parse
counting_start names ws h =
    record {
      read = omega arith;
      few = omega arith;
      same =
          rw (le-ltb most_words (length ws) h, ap outcome_refusal (run_parse blank_leaf blank_node names ws))
          (sym (kept_refusal (fold blank_leaf blank_node) (run leaf node names ws [])));
    }

module _ {names : Named} {ws : List ℕ} {n i : ℕ} (m : Counting names ws n i) where
  ended_is : length ws ≤ i → tree_refusal names ws ≡ refusal_from names [] n
  ended_is h = m.same ∙ ap (λ (v : List ℕ). refusal_from names v n) (drop_of_length-le ws {i = i} h)

  pub counting_one : length ws ≤ i → n ≡ 1 → tree_refusal names ws ≡ 0
  unfolding run finish
  counting_one h e = ended_is h ∙ ap (refusal_from names []) e

  pub counting_not_one : length ws ≤ i → (n ≡ 1 → ⊥) → tree_refusal names ws ≡ bad_tree
  unfolding run finish
  counting_not_one h e = ended_is h ∙ by n e
    where
      by : (k : ℕ) → (k ≡ 1 → ⊥) → refusal_from names [] k ≡ bad_tree
      by zero f = refl
      by (suc zero) f = absurd (f refl)
      by (suc (suc k)) f = refl

  module _ (h : i < length ws) where
    here_is : tree_refusal names ws ≡ refusal_from names (get_or ws i 0 ∷ drop (i + 1) ws) n
    here_is = m.same ∙ ap (λ (v : List ℕ). refusal_from names v n) (next ws i h)

    pub counting_unknown : is_operator (get_or ws i 0) ≡ false → is_leaf names (get_or ws i 0) ≡ false → tree_refusal names ws ≡ bad_tree
    counting_unknown o l = here_is ∙ ap outcome_refusal (on_unknown blank_leaf blank_node names _ _ (blanks n) o l)

    pub counting_full : is_operator (get_or ws i 0) ≡ false → is_leaf names (get_or ws i 0) ≡ true → most_pending ≤ n → tree_refusal names ws ≡ overfull_tree
    counting_full o l g = here_is ∙ ap outcome_refusal (on_full blank_leaf blank_node names _ _ (blanks n) o l (rw length-replicate g))

    pub counting_push : is_operator (get_or ws i 0) ≡ false → is_leaf names (get_or ws i 0) ≡ true → n < most_pending → Counting names ws (n + 1) (i + 1)
    counting_push o l g =
        record {
          read = omega arith;
          few = omega arith;
          same = here_is ∙ rw (add-one n) (ap outcome_refusal (on_leaf blank_leaf blank_node names _ _ (blanks n) o l (rw length-replicate g)));
        }

    pub counting_few : is_operator (get_or ws i 0) ≡ true → n < 2 → tree_refusal names ws ≡ bad_tree
    counting_few o g = here_is ∙ ap outcome_refusal (on_few blank_leaf blank_node names _ _ (blanks n) o (rw length-replicate g))

    pub counting_join : is_operator (get_or ws i 0) ≡ true → 2 ≤ n → Counting names ws (n - 1) (i + 1)
    counting_join o g = record { read = omega arith; few = omega (arith, m.few); same = here_is ∙ by n g }
      where
        by : (k : ℕ) → 2 ≤ k → refusal_from names (get_or ws i 0 ∷ drop (i + 1) ws) k ≡ refusal_from names (drop (i + 1) ws) (k - 1)
        by zero f = absurd (omega arith)
        by (suc zero) f = absurd (omega arith)
        by (suc (suc k)) f = rw sub-one (ap outcome_refusal (on_operator blank_leaf blank_node names _ _ (tt {0}) (tt {0}) (blanks k) o))

-- the count of the words among those: i words are read, and n of them were
pub record NamesSofar (first most : ℕ) (ws : List ℕ) (n i : ℕ) : Type 0 where
  pub read : i ≤ length ws
  pub few : n ≤ i
  pub same : count_words first most ws ≡ n + count_words first most (drop i ws)

pub names_start : (first most : ℕ) (ws : List ℕ) → NamesSofar first most ws 0 0
names_start first most ws = record { read = omega arith; few = omega arith; same = omega arith }

module _ {first most : ℕ} {ws : List ℕ} {n i : ℕ} (m : NamesSofar first most ws n i) where
  pub names_end : length ws ≤ i → n ≡ count_words first most ws
  unfolding count_words
  names_end h = omega (arith, m.same, ap (count_words first most) (drop_of_length-le ws {i = i} h))

  module _ (h : i < length ws) where
    pub names_more : is_among first most (get_or ws i 0) ≡ true → NamesSofar first most ws (n + 1) (i + 1)
    unfolding count_words
    names_more t =
        let e = rw (ap (count_words first most) (next ws i h), t) at m.same in
        record { read = omega arith; few = omega (arith, m.few); same = omega arith }

    pub names_same : is_among first most (get_or ws i 0) ≡ false → NamesSofar first most ws n (i + 1)
    unfolding count_words
    names_same t =
        let e = rw (ap (count_words first most) (next ws i h), t) at m.same in
        record { read = omega arith; few = omega (arith, m.few); same = omega arith }
