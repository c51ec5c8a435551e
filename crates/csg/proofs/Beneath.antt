-- Words read over shapes that stay pending beneath them. Words that are read from nothing pending leave over anything what they leave by themselves, since no
-- operator of theirs reaches further down. So in A A MINUS both A leave one shape, the same one, and the tree is that shape MINUS itself.
use Prim.Native.Nat.{ℕ}
use native.Mathlib.Omega.{arith}
use mathlib.Core.Path.{◌≡◌, refl, sym, ap, ◌∙◌}
use mathlib.Core.Bool.{true, false, false≢true}
use mathlib.Core.List.{List, [], ◌∷◌, ◌++◌}
use lib.ListN.{length, length-append}
use Rattle.csg.specs.Surfaces.{Named}
use Rattle.csg.specs.Tree.{Leaf, Operator, minus, Tree, leaf, node}
use Rattle.csg.specs.Words.{minus_word, minus_itself, is_operator, operator_of, leaf_of, tree_refusal, tree_of}
use Rattle.csg.proofs.Words.{Reads, pushed, joined, reads, accepted_tree, left_one, two_pending, join_next}

-- words lead from what is pending before them to what is pending after them
data Leads {A : Type 0} (of_leaf : Leaf → A) (of_node : Operator → A → A → A) : List ℕ → List A → List A → Type 0 where
  stays : {pending : List A} → Leads of_leaf of_node [] pending pending
  pushes : {w : ℕ} {ws : List ℕ} {pending after : List A} → is_operator w ≡ false →
      Leads of_leaf of_node ws (of_leaf (leaf_of w) ∷ pending) after → Leads of_leaf of_node (w ∷ ws) pending after
  joins : {w : ℕ} {ws : List ℕ} {pending after : List A} {a b : A} → is_operator w ≡ true →
      Leads of_leaf of_node ws (of_node (operator_of w) a b ∷ pending) after → Leads of_leaf of_node (w ∷ ws) (b ∷ a ∷ pending) after

module _ {A : Type 0} {of_leaf : Leaf → A} {of_node : Operator → A → A → A} where
  -- words behind others go on with what those leave pending
  goes_on : {names : Named} (xs ys : List ℕ) {pending : List A} {a : A} → Reads of_leaf of_node names (xs ++ ys) pending a →
      (after : List A) × Leads of_leaf of_node xs pending after × Reads of_leaf of_node names ys after a
  goes_on [] ys r = (_, stays, r)
  goes_on (x ∷ xs) ys (pushed o l g r) = let m = goes_on xs ys r in (m.0, pushes o m.1, m.2)
  goes_on (x ∷ xs) ys (joined o r) = let m = goes_on xs ys r in (m.0, joins o m.1, m.2)

  -- what is beneath stays there
  over : {ws : List ℕ} {pending after whole end : List A} (beneath : List A) → Leads of_leaf of_node ws pending after → Leads of_leaf of_node ws whole end →
      whole ≡ pending ++ beneath → end ≡ after ++ beneath
  over beneath stays stays e = e
  over beneath (pushes {w} o m) (pushes p n) e = over beneath m n (ap (λ t. of_leaf (leaf_of w) ∷ t) e)
  over beneath (pushes o m) (joins p n) e = absurd (false≢true (sym o ∙ p))
  over beneath (joins o m) (pushes p n) e = absurd (false≢true (sym p ∙ o))
  over beneath (joins o m) (joins p n) e = over beneath m n cc

module _ {names : Named} where
  -- MINUS behind the same shapes twice: it was one shape
  last_minus : (shapes : List Tree) {t : Tree} → Reads leaf node names (minus_word ∷ []) (shapes ++ shapes) t → (a : Tree) × (t ≡ node minus a a)
  last_minus [] r = absurd (omega (arith, two_pending r refl))
  last_minus (a ∷ []) r = (a, let e = left_one (join_next r refl) refl in cc)
  last_minus (b ∷ a ∷ shapes) r = absurd (omega (arith, ap length (left_one (join_next r refl) refl), length-append shapes (b ∷ a ∷ shapes)))

-- THEOREM: where A A MINUS is accepted, its tree is a tree MINUS itself
pub tree_minus_itself : (names : Named) (ws : List ℕ) → tree_refusal names (minus_itself ws) ≡ 0 → (a : Tree) × (tree_of names (minus_itself ws) ≡ node minus a a)
tree_minus_itself names ws accepted =
    let one = goes_on ws (ws ++ (minus_word ∷ [])) (reads (minus_itself ws) [] _ (accepted_tree names (minus_itself ws) accepted)) in
    let two = goes_on ws (minus_word ∷ []) one.2 in
    last_minus one.0 (rw (over one.0 one.1 two.1 refl) at two.2)
