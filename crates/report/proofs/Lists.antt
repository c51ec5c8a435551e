-- Lists of expressions, by what stands at a place: nothing more, no tree, or a tree and the list behind it. `Follow u s n p list`: these shapes, at most n,
-- follow each other in s from place p to its end; it is what `list_from` finds, both ways round. Last, the laws of `check_list`.
use mathlib.Core.Path.{◌≡◌, refl, sym, ap, ◌∙◌}
use mathlib.Core.List.{List, [], ◌∷◌}
use Rattle.std.specs.Prelude.{Option, Some, None}
use Prim.Native.Nat.{ℕ, zero, suc, ◌+◌, ◌-◌, ◌≤◌, ◌<◌}
use native.Mathlib.Decide.{ℕ_discrete}
use native.Mathlib.Omega.{arith}
use borrow.Author.Tests.{eq-eqb, ne_eqb}
use lib.ListN.{length}
use Rattle.universe.specs.declared.Universe.{Universe}
use Rattle.universe.specs.Refusals.{bad_expression}
use Rattle.universe.specs.Universe.{universe_refusal, levels}
use Rattle.bintree.specs.Shape.{Shape, size, depth}
use Rattle.bintree.specs.Reading.{Reading, none, read, read_at}
use Rattle.bintree.specs.Walks.{tree_end}
use Rattle.bintree.proofs.Shape.{size_positive}
use Rattle.bintree.proofs.Reading.{stands, inside, depth_stands}
use Rattle.bintree.proofs.Walks.{end_none, end_some}
use Rattle.report.specs.Lists.{most_expressions, Listing, unread, shapes, with_first, list_from, list_of, shapes_of, listing_refusal, list_refusal}

module _ (u : Universe) (s : List ℕ) where
  list_end : (n p : ℕ) → p ≡ length s → list_from u s n p ≡ shapes []
  unfolding list_from
  list_end zero p e = rw (eq-eqb p (length s) e)
  list_end (suc n) p e = rw (list_from, eq-eqb p (length s) e)

  module _ (p : ℕ) (h : p ≡ length s → ⊥) where
    list_over : list_from u s 0 p ≡ unread
    unfolding list_from
    list_over = rw (ne_eqb p (length s) h)

    list_none : (n : ℕ) → read_at s (levels u) p ≡ none → list_from u s (suc n) p ≡ unread
    unfolding list_from
    list_none n e = rw (list_from, ne_eqb p (length s) h, e)

    list_more : (n : ℕ) (a : Shape) → read_at s (levels u) p ≡ read a → list_from u s (suc n) p ≡ with_first a (list_from u s n (p + size a))
    unfolding list_from
    list_more n a e = rw (list_from, ne_eqb p (length s) h, e)

  -- the place after a tree is inside
  tree_inside : (p : ℕ) (a : Shape) → read_at s (levels u) p ≡ read a → p + size a ≤ length s
  tree_inside p a e = inside (stands s (levels u) p a e)

same_refusal : (a : Shape) (x : Listing) → listing_refusal (with_first a x) ≡ listing_refusal x
unfolding with_first
same_refusal a unread = refl
same_refusal a (shapes list) = refl

with_first_lem : (a : Shape) (x : Listing) (list : List Shape) → with_first a x ≡ shapes list → (rest : List Shape) × (x ≡ shapes rest) × (list ≡ a ∷ rest)
unfolding with_first
with_first_lem a unread list e = let z : ◌≡◌ {A = ℕ} 0 1 = cc in absurd (omega arith)
with_first_lem a (shapes rest) list e = (rest, refl, cc)

first_with : (a : Shape) (x : Listing) (list : List Shape) → x ≡ shapes list → with_first a x ≡ shapes (a ∷ list)
unfolding with_first
first_with a x list e = rw e

-- ---- shapes that follow each other
pub data Follow (u : Universe) (s : List ℕ) : ℕ → ℕ → List Shape → Type 0 where
  nothing_follows : {n p : ℕ} → p ≡ length s → Follow u s n p []
  tree_follows : {n p : ℕ} {a : Shape} {list : List Shape} → read_at s (levels u) p ≡ read a → Follow u s n (p + size a) list → Follow u s (suc n) p (a ∷ list)

module _ (u : Universe) (s : List ℕ) where
  pub follow : (n p : ℕ) (list : List Shape) → list_from u s n p ≡ shapes list → Follow u s n p list
  follow zero p list e = go (ℕ_discrete p (length s))
    where
      go : Dec (p ≡ length s) → Follow u s 0 p list
      go (yes h) = let f = list_end u s 0 p h in let g : list ≡ [] = cc in rw g (nothing_follows h)
      go (no h) = let f = list_over u s p h in let z : ◌≡◌ {A = ℕ} 0 1 = cc in absurd (omega arith)
  follow (suc n) p list e = go (ℕ_discrete p (length s)) (λ q more f. follow n q more f)
    where
      more : (p ≡ length s → ⊥) → ((q : ℕ) (more : List Shape) → list_from u s n q ≡ shapes more → Follow u s n q more) →
          (x : Reading) → read_at s (levels u) p ≡ x → Follow u s (suc n) p list
      more h ih none f = let g = list_none u s p h n f in let z : ◌≡◌ {A = ℕ} 0 1 = cc in absurd (omega arith)
      more h ih (read a) f =
          let w = with_first_lem a (list_from u s n (p + size a)) list (sym (list_more u s p h n a f) ∙ e) in
          rw w.2 (tree_follows f (ih (p + size a) w.0 w.1))

      go : Dec (p ≡ length s) → ((q : ℕ) (more : List Shape) → list_from u s n q ≡ shapes more → Follow u s n q more) → Follow u s (suc n) p list
      go (yes h) ih = let f = list_end u s (suc n) p h in let g : list ≡ [] = cc in rw g (nothing_follows h)
      go (no h) ih = more h ih (read_at s (levels u) p) refl

pub followed : {u : Universe} {s : List ℕ} {n p : ℕ} {list : List Shape} → Follow u s n p list → list_from u s n p ≡ shapes list
followed {u} {s} (nothing_follows {n = n} {p = p} e) = list_end u s n p e
followed {u} {s} (tree_follows {n = n} {p = p} {a = a} {list = list} r f) =
    let h : p < length s = omega (arith, tree_inside u s p a r, size_positive a) in
    list_more u s p (λ e. omega arith) n a r ∙ first_with a (list_from u s n (p + size a)) list (followed f)

-- THEOREM: they are no more than there may be, and none is deeper than the universe has levels
pub data Fit (n : ℕ) : List Shape → Type 0 where
  none_fits : Fit n []
  one_fits : {a : Shape} {list : List Shape} → depth a ≤ n → Fit n list → Fit n (a ∷ list)

pub follow_few : {u : Universe} {s : List ℕ} {n p : ℕ} {list : List Shape} → Follow u s n p list → length list ≤ n
follow_few (nothing_follows e) = omega arith
follow_few (tree_follows r f) = let h = follow_few f in omega arith

pub follow_fit : {u : Universe} {s : List ℕ} {n p : ℕ} {list : List Shape} → Follow u s n p list → Fit (levels u) list
follow_fit (nothing_follows e) = none_fits
follow_fit {u} {s} (tree_follows {p = p} {a = a} r f) = one_fits (depth_stands (stands s (levels u) p a r)) (follow_fit f)

-- the list of bytes that are accepted
pub whole_list : (u : Universe) (s : List ℕ) → list_refusal u s ≡ 0 → Follow u s most_expressions 0 (shapes_of (list_of u s))
unfolding list_refusal list_of
whole_list u s e = go (list_of u s) refl
  where
    go : (x : Listing) → list_of u s ≡ x → Follow u s most_expressions 0 (shapes_of x)
    go unread f = absurd (omega (arith, ap listing_refusal f))
    go (shapes list) f = follow u s most_expressions 0 list f

-- the first of them, where there is more
pub record Onward (u : Universe) (s : List ℕ) (n p : ℕ) (list : List Shape) : Type 0 where
  pub more : ℕ
  pub some : n ≡ suc more
  pub shape : Shape
  pub reads : read_at s (levels u) p ≡ read shape
  pub within : p + size shape ≤ length s
  pub rest : List Shape
  pub are : list ≡ shape ∷ rest
  pub behind : Follow u s more (p + size shape) rest

pub onward : {u : Universe} {s : List ℕ} {n p : ℕ} {list : List Shape} → Follow u s n p list → p < length s → Onward u s n p list
onward (nothing_follows e) h = absurd (omega arith)
onward {u} {s} (tree_follows {n = n} {p = p} {a = a} {list = list} r f) h =
    record { more = n; some = refl; shape = a; reads = r; within = tree_inside u s p a r; rest = list; are = refl; behind = f }

pub no_more : {u : Universe} {s : List ℕ} {n p : ℕ} {list : List Shape} → Follow u s n p list → length s ≤ p → list ≡ []
no_more (nothing_follows e) h = refl
no_more {u} {s} (tree_follows {p = p} {a = a} r f) h = absurd (omega (arith, tree_inside u s p a r, size_positive a))

-- ---- the laws of `check_list`: what is told of the list of at most `more` expressions from place p on is what is asked
pub record Judging (u : Universe) (s : List ℕ) (p more : ℕ) : Type 0 where
  pub accepts : universe_refusal u ≡ 0
  pub within : p ≤ length s
  pub tells : listing_refusal (list_from u s more p) ≡ list_refusal u s

pub judging_first : (u : Universe) (s : List ℕ) → universe_refusal u ≡ 0 → Judging u s 0 most_expressions
unfolding list_refusal list_of
judging_first u s ok = record { accepts = ok; within = omega arith; tells = refl }

module _ (u : Universe) (s : List ℕ) (p more : ℕ) (j : Judging u s p more) where
  pub judging_end : p ≡ length s → 0 ≡ list_refusal u s
  judging_end h = sym (ap listing_refusal (list_end u s more p h)) ∙ j.tells

  module _ (there : p ≡ length s → ⊥) where
    pub judging_over : more ≡ 0 → bad_expression ≡ list_refusal u s
    judging_over z = sym (ap listing_refusal (ap (λ n. list_from u s n p) z ∙ list_over u s p there)) ∙ j.tells

    module _ (some : 0 < more) (end : Option ℕ) (e : end ≡ tree_end u s p) where
      again : more ≡ suc (more - 1)
      again = omega arith

      pub judging_none : end ≡ None → bad_expression ≡ list_refusal u s
      judging_none z =
          sym (ap listing_refusal (ap (λ n. list_from u s n p) again ∙ list_none u s p there (more - 1) (end_none u j.accepts s p end e z))) ∙ j.tells

      pub judging_next : (q : ℕ) → end ≡ Some q → Judging u s q (more - 1)
      judging_next q z =
          let w = end_some u j.accepts s p end e q z in
          let a = w.shape in
          record {
            accepts = j.accepts;
            within = omega (arith, w.after, tree_inside u s p a w.is);
            tells =
                ap (λ i. listing_refusal (list_from u s (more - 1) i)) w.after
                ∙ sym (same_refusal a (list_from u s (more - 1) (p + size a)))
                ∙ sym (ap listing_refusal (ap (λ m. list_from u s m p) again ∙ list_more u s p there (more - 1) a w.is))
                ∙ j.tells;
          }
