-- The merged text of an expression is the expression of the merged shape, and expressions are read in one way only. A text is a well-formed expression of a
-- universe where a shape of at most its levels spells it (`Spelt`).
use mathlib.Core.Path.{◌≡◌, refl, sym, ap, subst, ◌∙◌}
use mathlib.Core.List.{List, [], ◌∷◌, ◌++◌, append_assoc, append-nil}
use Prim.Native.Nat.{ℕ, ◌≤◌, max}
use native.Mathlib.Nat.{le-max_left, le-max_right}
use lib.ListN.{length, take, drop, take-append-drop}
use lib.Seq.{drop-append_seam}
use Rattle.universe.specs.declared.Universe.{Universe}
use Rattle.universe.specs.Universe.{levels}
use Rattle.bintree.specs.declared.Colour.{Colour}
use Rattle.bintree.specs.declared.Colour.TheVariants.{White, Black}
use Rattle.bintree.specs.Shape.{Shape, leaf, halved, open_symbol, symbol_of, symbols, depth}
use Rattle.bintree.specs.Reading.{read_at, expression_refusal}
use Rattle.bintree.specs.Merging.{join, merged, merged_symbols}
use Rattle.bintree.proofs.Reading.{read_symbols_lem, reads_back, read_is, shape_accepted, accepted_shape}
use Rattle.held.specs.Held.{in_front, merged_text, Begins}

-- ---- a symbol in front of a merged text

pub front_leaf : (c : Colour) (m : List ℕ) → in_front (symbol_of c) m ≡ symbol_of c ∷ m
unfolding in_front
front_leaf c [] = refl
front_leaf c (y ∷ []) = refl
front_leaf Black (y ∷ z ∷ m) = refl
front_leaf White (y ∷ z ∷ m) = refl

pub front_open : (m : List ℕ) → in_front open_symbol (open_symbol ∷ m) ≡ open_symbol ∷ open_symbol ∷ m
unfolding in_front
front_open [] = refl
front_open (z ∷ m) = refl

pub front_pair : (c : Colour) (m : List ℕ) → in_front open_symbol (symbol_of c ∷ symbol_of c ∷ m) ≡ symbol_of c ∷ m
unfolding in_front
front_pair Black m = refl
front_pair White m = refl

pub front_leaf_open : (c : Colour) (m : List ℕ) → in_front open_symbol (symbol_of c ∷ open_symbol ∷ m) ≡ open_symbol ∷ symbol_of c ∷ open_symbol ∷ m
unfolding in_front
front_leaf_open Black m = refl
front_leaf_open White m = refl

front_join : (a b : Shape) (m : List ℕ) → in_front open_symbol (symbols a ++ (symbols b ++ m)) ≡ symbols (join a b) ++ m
unfolding in_front symbols join
front_join (leaf Black) (leaf Black) m = refl
front_join (leaf White) (leaf White) m = refl
front_join (leaf Black) (leaf White) m = refl
front_join (leaf White) (leaf Black) m = refl
front_join (leaf c) (halved a b) m = front_leaf_open c ((symbols a ++ symbols b) ++ m)
front_join (halved u v) b m = front_open ((symbols u ++ symbols v) ++ (symbols b ++ m)) ∙ simp append_assoc

-- THEOREM: an expression in front is merged by itself
pub merged_before : (s : Shape) (t : List ℕ) → merged_text (symbols s ++ t) ≡ symbols (merged s) ++ merged_text t
unfolding symbols merged merged_text
merged_before (leaf c) t = front_leaf c (merged_text t)
merged_before (halved a b) t =
    ap (λ z. in_front open_symbol (merged_text z)) (append_assoc (symbols a) (symbols b) t)
    ∙ ap (in_front open_symbol) (merged_before a (symbols b ++ t))
    ∙ ap (λ z. in_front open_symbol (symbols (merged a) ++ z)) (merged_before b t)
    ∙ front_join (merged a) (merged b) (merged_text t)

pub merged_symbols_lem : (s : Shape) → merged_text (symbols s) ≡ symbols (merged s)
unfolding merged_text
merged_symbols_lem s = ap merged_text (sym (append-nil (symbols s))) ∙ merged_before s [] ∙ append-nil (symbols (merged s))

-- ---- well-formed expressions, by shapes

pub record Spelt (u : Universe) (t : List ℕ) : Type 0 where
  pub shape : Shape
  pub is : t ≡ symbols shape
  pub deep : depth shape ≤ levels u
  pub merges : merged_symbols u t ≡ symbols (merged shape)

pub spelt : (u : Universe) (t : List ℕ) → expression_refusal u t ≡ 0 → Spelt u t
spelt u t e =
    let x = accepted_shape u t e in
    let w = read_is u t x.0 x.1 in
    record { shape = x.0; is = sym w.0; deep = w.1; merges = rw x.1 }

module _ (u : Universe) (s : Shape) (deep : depth s ≤ levels u) {t : List ℕ} (e : t ≡ symbols s) where
  pub spelt_accepted : expression_refusal u t ≡ 0
  spelt_accepted = ap (expression_refusal u) e ∙ shape_accepted u (symbols s) s (reads_back u s deep)

  pub spelt_merges : merged_symbols u t ≡ symbols (merged s)
  spelt_merges = ap (merged_symbols u) e ∙ rw (reads_back u s deep)

-- ---- unique reading

pub record Read (a b : Shape) (s t : List ℕ) : Type 0 where
  pub shape : a ≡ b
  pub rest : s ≡ t

pub read_once : (a b : Shape) (s t : List ℕ) → symbols a ++ s ≡ symbols b ++ t → Read a b s t
read_once a b s t e =
    let n = max (depth a) (depth b) in
    let x = read_symbols_lem n a s (le-max_left (depth a) (depth b)) in
    let y = read_symbols_lem n b t (le-max_right (depth a) (depth b)) in
    let z = ap (λ l. read_at l n 0) e in
    let d : a ≡ b = cc in
    let f : symbols a ++ s ≡ symbols a ++ t = e ∙ ap (λ k. symbols k ++ t) (sym d) in
    record { shape = d; rest = sym (drop-append_seam (symbols a) s) ∙ ap (drop (length (symbols a))) f ∙ drop-append_seam (symbols a) t }

-- ---- beginnings

pub begins_append : (x y : List ℕ) {z : List ℕ} → Begins (x ++ y) z → Begins x z
begins_append x y b = record { rest = y ++ b.rest; is = b.is ∙ append_assoc x y b.rest }

pub begins_take : {x z : List ℕ} (n : ℕ) → Begins x z → Begins (take n x) z
begins_take {x} {z} n b = begins_append (take n x) (drop n x) (subst (λ k. Begins k z) (sym (take-append-drop n x)) b)
