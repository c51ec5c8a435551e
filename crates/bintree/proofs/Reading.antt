-- Reading and writing expressions are each other's inverse. `Stands s n p a`: the symbols of a, which is at most n levels deep, stand in s from
-- place p on. It is what `read_at` finds, both ways round; the rest is by induction over it.
use mathlib.Core.Logic.{◌⊎◌, inl, inr}
use mathlib.Core.Path.{◌≡◌, refl, sym, ap, ◌∙◌}
use mathlib.Core.Bool.{Bool, true, false, cond}
use mathlib.Core.List.{List, [], ◌∷◌, ◌++◌, append_assoc, append-nil}
use Prim.Native.Nat.{ℕ, zero, suc, ◌+◌, ◌-◌, ◌≤◌, ◌<◌, max, suc-le-suc}
use native.Mathlib.Nat.{max-le, le-max_left, le-max_right}
use native.Mathlib.Decide.{ℕ_discrete, dec_lt}
use native.Mathlib.Omega.{arith}
use borrow.Author.Tests.{eq-eqb, ne_eqb, eqb-true}
use lib.Dec.{eqb}
use lib.ListN.{length, get_or, take, drop, get_or-eq_default}
use lib.Seq.{drop-cons, take-add, drop-drop, get_or-drop, drop_at, take-length}
use Rattle.universe.specs.declared.Universe.{Universe}
use Rattle.universe.specs.Universe.{levels}
use Rattle.bintree.specs.declared.Colour.{Colour}
use Rattle.bintree.specs.declared.Colour.TheVariants.{White, Black}
use Rattle.bintree.specs.Shape.{Shape, leaf, halved, open_symbol, symbol_of, symbols, size, depth}
use Rattle.bintree.specs.Reading.{Reading, none, read, read_leaf, with_high, read_halves, read_at, exactly, expression, reading_refusal, expression_refusal}
use Rattle.bintree.proofs.Shape.{length_symbols, depth_low, depth_high, halved_deep, symbol_not_zero, symbol_not_open}

-- what is read at a place, by the symbol there
pub leaf_read : (c : Colour) → read_leaf (symbol_of c) ≡ read (leaf c)
unfolding read_leaf
leaf_read Black = refl
leaf_read White = refl

pub other_leaf : (x : ℕ) → (x ≡ symbol_of Black → ⊥) → (x ≡ symbol_of White → ⊥) → read_leaf x ≡ none
unfolding read_leaf
other_leaf x h k = rw (ne_eqb x (symbol_of Black) h, ne_eqb x (symbol_of White) k)

-- a symbol of either colour
pub either_colour : {x : ℕ} → (x ≡ symbol_of Black) ⊎ (x ≡ symbol_of White) → (c : Colour) × (x ≡ symbol_of c)
either_colour (inl e) = (Black, e)
either_colour (inr e) = (White, e)

pub white_else : {x : ℕ} → (x ≡ symbol_of Black) ⊎ (x ≡ symbol_of White) → (x ≡ symbol_of Black → ⊥) → x ≡ symbol_of White
white_else (inl e) n = absurd (n e)
white_else (inr e) n = e

module _ (s : List ℕ) where
  pub open_suc : (n p : ℕ) → get_or s p 0 ≡ open_symbol → read_at s (suc n) p ≡ read_halves (read_at s n (suc p)) (λ a. read_at s n (suc p + size a))
  unfolding read_at
  open_suc n p e = rw (read_at, eq-eqb (get_or s p 0) open_symbol e)

  pub closed_at : (n p : ℕ) → (get_or s p 0 ≡ open_symbol → ⊥) → read_at s n p ≡ read_leaf (get_or s p 0)
  unfolding read_at
  closed_at zero p h = refl
  closed_at (suc n) p h = rw (read_at, ne_eqb (get_or s p 0) open_symbol h)

  pub flat_at : (p : ℕ) → read_at s 0 p ≡ read_leaf (get_or s p 0)
  unfolding read_at
  flat_at p = refl

  -- a leaf's symbol, one that is none, a place past the end, and `(` with no level left
  pub leaf_at : (n p : ℕ) (c : Colour) → get_or s p 0 ≡ symbol_of c → read_at s n p ≡ read (leaf c)
  leaf_at n p c e = closed_at n p (λ q. symbol_not_open c (sym e ∙ q)) ∙ rw e (leaf_read c)

  pub other_at : (n p : ℕ) → (get_or s p 0 ≡ open_symbol → ⊥) → (get_or s p 0 ≡ symbol_of Black → ⊥) → (get_or s p 0 ≡ symbol_of White → ⊥) → read_at s n p ≡ none
  other_at n p h k l = closed_at n p h ∙ other_leaf (get_or s p 0) k l

  pub end_at : (n p : ℕ) → length s ≤ p → read_at s n p ≡ none
  end_at n p h = let e = get_or-eq_default s 0 h in other_at n p (λ q. omega arith) (λ q. omega arith) (λ q. omega arith)

  pub deep_at : (p : ℕ) → get_or s p 0 ≡ open_symbol → read_at s 0 p ≡ none
  deep_at p e = flat_at p ∙ rw e (other_leaf open_symbol (λ q. omega arith) (λ q. omega arith))

  -- `(` with a level left: by the two parts
  module _ (n p : ℕ) (e : get_or s p 0 ≡ open_symbol) where
    pub no_low : read_at s n (suc p) ≡ none → read_at s (suc n) p ≡ none
    unfolding read_halves
    no_low l = open_suc n p e ∙ rw l

    pub no_high : (a : Shape) → read_at s n (suc p) ≡ read a → read_at s n (suc p + size a) ≡ none → read_at s (suc n) p ≡ none
    unfolding read_halves with_high
    no_high a l r = open_suc n p e ∙ rw (l, r)

    pub both_parts : (a b : Shape) → read_at s n (suc p) ≡ read a → read_at s n (suc p + size a) ≡ read b → read_at s (suc n) p ≡ read (halved a b)
    unfolding read_halves with_high
    both_parts a b l r = open_suc n p e ∙ rw (l, r)

  -- the same with the numbers of code: the levels left are not 0, and the parts have one less
  module _ (n p : ℕ) (e : get_or s p 0 ≡ open_symbol) (h : n ≡ 0 → ⊥) where
    pub low_missing : read_at s (n - 1) (p + 1) ≡ none → read_at s n p ≡ none
    low_missing l =
        let d : n ≡ suc (n - 1) = omega arith in
        let q : p + 1 ≡ suc p = omega arith in
        ap (λ m. read_at s m p) d ∙ no_low (n - 1) p e (rw q at l)

    pub high_missing : (a : Shape) → read_at s (n - 1) (p + 1) ≡ read a → read_at s (n - 1) (p + 1 + size a) ≡ none → read_at s n p ≡ none
    high_missing a l r =
        let d : n ≡ suc (n - 1) = omega arith in
        let q : p + 1 ≡ suc p = omega arith in
        ap (λ m. read_at s m p) d ∙ no_high (n - 1) p e a (rw q at l) (rw q at r)

    pub both_read : (a b : Shape) → read_at s (n - 1) (p + 1) ≡ read a → read_at s (n - 1) (p + 1 + size a) ≡ read b → read_at s n p ≡ read (halved a b)
    both_read a b l r =
        let d : n ≡ suc (n - 1) = omega arith in
        let q : p + 1 ≡ suc p = omega arith in
        ap (λ m. read_at s m p) d ∙ both_parts (n - 1) p e a b (rw q at l) (rw q at r)

-- a shape's symbols stand in s from a place on
pub data Stands (s : List ℕ) : ℕ → ℕ → Shape → Type 0 where
  leaf_stands : {n p : ℕ} {c : Colour} → get_or s p 0 ≡ symbol_of c → Stands s n p (leaf c)
  open_stands : {n p : ℕ} {a b : Shape} → get_or s p 0 ≡ open_symbol → Stands s n (suc p) a → Stands s n (suc p + size a) b → Stands s (suc n) p (halved a b)

-- what is read there stands there
leaf_symbol_lem : (x : ℕ) (a : Shape) → read_leaf x ≡ read a → (c : Colour) × (x ≡ symbol_of c) × (a ≡ leaf c)
leaf_symbol_lem x a e = at_black (ℕ_discrete x (symbol_of Black))
  where
    at_white : (x ≡ symbol_of Black → ⊥) → Dec (x ≡ symbol_of White) → (c : Colour) × (x ≡ symbol_of c) × (a ≡ leaf c)
    at_white k (yes h) = let f : read_leaf x ≡ read (leaf White) = rw h (leaf_read White) in (White, h, (cc))
    at_white k (no h) = let f : read_leaf x ≡ none = other_leaf x k h in let z : ◌≡◌ {A = ℕ} 0 1 = cc in absurd (omega arith)

    at_black : Dec (x ≡ symbol_of Black) → (c : Colour) × (x ≡ symbol_of c) × (a ≡ leaf c)
    at_black (yes h) = let f : read_leaf x ≡ read (leaf Black) = rw h (leaf_read Black) in (Black, h, (cc))
    at_black (no h) = at_white h (ℕ_discrete x (symbol_of White))

with_high_lem : (l : Shape) (y : Reading) (a : Shape) → with_high l y ≡ read a → (r : Shape) × (y ≡ read r) × (a ≡ halved l r)
unfolding with_high
with_high_lem l none a e = let z : ◌≡◌ {A = ℕ} 0 1 = cc in absurd (omega arith)
with_high_lem l (read r) a e = (r, refl, (cc))

of_halves_lem :
    (x : Reading) (k : Shape → Reading) (a : Shape) → read_halves x k ≡ read a → (l : Shape) × (x ≡ read l) × (r : Shape) × (k l ≡ read r) × (a ≡ halved l r)
unfolding read_halves
of_halves_lem none k a e = let z : ◌≡◌ {A = ℕ} 0 1 = cc in absurd (omega arith)
of_halves_lem (read l) k a e = let w = with_high_lem l (k l) a e in (l, refl, w.0, w.1, w.2)

leaf_there : (s : List ℕ) (n p : ℕ) (a : Shape) → read_leaf (get_or s p 0) ≡ read a → Stands s n p a
leaf_there s n p a e = let w = leaf_symbol_lem (get_or s p 0) a e in rw w.2 (leaf_stands w.1)

pub stands : (s : List ℕ) (n p : ℕ) (a : Shape) → read_at s n p ≡ read a → Stands s n p a
stands s zero p a e = leaf_there s 0 p a (sym (flat_at s p) ∙ e)
stands s (suc n) p a e = go (λ q b h. stands s n q b h) (ℕ_discrete (get_or s p 0) open_symbol)
  where
    go : ((q : ℕ) (b : Shape) → read_at s n q ≡ read b → Stands s n q b) → Dec (get_or s p 0 ≡ open_symbol) → Stands s (suc n) p a
    go ih (no h) = leaf_there s (suc n) p a (sym (closed_at s (suc n) p h) ∙ e)
    go ih (yes h) =
        let w = of_halves_lem (read_at s n (suc p)) (λ l. read_at s n (suc p + size l)) a (sym (open_suc s n p h) ∙ e) in
        rw w.4 (open_stands h (ih (suc p) w.0 w.1) (ih (suc p + size w.0) w.2 w.3))

-- and what stands there is read
pub stood : {s : List ℕ} {n p : ℕ} {a : Shape} → Stands s n p a → read_at s n p ≡ read a
stood {s} (leaf_stands {n = n} {p = p} {c = c} e) = leaf_at s n p c e
stood {s} (open_stands {n = n} {p = p} {a = a} {b = b} e l r) = both_parts s n p e a b (stood l) (stood r)

-- it is not too deep, ends inside s, and its symbols are those of s
pub depth_stands : {s : List ℕ} {n p : ℕ} {a : Shape} → Stands s n p a → depth a ≤ n
unfolding depth
depth_stands (leaf_stands e) = omega arith
depth_stands (open_stands e l r) = suc-le-suc (max-le (depth_stands l) (depth_stands r))

pub within : (s : List ℕ) (p : ℕ) → (get_or s p 0 ≡ 0 → ⊥) → p < length s
within s p h = go (dec_lt p (length s))
  where
    go : Dec (p < length s) → p < length s
    go (yes k) = k
    go (no k) = absurd (h (get_or-eq_default s 0 (omega arith)))

pub inside : {s : List ℕ} {n p : ℕ} {a : Shape} → Stands s n p a → p + size a ≤ length s
unfolding size
inside {s} (leaf_stands {p = p} {c = c} e) = let h = within s p (λ z. symbol_not_zero c (sym e ∙ z)) in omega arith
inside {s} (open_stands e l r) = let h = inside r in omega arith

pub spells : {s : List ℕ} {n p : ℕ} {a : Shape} → Stands s n p a → take (size a) (drop p s) ≡ symbols a
unfolding size symbols
spells {s} (leaf_stands {n = n} {p = p} {c = c} e) =
    let w : Stands s n p (leaf c) = leaf_stands e in
    let h : p < length s = omega (arith, inside w) in
    rw (drop-cons s p 0 h, e)
spells {s} (open_stands {n = n} {p = p} {a = a} {b = b} e l r) =
    let w : Stands s (suc n) p (halved a b) = open_stands e l r in
    let h : p < length s = omega (arith, inside w) in
    rw (drop-cons s p 0 h, e, take-add (size a) (size b) (drop (suc p) s), drop-drop (size a) (suc p) s, spells l, spells r)

-- a shape's own symbols, whatever follows, are read back
first_symbol : (s : List ℕ) (p x : ℕ) (r : List ℕ) → drop p s ≡ x ∷ r → get_or s p 0 ≡ x
first_symbol s p x r e = let z : p + 0 ≡ p = omega arith in ap (λ k. get_or s k 0) (sym z) ∙ sym (get_or-drop p s 0 0) ∙ ap (λ l. get_or l 0 0) e

after_symbol : (s : List ℕ) (p x : ℕ) (r : List ℕ) → drop p s ≡ x ∷ r → drop (suc p) s ≡ r
after_symbol s p x r e = let z : p + 1 ≡ suc p = omega arith in ap (λ k. drop k s) (sym z) ∙ sym (drop-drop 1 p s) ∙ ap (drop 1) e

after_shape : (s : List ℕ) (p : ℕ) (a : Shape) (r : List ℕ) → drop p s ≡ symbols a ++ r → drop (p + size a) s ≡ r
after_shape s p a r e = sym (drop-drop (size a) p s) ∙ ap (drop (size a)) e ∙ drop_at (symbols a) r (size a) (length_symbols a)

pub spelt : (s : List ℕ) (n p : ℕ) (a : Shape) (rest : List ℕ) → depth a ≤ n → drop p s ≡ symbols a ++ rest → Stands s n p a
unfolding symbols
spelt s n p (leaf c) rest h e = leaf_stands (first_symbol s p (symbol_of c) rest e)
spelt s zero p (halved a b) rest h e = absurd (halved_deep a b h)
spelt s (suc n) p (halved a b) rest h e =
    let l = after_symbol s p open_symbol (symbols a ++ symbols b ++ rest) e ∙ append_assoc (symbols a) (symbols b) rest in
    open_stands (first_symbol s p open_symbol (symbols a ++ symbols b ++ rest) e)
    (spelt s n (suc p) a (symbols b ++ rest) (depth_low a b n h) l)
    (spelt s n (suc p + size a) b rest (depth_high a b n h) (after_shape s (suc p) a (symbols b ++ rest) l))

pub read_symbols_lem : (n : ℕ) (a : Shape) (rest : List ℕ) → depth a ≤ n → read_at (symbols a ++ rest) n 0 ≡ read a
read_symbols_lem n a rest h = stood (spelt (symbols a ++ rest) n 0 a rest h refl)

-- two shapes with the same symbols are one
pub symbols_injective : (a b : Shape) → symbols a ≡ symbols b → a ≡ b
symbols_injective a b e =
    let n = max (depth a) (depth b) in
    let x = read_symbols_lem n a [] (le-max_left (depth a) (depth b)) in
    let y = read_symbols_lem n b [] (le-max_right (depth a) (depth b)) in
    let z = ap (λ l. read_at (l ++ []) n 0) e in
    cc

-- expressions: the reading is all of the symbols
module _ (u : Universe) (s : List ℕ) where
  pub expression_none : read_at s (levels u) 0 ≡ none → expression u s ≡ none
  unfolding expression exactly
  expression_none e = rw e

  pub expression_read : (a : Shape) → read_at s (levels u) 0 ≡ read a → size a ≡ length s → expression u s ≡ read a
  unfolding expression exactly
  expression_read a e k = rw (e, exactly, eq-eqb (size a) (length s) k)

  pub expression_rest : (a : Shape) → read_at s (levels u) 0 ≡ read a → (size a ≡ length s → ⊥) → expression u s ≡ none
  unfolding expression exactly
  expression_rest a e k = rw (e, exactly, ne_eqb (size a) (length s) k)

  pub expression_at_lem : (a : Shape) → expression u s ≡ read a → (read_at s (levels u) 0 ≡ read a) × (size a ≡ length s)
  unfolding expression exactly
  expression_at_lem a e = go (read_at s (levels u) 0) e
    where
      sized : (b : Bool) (x : Shape) → eqb (size x) (length s) ≡ b → cond b (read x) none ≡ read a → (read x ≡ read a) × (size a ≡ length s)
      sized true x f g = let w : x ≡ a = cc in (g, ap size (sym w) ∙ eqb-true (size x) (length s) f)
      sized false x f g = let z : ◌≡◌ {A = ℕ} 0 1 = cc in absurd (omega arith)

      go : (x : Reading) → exactly (length s) x ≡ read a → (x ≡ read a) × (size a ≡ length s)
      go none f = let z : ◌≡◌ {A = ℕ} 0 1 = cc in absurd (omega arith)
      go (read x) f = sized (eqb (size x) (length s)) x refl f

-- THEOREM: what a shape's symbols say is the shape, and symbols that say a shape are its own
pub reads_back : (u : Universe) (a : Shape) → depth a ≤ levels u → expression u (symbols a) ≡ read a
reads_back u a h = expression_read u (symbols a) a (stood (spelt (symbols a) (levels u) 0 a [] h (sym (append-nil (symbols a))))) (sym (length_symbols a))

pub read_is : (u : Universe) (s : List ℕ) (a : Shape) → expression u s ≡ read a → (symbols a ≡ s) × (depth a ≤ levels u)
read_is u s a e =
    let w = expression_at_lem u s a e in
    let d = stands s (levels u) 0 a w.0 in
    (sym (spells d) ∙ rw w.1 (take-length s), depth_stands d)

-- refused exactly where there is no shape
pub shape_accepted : (u : Universe) (s : List ℕ) (a : Shape) → expression u s ≡ read a → expression_refusal u s ≡ 0
unfolding expression_refusal
shape_accepted u s a e = rw e

pub none_refused : (u : Universe) (s : List ℕ) → expression u s ≡ none → expression_refusal u s ≡ 7
unfolding expression_refusal
none_refused u s e = rw e

pub accepted_shape : (u : Universe) (s : List ℕ) → expression_refusal u s ≡ 0 → (a : Shape) × (expression u s ≡ read a)
unfolding expression_refusal
accepted_shape u s e = go (expression u s) refl e
  where
    go : (x : Reading) → expression u s ≡ x → reading_refusal x ≡ 0 → (a : Shape) × (expression u s ≡ read a)
    go none f h = absurd (omega arith)
    go (read a) f h = (a, f)
