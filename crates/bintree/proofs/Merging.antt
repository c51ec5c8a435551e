-- Merging, by what `join` does to two merged parts: it makes one leaf of two leaves of one colour, and halves otherwise (`Joined`).
-- Replacements lead to the merged shape, none is left there, and every way of replacing until none is left ends there. What is not merged gets shorter.
use mathlib.Core.Path.{◌≡◌, refl, sym, ap, ap₂, subst, ◌∙◌}
use mathlib.Core.Bool.{Bool, true, false, cond, not, ◌&&◌}
use mathlib.Core.List.{List, [], ◌∷◌, ◌++◌, append_assoc, append-nil}
use Prim.Native.Nat.{ℕ, zero, suc, ◌+◌, ◌-◌, ◌≤◌, ◌<◌, max}
use native.Mathlib.Nat.{max-le, le-max_left, le-max_right}
use native.Mathlib.Decide.{dec_lt}
use native.Mathlib.Omega.{arith}
use borrow.Author.Tests.{eq-eqb, not-true}
use lib.Dec.{eqb}
use lib.ListN.{length, get_or}
use lib.Seq.{get_or-append-add}
use Rattle.lemmas.proofs.Sums.{and_left, and_right}
use Rattle.universe.specs.declared.Universe.{Universe}
use Rattle.universe.specs.Universe.{levels}
use Rattle.universe.specs.Voxel.{path_to}
use Rattle.bintree.specs.declared.Colour.{Colour}
use Rattle.bintree.specs.declared.Colour.TheVariants.{White, Black}
use Rattle.bintree.specs.Shape.{Shape, leaf, halved, open_symbol, symbol_of, symbols, size, depth}
use Rattle.bintree.specs.Merging.{join, merged, Replaces, here, in_low, in_high, Becomes, none, next, is_pair, is_merged}
use Rattle.bintree.specs.Parts.{part, colour_of, colour_at}
use Rattle.bintree.proofs.Shape.{length_symbols, symbol_not_open, symbol_injective}
use Rattle.bintree.proofs.Reading.{within}
use Rattle.bintree.proofs.Parts.{part_empty, voxel_leaf}

-- what joining two parts gives
pub data Joined : Shape → Shape → Shape → Type 0 where
  one : (c : Colour) → Joined (leaf c) (leaf c) (leaf c)
  two : {a b : Shape} → is_pair a b ≡ false → Joined a b (halved a b)

pub joined : (a b : Shape) → Joined a b (join a b)
unfolding join is_pair
joined (leaf Black) (leaf Black) = one Black
joined (leaf White) (leaf White) = one White
joined (leaf Black) (leaf White) = two refl
joined (leaf White) (leaf Black) = two refl
joined (leaf c) (halved a b) = two refl
joined (halved a b) s = two refl

pub join_leaves : (c : Colour) → join (leaf c) (leaf c) ≡ leaf c
unfolding join
join_leaves Black = refl
join_leaves White = refl

pair_leaves : (c : Colour) → is_pair (leaf c) (leaf c) ≡ true
unfolding is_pair
pair_leaves c = eq-eqb (symbol_of c) (symbol_of c) refl

-- the merged shape is merged, and a merged shape is its own
join_merged : {a b j : Shape} → Joined a b j → is_merged a ≡ true → is_merged b ≡ true → is_merged j ≡ true
unfolding is_merged
join_merged (one c) e f = e
join_merged (two p) e f = rw (p, e, f)

pub merged_is : (s : Shape) → is_merged (merged s) ≡ true
unfolding merged is_merged
merged_is (leaf c) = refl
merged_is (halved a b) = join_merged (joined (merged a) (merged b)) (merged_is a) (merged_is b)

-- what a merged halved shape is: its parts are merged, and no pair
pub record Apart (a b : Shape) : Type 0 where
  pub pair : is_pair a b ≡ false
  pub low : is_merged a ≡ true
  pub high : is_merged b ≡ true

pub apart : (a b : Shape) → is_merged (halved a b) ≡ true → Apart a b
unfolding is_merged
apart a b e =
    let w = and_left (not (is_pair a b) && is_merged a) (is_merged b) e in
    record {
      pair = not-true (is_pair a b) (and_left (not (is_pair a b)) (is_merged a) w);
      low = and_right (not (is_pair a b)) (is_merged a) w;
      high = and_right (not (is_pair a b) && is_merged a) (is_merged b) e;
    }

not_both : {t : Bool} → t ≡ true → t ≡ false → ⊥
not_both e f = let z : ◌≡◌ {A = ℕ} 0 1 = cc in omega arith

pub join_apart : {a b j : Shape} → Joined a b j → is_pair a b ≡ false → j ≡ halved a b
join_apart (one c) e = absurd (not_both (pair_leaves c) e)
join_apart (two p) e = refl

pub merged_self : (s : Shape) → is_merged s ≡ true → merged s ≡ s
unfolding merged
merged_self (leaf c) e = refl
merged_self (halved a b) e =
    let w = apart a b e in
    rw (merged_self a w.low, merged_self b w.high) (join_apart (joined a b) w.pair)

-- THEOREM: the test is whether merging changes nothing; and merging twice is merging once
pub self_merged : (s : Shape) → merged s ≡ s → is_merged s ≡ true
self_merged s e = ap is_merged (sym e) ∙ merged_is s

pub merged_merged : (s : Shape) → merged (merged s) ≡ merged s
merged_merged s = merged_self (merged s) (merged_is s)

-- THEOREM: replacements lead from a shape to the merged one
pub becomes_then : {s t v : Shape} → Becomes s t → Becomes t v → Becomes s v
becomes_then (none s) w = w
becomes_then (next r q) w = next r (becomes_then q w)

low_becomes : {a b : Shape} (h : Shape) → Becomes a b → Becomes (halved a h) (halved b h)
low_becomes h (none s) = none (halved s h)
low_becomes h (next r w) = next (in_low h r) (low_becomes h w)

high_becomes : {a b : Shape} (l : Shape) → Becomes a b → Becomes (halved l a) (halved l b)
high_becomes l (none s) = none (halved l s)
high_becomes l (next r w) = next (in_high l r) (high_becomes l w)

join_becomes : {a b j : Shape} → Joined a b j → Becomes (halved a b) j
join_becomes (one c) = next (here c) (none (leaf c))
join_becomes {a} {b} (two e) = none (halved a b)

pub merged_reached : (s : Shape) → Becomes s (merged s)
unfolding merged
merged_reached (leaf c) = none (leaf c)
merged_reached (halved a b) =
    becomes_then (low_becomes b (merged_reached a)) (becomes_then (high_becomes (merged a) (merged_reached b)) (join_becomes (joined (merged a) (merged b))))

-- THEOREM: there none is left
no_replacement : {s t : Shape} → Replaces s t → is_merged s ≡ true → ⊥
no_replacement (here c) e = not_both (pair_leaves c) (apart (leaf c) (leaf c) e).pair
no_replacement (in_low {a = a} h r) e = no_replacement r (apart a h e).low
no_replacement (in_high {a = a} l r) e = no_replacement r (apart l a e).high

pub merged_last : (s t : Shape) → Replaces (merged s) t → ⊥
merged_last s t r = no_replacement r (merged_is s)

-- THEOREM: any way of replacing that goes on until none is left ends at the merged shape
pub replaces_merged : {s t : Shape} → Replaces s t → merged s ≡ merged t
unfolding merged
replaces_merged (here c) = join_leaves c
replaces_merged (in_low h r) = ap (λ z. join z (merged h)) (replaces_merged r)
replaces_merged (in_high l r) = ap (λ z. join (merged l) z) (replaces_merged r)

pub becomes_merged : {s t : Shape} → Becomes s t → merged s ≡ merged t
becomes_merged (none s) = refl
becomes_merged (next r w) = replaces_merged r ∙ becomes_merged w

join_last : {a b j : Shape} → Joined a b j → ((t : Shape) → Replaces (halved a b) t → ⊥) → j ≡ halved a b
join_last (one c) h = absurd (h (leaf c) (here c))
join_last (two e) h = refl

none_left : (s : Shape) → ((t : Shape) → Replaces s t → ⊥) → merged s ≡ s
unfolding merged
none_left (leaf c) h = refl
none_left (halved a b) h =
    let x = none_left a (λ t r. h (halved t b) (in_low b r)) in
    let y = none_left b (λ t r. h (halved a t) (in_high a r)) in
    rw (x, y) (join_last (joined a b) h)

pub last_merged : {s t : Shape} → Becomes s t → ((v : Shape) → Replaces t v → ⊥) → t ≡ merged s
last_merged {s} {t} w h = sym (becomes_merged w ∙ none_left t h)

-- one replacement, in symbols: somewhere a `(` and two symbols of one colour become that one symbol
pub record Replaced (before after : List ℕ) : Type 0 where
  pub colour : Colour
  pub left : List ℕ
  pub right : List ℕ
  pub was : before ≡ left ++ (open_symbol ∷ symbol_of colour ∷ symbol_of colour ∷ right)
  pub is : after ≡ left ++ (symbol_of colour ∷ right)

pub replaced : {s t : Shape} → Replaces s t → Replaced (symbols s) (symbols t)
unfolding symbols
replaced (here c) = record { colour = c; left = []; right = []; was = refl; is = refl }
replaced (in_low h r) =
    let w = replaced r in
    record {
      colour = w.colour;
      left = open_symbol ∷ w.left;
      right = w.right ++ symbols h;
      was =
          ap (λ z. open_symbol ∷ (z ++ symbols h)) w.was
          ∙ ap (λ z. open_symbol ∷ z) (append_assoc w.left (open_symbol ∷ symbol_of w.colour ∷ symbol_of w.colour ∷ w.right) (symbols h));
      is = ap (λ z. open_symbol ∷ (z ++ symbols h)) w.is ∙ ap (λ z. open_symbol ∷ z) (append_assoc w.left (symbol_of w.colour ∷ w.right) (symbols h));
    }
replaced (in_high l r) =
    let w = replaced r in
    record {
      colour = w.colour;
      left = open_symbol ∷ (symbols l ++ w.left);
      right = w.right;
      was =
          ap (λ z. open_symbol ∷ (symbols l ++ z)) w.was
          ∙ ap (λ z. open_symbol ∷ z) (sym (append_assoc (symbols l) w.left (open_symbol ∷ symbol_of w.colour ∷ symbol_of w.colour ∷ w.right)));
      is =
          ap (λ z. open_symbol ∷ (symbols l ++ z)) w.is
          ∙ ap (λ z. open_symbol ∷ z) (sym (append_assoc (symbols l) w.left (symbol_of w.colour ∷ w.right)));
    }

-- THEOREM: the merged expression has no place where `(BB` or `(WW` stands
first_leaf : (s : Shape) (rest : List ℕ) (c : Colour) → get_or (symbols s ++ rest) 0 0 ≡ symbol_of c → s ≡ leaf c
unfolding symbols
first_leaf (leaf d) rest c e = ap leaf (symbol_injective d c e)
first_leaf (halved a b) rest c e = absurd (symbol_not_open c (sym e))

-- at place p of l stands `(`, then twice the symbol of c
pub record PairAt (c : Colour) (l : List ℕ) (p : ℕ) : Type 0 where
  pub opens : get_or l p 0 ≡ open_symbol
  pub low : get_or l (suc p) 0 ≡ symbol_of c
  pub high : get_or l (suc (suc p)) 0 ≡ symbol_of c

pair_on : (c : Colour) (xs ys : List ℕ) (p q : ℕ) → p ≡ length xs + q → PairAt c (xs ++ ys) p → PairAt c ys q
pair_on c xs ys p q e w =
    let f : suc p ≡ length xs + suc q = omega arith in
    let g : suc (suc p) ≡ length xs + suc (suc q) = omega arith in
    record {
      opens = sym (get_or-append-add xs ys q 0) ∙ ap (λ k. get_or (xs ++ ys) k 0) (sym e) ∙ w.opens;
      low = sym (get_or-append-add xs ys (suc q) 0) ∙ ap (λ k. get_or (xs ++ ys) k 0) (sym f) ∙ w.low;
      high = sym (get_or-append-add xs ys (suc (suc q)) 0) ∙ ap (λ k. get_or (xs ++ ys) k 0) (sym g) ∙ w.high;
    }

module _ (c : Colour) where
  first_pair : (a b : Shape) (rest : List ℕ) → is_pair a b ≡ false → PairAt c (open_symbol ∷ (symbols a ++ (symbols b ++ rest))) 0 → ⊥
  unfolding symbols
  first_pair a b rest m w =
      let x = first_leaf a (symbols b ++ rest) c w.low in
      let y = first_leaf b rest c (ap (λ z. get_or (symbols z ++ (symbols b ++ rest)) 1 0) (sym x) ∙ w.high) in
      not_both (ap (λ z. is_pair z b) x ∙ ap (λ z. is_pair (leaf c) z) y ∙ pair_leaves c) m

  no_pair_in : (s : Shape) (rest : List ℕ) (p : ℕ) → is_merged s ≡ true → p < size s → PairAt c (symbols s ++ rest) p → ⊥
  unfolding symbols size
  no_pair_in (leaf d) rest zero m h w = symbol_not_open d w.opens
  no_pair_in (leaf d) rest (suc p) m h w = omega arith
  no_pair_in (halved a b) rest zero m h w =
      first_pair a b rest (apart a b m).pair (subst (λ z. PairAt c (open_symbol ∷ z) 0) (append_assoc (symbols a) (symbols b) rest) w)
  no_pair_in (halved a b) rest (suc p) m h w = go (λ r q. no_pair_in a r q (apart a b m).low) (λ r q. no_pair_in b r q (apart a b m).high) (dec_lt p (size a))
    where
      parts : PairAt c (symbols a ++ (symbols b ++ rest)) p
      parts =
          pair_on c (open_symbol ∷ []) (symbols a ++ (symbols b ++ rest)) (suc p) p (omega arith)
          (subst (λ z. PairAt c (open_symbol ∷ z) (suc p)) (append_assoc (symbols a) (symbols b) rest) w)

      go :
          ((r : List ℕ) (q : ℕ) → q < size a → PairAt c (symbols a ++ r) q → ⊥) → ((r : List ℕ) (q : ℕ) → q < size b → PairAt c (symbols b ++ r) q → ⊥) →
          Dec (p < size a) → ⊥
      go low high (yes k) = low (symbols b ++ rest) p k parts
      go low high (no k) =
          high rest (p - size a) (omega arith) (pair_on c (symbols a) (symbols b ++ rest) p (p - size a) (omega (arith, length_symbols a)) parts)

pub merged_no_pair : (s : Shape) (c : Colour) (p : ℕ) → PairAt c (symbols (merged s)) p → ⊥
merged_no_pair s c p w =
    let h : p < length (symbols (merged s)) = within (symbols (merged s)) p (λ y. omega arith) in
    no_pair_in c (merged s) [] p (merged_is s) (omega (arith, length_symbols (merged s))) (subst (λ z. PairAt c z p) (sym (append-nil (symbols (merged s)))) w)

-- THEOREM: merging keeps every part, merged; hence the colour at every voxel
part_choice : (choice : Bool) (x y : Shape) → cond choice (merged x) (merged y) ≡ merged (cond choice x y)
part_choice true x y = refl
part_choice false x y = refl

choice_same : (choice : Bool) (x : Shape) → x ≡ cond choice x x
choice_same true x = refl
choice_same false x = refl

join_part : {a b j : Shape} → Joined a b j → (h : ℕ) (path : List ℕ) → part j (h ∷ path) ≡ cond (eqb h 0) (part a path) (part b path)
unfolding part
join_part (one c) h path = choice_same (eqb h 0) (leaf c)
join_part (two e) h path = refl

pub merged_part : (s : Shape) (path : List ℕ) → part (merged s) path ≡ merged (part s path)
unfolding part merged
merged_part (leaf c) path = refl
merged_part (halved a b) [] = part_empty (join (merged a) (merged b))
merged_part (halved a b) (h ∷ path) =
    join_part (joined (merged a) (merged b)) h path ∙ rw (merged_part a path, merged_part b path) (part_choice (eqb h 0) (part a path) (part b path))

pub merged_colour : (u : Universe) (s : Shape) (v : List ℕ) → depth s ≤ levels u → colour_at u (merged s) v ≡ colour_at u s v
unfolding colour_at merged
merged_colour u s v h = let w = voxel_leaf u s v h in ap colour_of (merged_part s (path_to u v) ∙ ap merged w.1 ∙ sym w.1)

-- sizes and depths do not grow
join_size : {a b j : Shape} → Joined a b j → size j ≤ suc (size a + size b)
unfolding size
join_size (one c) = omega arith
join_size (two e) = omega arith

pub merged_size : (s : Shape) → size (merged s) ≤ size s
unfolding size merged
merged_size (leaf c) = omega arith
merged_size (halved a b) =
    let x = merged_size a in
    let y = merged_size b in
    let z = join_size (joined (merged a) (merged b)) in
    omega arith

-- THEOREM: a shape that merging makes no shorter is merged; so one that is not merged has strictly more symbols than its merged shape
join_as_long : {a b j : Shape} → Joined a b j → suc (size a + size b) ≤ size j → j ≡ halved a b
unfolding size
join_as_long (one c) h = absurd (omega arith)
join_as_long (two e) h = refl

pub as_long_merged : (s : Shape) → size s ≤ size (merged s) → merged s ≡ s
unfolding size merged
as_long_merged (leaf c) h = refl
as_long_merged (halved a b) h =
    let x = merged_size a in
    let y = merged_size b in
    let z = join_size (joined (merged a) (merged b)) in
    let low = as_long_merged a (omega arith) in
    let high = as_long_merged b (omega arith) in
    join_as_long (joined (merged a) (merged b)) (omega arith) ∙ ap₂ halved low high

pub unmerged_longer : (s : Shape) → is_merged s ≡ false → size (merged s) < size s
unmerged_longer s e = go (dec_lt (size (merged s)) (size s))
  where
    go : Dec (size (merged s) < size s) → size (merged s) < size s
    go (yes h) = h
    go (no h) = absurd (not_both (self_merged s (as_long_merged s (omega arith))) e)

join_depth : {a b j : Shape} → Joined a b j → depth j ≤ suc (max (depth a) (depth b))
unfolding depth
join_depth (one c) = omega arith
join_depth (two e) = omega arith

pub merged_depth : (s : Shape) → depth (merged s) ≤ depth s
unfolding depth merged
merged_depth (leaf c) = omega arith
merged_depth (halved a b) =
    let x = merged_depth a in
    let y = merged_depth b in
    let z = join_depth (joined (merged a) (merged b)) in
    let l = le-max_left (depth a) (depth b) in
    let r = le-max_right (depth a) (depth b) in
    let w : max (depth (merged a)) (depth (merged b)) ≤ max (depth a) (depth b) = max-le (omega arith) (omega arith) in
    omega arith
