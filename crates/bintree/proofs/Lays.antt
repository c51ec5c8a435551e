-- What laying a merged tree into room tells and leaves. A leaf waits until it is known that it does not merge with its brother, so that nothing is
-- written in vain: the two parts, `(` and the two leaves that waited make the whole (`parts_laid`).
use mathlib.Core.Logic.{◌⊎◌}
use mathlib.Core.Path.{◌≡◌, refl, sym, ap, ◌∙◌}
use mathlib.Core.Bool.{Bool, true, false}
use mathlib.Core.List.{List}
use Prim.Native.Nat.{ℕ, suc, ◌+◌, ◌-◌, ◌≤◌, ◌<◌}
use native.Mathlib.Decide.{ℕ_discrete}
use native.Mathlib.Omega.{arith}
use borrow.Author.Rules.{rules}
use borrow.Author.Tests.{eq-eqb, ne_eqb}
use lib.ListN.{length, get_or, set}
use lib.Seq.{sets, set_out}
use Rattle.std.specs.Prelude.{Some, None}
use Rattle.bintree.specs.declared.Colour.{Colour}
use Rattle.bintree.specs.declared.Colour.TheVariants.{White, Black}
use Rattle.bintree.specs.declared.lay.Laid.{Laid}
use Rattle.bintree.specs.Shape.{Shape, leaf, halved, open_symbol, symbol_of, symbols, size}
use Rattle.bintree.specs.Reading.{Reading, none, read, read_at}
use Rattle.bintree.specs.Merging.{merged, is_pair}
use Rattle.bintree.specs.Walks.{leaf_symbol, is_alike, noted, joined_halves, laid, lay_answer, Lays}
use Rattle.bintree.proofs.Shape.{length_symbols, size_positive, symbol_not_zero}
use Rattle.bintree.proofs.Reading.{either_colour, leaf_at, other_at, end_at, deep_at, low_missing, high_missing, both_read}
use Rattle.bintree.proofs.Merging.{Joined, one, two, joined, join_apart, merged_size}
use Rattle.lemmas.proofs.Stores.{set_sets, sets_append}

-- ---- `is_alike`, `note` and `join_halves`

pub noted_none : (o : List ℕ) (t x : ℕ) → x ≡ 0 → o ≡ noted o t x
unfolding noted
noted_none o t x e = rw (eq-eqb x 0 e)

pub noted_some : (o : List ℕ) (t x : ℕ) → (x ≡ 0 → ⊥) → set o t x ≡ noted o t x
unfolding noted
noted_some o t x n = rw (ne_eqb x 0 n)

pub noted_past : (o : List ℕ) (t x : ℕ) → (x ≡ 0 → ⊥) → length o ≤ t → o ≡ noted o t x
noted_past o t x n h = sym (set_out o t x h) ∙ noted_some o t x n

pub noted_beyond : (o : List ℕ) (t x : ℕ) → length o ≤ t → o ≡ noted o (t + 1) x
noted_beyond o t x h = go (ℕ_discrete x 0)
  where
    go : Dec (x ≡ 0) → o ≡ noted o (t + 1) x
    go (yes e) = noted_none o (t + 1) x e
    go (no n) = noted_past o (t + 1) x n (omega arith)

pub halves_joined : (o o₁ o₂ o₃ : List ℕ) (t x d y : ℕ) → o₁ ≡ noted o t open_symbol → o₂ ≡ noted o₁ (t + 1) x → o₃ ≡ noted o₂ d y → o₃ ≡ joined_halves o t x d y
unfolding joined_halves
halves_joined o o₁ o₂ o₃ t x d y e f g = rw (g, f, e)

pub ruleset note_laws = (rules, noted_none, noted_some, noted_past, noted_beyond, halves_joined)

-- ---- a leaf's symbol, and the merged shape of two parts by theirs

symbol_pair : (a b : Shape) → is_alike (leaf_symbol a) (leaf_symbol b) ≡ is_pair a b
unfolding leaf_symbol is_alike is_pair
symbol_pair (leaf Black) (leaf d) = refl
symbol_pair (leaf White) (leaf d) = refl
symbol_pair (leaf Black) (halved x y) = refl
symbol_pair (leaf White) (halved x y) = refl
symbol_pair (halved x y) b = refl

alike_same : {a b j : Shape} → Joined a b j → is_pair a b ≡ true → (c : Colour) × (a ≡ leaf c) × (b ≡ leaf c) × (j ≡ leaf c)
alike_same (one c) e = (c, refl, refl, refl)
alike_same (two f) e = let z : ◌≡◌ {A = ℕ} 0 1 = cc in absurd (omega arith)

module _ (l r : Shape) where
  pub merged_same :
      is_alike (leaf_symbol (merged l)) (leaf_symbol (merged r)) ≡ true → (c : Colour) × (merged l ≡ leaf c) × (merged r ≡ leaf c) × (merged (halved l r) ≡ leaf c)
  unfolding merged
  merged_same e = alike_same (joined (merged l) (merged r)) (sym (symbol_pair (merged l) (merged r)) ∙ e)

  pub merged_apart : is_alike (leaf_symbol (merged l)) (leaf_symbol (merged r)) ≡ false → merged (halved l r) ≡ halved (merged l) (merged r)
  unfolding merged
  merged_apart e = join_apart (joined (merged l) (merged r)) (sym (symbol_pair (merged l) (merged r)) ∙ e)

-- ---- the two parts, `(` and the two leaves that waited make the whole

pub laid_noted : (o : List ℕ) (t : ℕ) (a : Shape) → noted (laid o t a) t (leaf_symbol a) ≡ sets o t (symbols a)
unfolding laid leaf_symbol symbols
laid_noted o t (leaf c) = sym (noted_some o t (symbol_of c) (symbol_not_zero c))
laid_noted o t (halved a b) = sym (noted_none (sets o t (symbols (halved a b))) t 0 refl)

set_laid : (o : List ℕ) (i t x : ℕ) (a : Shape) → i < t → set (laid o t a) i x ≡ laid (set o i x) t a
unfolding laid
set_laid o i t x (leaf c) h = refl
set_laid o i t x (halved a b) h = set_sets (symbols (halved a b)) o i t x h

noted_laid : (o : List ℕ) (i t x : ℕ) (a : Shape) → i < t → noted (laid o t a) i x ≡ laid (noted o i x) t a
noted_laid o i t x a h = go (ℕ_discrete x 0)
  where
    go : Dec (x ≡ 0) → noted (laid o t a) i x ≡ laid (noted o i x) t a
    go (yes e) = sym (noted_none (laid o t a) i x e) ∙ ap (λ z. laid z t a) (noted_none o i x e)
    go (no e) = sym (noted_some (laid o t a) i x e) ∙ set_laid o i t x a h ∙ ap (λ z. laid z t a) (noted_some o i x e)

parts_laid :
    (o : List ℕ) (t : ℕ) (a b : Shape) →
    joined_halves (laid (laid o (t + 1) a) (t + 1 + size a) b) t (leaf_symbol a) (t + 1 + size a) (leaf_symbol b) ≡ sets o t (symbols (halved a b))
unfolding joined_halves symbols
parts_laid o t a b =
    let d : t + 1 + size a ≡ suc t + length (symbols a) = omega (arith, length_symbols a) in
    let e : t + 1 ≡ suc t = omega arith in
    let k : t < t + 1 + size a = omega arith in
    let j : t + 1 < t + 1 + size a = omega (arith, size_positive a) in
    let i : t < t + 1 = omega arith in
    let w : noted o t open_symbol ≡ set o t open_symbol = sym (noted_some o t open_symbol (λ z. omega arith)) in
    let m = t + 1 + size a in
    ap (λ z. noted (noted z (t + 1) (leaf_symbol a)) m (leaf_symbol b)) (noted_laid (laid o (t + 1) a) t m open_symbol b k)
    ∙ ap (λ z. noted (noted (laid z m b) (t + 1) (leaf_symbol a)) m (leaf_symbol b)) (noted_laid o t (t + 1) open_symbol a i)
    ∙ ap (λ z. noted (noted (laid (laid z (t + 1) a) m b) (t + 1) (leaf_symbol a)) m (leaf_symbol b)) w
    ∙ ap (λ z. noted z m (leaf_symbol b)) (noted_laid (laid (set o t open_symbol) (t + 1) a) (t + 1) m (leaf_symbol a) b j)
    ∙ ap (λ z. noted (laid z m b) m (leaf_symbol b)) (laid_noted (set o t open_symbol) (t + 1) a)
    ∙ laid_noted (sets (set o t open_symbol) (t + 1) (symbols a)) (t + 1 + size a) b
    ∙ rw (d, e) (sets_append (symbols a) (symbols b) (set o t open_symbol) (suc t))

pub leaf_laid : (o : List ℕ) (t : ℕ) (c : Colour) {a : Shape} → a ≡ leaf c → laid o t a ≡ o
unfolding laid
leaf_laid o t c e = rw e

-- the room after both parts and `join_halves`, where they stay apart
pub apart_laid :
    (o o₁ o₂ o₃ : List ℕ) (t d x y : ℕ) (a b : Shape) → o₁ ≡ laid o (t + 1) a → o₂ ≡ laid o₁ d b → d ≡ t + 1 + size a → x ≡ leaf_symbol a → y ≡ leaf_symbol b →
    o₃ ≡ joined_halves o₂ t x d y → o₃ ≡ laid o t (halved a b)
unfolding laid
apart_laid o o₁ o₂ o₃ t d x y a b e f g h i j = rw (j, f, e, g, h, i) (parts_laid o t a b)

-- ---- answers and what is read

no_shape : {x : Reading} {a : Shape} → x ≡ none → x ≡ read a → ⊥
no_shape e f = let z : ◌≡◌ {A = ℕ} 0 1 = cc in omega arith

lays_none : (p t : ℕ) (o o' : List ℕ) {x : Reading} → x ≡ none → Lays p t o x None o'
unfolding lay_answer
lays_none p t o o' e = record { tells = rw e; leaves = λ a f. absurd (no_shape e f) }

lays_leaf :
    (p t : ℕ) (o : List ℕ) (c : Colour) {x : Reading} → x ≡ read (leaf c) →
    Lays p t o x (Some (record { end = p + 1; symbol = symbol_of c; to = t + 1 })) o
unfolding lay_answer merged leaf_symbol size laid
lays_leaf p t o c {x} e = record { tells = rw e; leaves = λ a f. let g : a ≡ leaf c = cc in sym (ap (λ z. laid o t (merged z)) g) }

pub unread_none : (p t : ℕ) (x : Reading) → None ≡ lay_answer p t x → x ≡ none
unfolding lay_answer
unread_none p t none w = refl
unread_none p t (read a) w = let z : ◌≡◌ {A = ℕ} 0 1 = cc in absurd (omega arith)

pub record Laying (p t : ℕ) (l : Laid) (x : Reading) : Type 0 where
  pub shape : Shape
  pub is : x ≡ read shape
  pub after : l.end ≡ p + size shape
  pub symbol : l.symbol ≡ leaf_symbol (merged shape)
  pub further : l.to ≡ t + size (merged shape)

pub laying : (p t : ℕ) (l : Laid) (x : Reading) → Some l ≡ lay_answer p t x → Laying p t l x
unfolding lay_answer
laying p t l none w = let z : ◌≡◌ {A = ℕ} 0 1 = cc in absurd (omega arith)
laying p t l (read a) w =
    let e : l ≡ record { end = p + size a; symbol = leaf_symbol (merged a); to = t + size (merged a) } = cc in
    record {
      shape = a;
      is = refl;
      after = ap (λ (z : Laid). z.end) e;
      symbol = ap (λ (z : Laid). z.symbol) e;
      further = ap (λ (z : Laid). z.to) e;
    }

-- an answer for a halved shape, from its fields
lays_halved :
    (p t q h d : ℕ) (o o' : List ℕ) (a : Shape) {x : Reading} → x ≡ read a → q ≡ p + size a → h ≡ leaf_symbol (merged a) → d ≡ t + size (merged a) →
    o' ≡ laid o t (merged a) → Lays p t o x (Some (record { end = q; symbol = h; to = d })) o'
unfolding lay_answer
lays_halved p t q h d o o' a {x} e f g i j = record { tells = rw (e, f, g, i); leaves = λ b k. let m : a ≡ b = cc in j ∙ ap (λ z. laid o t (merged z)) m }

-- ---- the laws of `lay`

module _ (s : List ℕ) (n p t : ℕ) (o o' : List ℕ) where
  pub lay_end : length s ≤ p → Lays p t o (read_at s n p) None o'
  lay_end h = lays_none p t o o' (end_at s n p h)

  pub lay_deep : get_or s p 0 ≡ open_symbol → n ≡ 0 → Lays p t o (read_at s n p) None o'
  lay_deep e h = lays_none p t o o' (ap (λ m. read_at s m p) h ∙ deep_at s p e)

  pub lay_other : (get_or s p 0 ≡ open_symbol → ⊥) → (get_or s p 0 ≡ symbol_of Black → ⊥) → (get_or s p 0 ≡ symbol_of White → ⊥) → Lays p t o (read_at s n p) None o'
  lay_other h k l = lays_none p t o o' (other_at s n p h k l)

module _ (s : List ℕ) (n p t : ℕ) (o : List ℕ) where
  pub lay_leaf :
      (x : ℕ) → get_or s p 0 ≡ x → (x ≡ symbol_of Black) ⊎ (x ≡ symbol_of White) →
      Lays p t o (read_at s n p) (Some (record { end = p + 1; symbol = x; to = t + 1 })) o
  lay_leaf x e h = let w = either_colour h in rw w.1 (lays_leaf p t o w.0 (leaf_at s n p w.0 (e ∙ w.1)))

  pub lay_low :
      (o₁ : List ℕ) → get_or s p 0 ≡ open_symbol → (n ≡ 0 → ⊥) → Lays (p + 1) (t + 1) o (read_at s (n - 1) (p + 1)) None o₁ →
      Lays p t o (read_at s n p) None o₁
  lay_low o₁ e h w = lays_none p t o o₁ (low_missing s n p e h (unread_none (p + 1) (t + 1) (read_at s (n - 1) (p + 1)) w.tells))

  module _ (o₁ : List ℕ) (low : Laid) (w : Lays (p + 1) (t + 1) o (read_at s (n - 1) (p + 1)) (Some low) o₁) where
    low_laid : Laying (p + 1) (t + 1) low (read_at s (n - 1) (p + 1))
    low_laid = laying (p + 1) (t + 1) low (read_at s (n - 1) (p + 1)) w.tells

    -- what is written or waits is no longer than what was read, and goes on
    pub lay_shorter : t ≤ p → low.to ≤ low.end
    lay_shorter h = let l = low_laid in omega (arith, l.after, l.further, merged_size l.shape)

    at_high : read_at s (n - 1) (p + 1 + size low_laid.shape) ≡ read_at s (n - 1) low.end
    at_high = ap (read_at s (n - 1)) (sym low_laid.after)

    module _ (e : get_or s p 0 ≡ open_symbol) (h : n ≡ 0 → ⊥) (o₂ : List ℕ) where
      pub lay_high : Lays low.end low.to o₁ (read_at s (n - 1) low.end) None o₂ → Lays p t o (read_at s n p) None o₂
      lay_high v =
          lays_none p t o o₂
          (high_missing s n p e h low_laid.shape low_laid.is (at_high ∙ unread_none low.end low.to (read_at s (n - 1) low.end) v.tells))

      module _ (high : Laid) (v : Lays low.end low.to o₁ (read_at s (n - 1) low.end) (Some high) o₂) where
        high_laid : Laying low.end low.to high (read_at s (n - 1) low.end)
        high_laid = laying low.end low.to high (read_at s (n - 1) low.end) v.tells

        whole : read_at s n p ≡ read (halved low_laid.shape high_laid.shape)
        whole = both_read s n p e h low_laid.shape high_laid.shape low_laid.is (at_high ∙ high_laid.is)

        whole_after : high.end ≡ p + size (halved low_laid.shape high_laid.shape)
        unfolding size
        whole_after = omega (arith, low_laid.after, high_laid.after)

        test : (b : Bool) → is_alike low.symbol high.symbol ≡ b → is_alike (leaf_symbol (merged low_laid.shape)) (leaf_symbol (merged high_laid.shape)) ≡ b
        test b k = rw (← low_laid.symbol, ← high_laid.symbol) k

        pub lay_alike :
            is_alike low.symbol high.symbol ≡ true →
            Lays p t o (read_at s n p) (Some (record { end = high.end; symbol = low.symbol; to = t + 1 })) o₂
        unfolding size
        lay_alike k =
            let a = low_laid.shape in
            let b = high_laid.shape in
            let m = merged_same a b (test true k) in
            lays_halved p t high.end low.symbol (t + 1) o o₂ (halved a b) whole whole_after
            (low_laid.symbol ∙ ap leaf_symbol (m.1 ∙ sym m.3))
            (ap (λ z. t + size z) (sym m.3))
            (v.leaves b high_laid.is
            ∙ leaf_laid o₁ low.to m.0 m.2
            ∙ w.leaves a low_laid.is
            ∙ leaf_laid o (t + 1) m.0 m.1
            ∙ sym (leaf_laid o t m.0 m.3))

        pub lay_apart :
            (o₃ : List ℕ) → is_alike low.symbol high.symbol ≡ false → o₃ ≡ joined_halves o₂ t low.symbol low.to high.symbol →
            Lays p t o (read_at s n p) (Some (record { end = high.end; symbol = 0; to = high.to })) o₃
        unfolding size leaf_symbol
        lay_apart o₃ k j =
            let a = low_laid.shape in
            let b = high_laid.shape in
            let m = merged_apart a b (test false k) in
            lays_halved p t high.end 0 high.to o o₃ (halved a b) whole whole_after
            (sym (ap leaf_symbol m))
            (omega (arith, low_laid.further, high_laid.further, ap size m))
            (apart_laid o o₁ o₂ o₃ t low.to low.symbol high.symbol (merged a) (merged b) (w.leaves a low_laid.is) (v.leaves b high_laid.is) low_laid.further
            low_laid.symbol high_laid.symbol j
            ∙ ap (laid o t) (sym m))
