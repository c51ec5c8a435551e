-- What `walk`, `well_formed` and `tree_end` answer. `rest_walked` is what the tree at hand and the high halves owed tell, one behind the other; the loop of
-- `walk` keeps it as it is, symbol by symbol: `(` puts two halves in place of a tree, a leaf is left behind. Each law takes its premises in the form that code
-- leaves them, so that the proofs of the functions are a search for the law.
use mathlib.Core.Logic.{◌⊎◌, inl, inr}
use mathlib.Core.Path.{◌≡◌, refl, sym, ap, ◌∙◌}
use mathlib.Core.List.{List, [], ◌∷◌}
use Prim.Native.Nat.{ℕ, suc, ◌+◌, ◌-◌, ◌*◌, ◌%◌, ◌^◌, ◌≤◌, ◌<◌}
use native.Mathlib.Nat.{two-pow-succ}
use native.Mathlib.Omega.{arith}
use borrow.Author.Rules.{rules}
use borrow.Author.Tests.{eq-eqb, ne_eqb}
use lib.Count.{count_trailing_zeros}
use lib.ListN.{length, get_or}
use lib.Pow.{pow_mono}
use Rattle.std.specs.Prelude.{Option, Some, None}
use Rattle.lemmas.proofs.Machine.{shifted_one}
use Rattle.universe.specs.declared.Universe.{Universe}
use Rattle.universe.specs.Refusals.{bad_expression}
use Rattle.universe.specs.Universe.{levels, most_levels, universe_refusal}
use Rattle.universe.specs.Questions.{levels_answer, voxels_left}
use Rattle.universe.proofs.Questions.{voxels_are}
use Rattle.universe.proofs.Telling.{number-not_zero}
use Rattle.bintree.specs.declared.Colour.{Colour}
use Rattle.bintree.specs.declared.Colour.TheVariants.{White, Black}
use Rattle.bintree.specs.Shape.{Shape, leaf, halved, open_symbol, symbol_of, size}
use Rattle.bintree.specs.Reading.{Reading, none, read, read_at}
use Rattle.bintree.specs.Answers.{of_shape, well_formed_refusal}
use Rattle.bintree.specs.Walks.{walked, tree_end}
use Rattle.bintree.proofs.Answers.{asked_levels, levels_most, checks_universe, checks_none, checks_read}
use Rattle.bintree.proofs.Owed.{mask, Rising, end, rising_under, rising_lower, mask_none, mask_more, mask_zero, bit_under, Due, due}
use Rattle.bintree.proofs.Reading.{leaf_at, other_at, end_at, deep_at, no_low, no_high, both_parts}
use Rattle.bintree.proofs.Reading.{expression_none, expression_read, expression_rest}

-- what is read from an answer
pub nowhere_none : (p : ℕ) (x : Reading) → None ≡ walked p x → x ≡ none
unfolding walked
nowhere_none p none w = refl
nowhere_none p (read a) w = let z : ◌≡◌ {A = ℕ} 0 1 = cc in absurd (omega arith)

pub record Passed (p q : ℕ) (x : Reading) : Type 0 where
  pub shape : Shape
  pub is : x ≡ read shape
  pub after : q ≡ p + size shape

pub passed : (p q : ℕ) (x : Reading) → Some q ≡ walked p x → Passed p q x
unfolding walked
passed p q none w = let z : ◌≡◌ {A = ℕ} 0 1 = cc in absurd (omega arith)
passed p q (read a) w = record { shape = a; is = refl; after = (cc) }

-- a tree, and what comes behind it
unfoldable pub onward : Reading → ℕ → (ℕ → Option ℕ) → Option ℕ
onward none p rest = None
onward (read a) p rest = rest (p + size a)

-- trees one behind the other from place p on, by the levels left to each: the place after the last
unfoldable pub rest_walked : List ℕ → List ℕ → ℕ → Option ℕ
rest_walked s [] p = Some p
rest_walked s (l ∷ ls) p = onward (read_at s l p) p (λ q. rest_walked s ls q)

module _ (s : List ℕ) where
  rest_one : (p l : ℕ) → rest_walked s (l ∷ []) p ≡ walked p (read_at s l p)
  unfolding rest_walked onward walked
  rest_one p l = go (read_at s l p)
    where
      go : (x : Reading) → onward x p (λ q. Some q) ≡ walked p x
      go none = refl
      go (read a) = refl

  module _ (ls : List ℕ) (p l : ℕ) where
    rest_none : read_at s l p ≡ none → rest_walked s (l ∷ ls) p ≡ None
    unfolding rest_walked onward
    rest_none e = rw e

    rest_read : (a : Shape) → read_at s l p ≡ read a → rest_walked s (l ∷ ls) p ≡ rest_walked s ls (p + size a)
    unfolding rest_walked onward
    rest_read a e = rw e

  -- `(` owes both halves
  module _ (ls : List ℕ) (p l : ℕ) (e : get_or s p 0 ≡ open_symbol) where
    rest_halved : (a b : Shape) → read_at s l (suc p) ≡ read a → read_at s l (suc p + size a) ≡ read b →
        rest_walked s (suc l ∷ ls) p ≡ rest_walked s (l ∷ l ∷ ls) (suc p)
    unfolding size
    rest_halved a b f g =
        let q : p + suc (size a + size b) ≡ suc p + size a + size b = omega arith in
        rest_read ls p (suc l) (halved a b) (both_parts s l p e a b f g)
        ∙ ap (rest_walked s ls) q
        ∙ sym (rest_read (l ∷ ls) (suc p) l a f ∙ rest_read ls (suc p + size a) l b g)

    rest_open : rest_walked s (suc l ∷ ls) p ≡ rest_walked s (l ∷ l ∷ ls) (suc p)
    rest_open = low (read_at s l (suc p)) refl
      where
        high :
            (a : Shape) → read_at s l (suc p) ≡ read a → (y : Reading) → read_at s l (suc p + size a) ≡ y →
            rest_walked s (suc l ∷ ls) p ≡ rest_walked s (l ∷ l ∷ ls) (suc p)
        high a f none g =
            rest_none ls p (suc l) (no_high s l p e a f g) ∙ sym (rest_read (l ∷ ls) (suc p) l a f ∙ rest_none ls (suc p + size a) l g)
        high a f (read b) g = rest_halved a b f g

        low : (x : Reading) → read_at s l (suc p) ≡ x → rest_walked s (suc l ∷ ls) p ≡ rest_walked s (l ∷ l ∷ ls) (suc p)
        low none f = rest_none ls p (suc l) (no_low s l p e f) ∙ sym (rest_none (l ∷ ls) (suc p) l f)
        low (read a) f = high a f (read_at s l (suc p + size a)) refl

-- where the loop of `walk` stands: a tree with l levels left begins at p, and behind it come the high halves owed; they tell what is asked
pub record Walking (s : List ℕ) (asked : Option ℕ) (p l owed : ℕ) : Type 0 where
  pub halves : List ℕ
  pub owes : owed ≡ mask halves
  pub rising : Rising l halves
  pub fits : 2 ^ l + owed ≤ 2 ^ most_levels
  pub tells : rest_walked s (l ∷ halves) p ≡ asked

-- and behind a leaf: only the high halves owed are to come
pub record Closed (s : List ℕ) (asked : Option ℕ) (p owed : ℕ) : Type 0 where
  pub halves : List ℕ
  pub owes : owed ≡ mask halves
  pub rising : Rising 0 halves
  pub fits : owed ≤ 2 ^ most_levels
  pub tells : rest_walked s halves p ≡ asked

pub walking_first : (s : List ℕ) (p l : ℕ) → l ≤ most_levels → Walking s (walked p (read_at s l p)) p l 0
walking_first s p l h =
    record { halves = []; owes = sym mask_none; rising = end; fits = omega (arith, pow_mono h); tells = rest_one s p l }

module _ {s : List ℕ} {asked : Option ℕ} {p l owed : ℕ} (g : Walking s asked p l owed) where
  pub walking_few : l ≤ most_levels
  walking_few = bit_under (omega (arith, g.fits))

  -- nowhere: past the end, `(` with no level left, no symbol
  nowhere : read_at s l p ≡ none → None ≡ asked
  nowhere e = sym (rest_none s g.halves p l e) ∙ g.tells

  pub walk_end : length s ≤ p → None ≡ asked
  walk_end h = nowhere (end_at s l p h)

  pub walk_deep : get_or s p 0 ≡ open_symbol → l ≡ 0 → None ≡ asked
  walk_deep e h = nowhere (ap (λ m. read_at s m p) h ∙ deep_at s p e)

  pub walk_other : (get_or s p 0 ≡ open_symbol → ⊥) → (get_or s p 0 ≡ symbol_of Black → ⊥) → (get_or s p 0 ≡ symbol_of White → ⊥) → None ≡ asked
  walk_other h k i = nowhere (other_at s l p h k i)

  -- `(`: the low half is next, and the high half is owed
  pub walk_below : l - 1 ≤ most_levels
  walk_below = omega (arith, walking_few)

  module _ (some : l ≡ 0 → ⊥) (bit : ℕ) (b : bit ≡ voxels_left (l - 1)) where
    split_bit : 2 ^ l ≡ bit + bit
    split_bit =
        let d : l ≡ suc (l - 1) = omega arith in
        let half : bit ≡ 2 ^ (l - 1) = b ∙ voxels_are (l - 1) (omega (arith, walking_few)) in
        ap (λ n. 2 ^ n) d ∙ two-pow-succ (l - 1) ∙ rw half

    pub walk_owes : owed + bit < 2 ^ 64
    walk_owes = omega (arith, g.fits, split_bit)

    pub walk_open : get_or s p 0 ≡ open_symbol → Walking s asked (p + 1) (l - 1) (owed + bit)
    walk_open e =
        let d : l ≡ suc (l - 1) = omega arith in
        let q : p + 1 ≡ suc p = omega arith in
        let half : bit ≡ 2 ^ (l - 1) = b ∙ voxels_are (l - 1) (omega (arith, walking_few)) in
        record {
          halves = (l - 1) ∷ g.halves;
          owes = omega (arith, g.owes, mask_more (l - 1) g.halves);
          rising = rising_lower some g.rising;
          fits = omega (arith, g.fits, split_bit);
          tells = rw q (sym (rest_open s g.halves p (l - 1) e) ∙ ap (λ n. rest_walked s (n ∷ g.halves) p) (sym d) ∙ g.tells);
        }

  leaf_behind : (c : Colour) → get_or s p 0 ≡ symbol_of c → Closed s asked (p + 1) owed
  unfolding size
  leaf_behind c e =
      record {
        halves = g.halves;
        owes = g.owes;
        rising = rising_under (omega arith) g.rising;
        fits = omega (arith, g.fits);
        tells = sym (rest_read s g.halves p l (leaf c) (leaf_at s l p c e)) ∙ g.tells;
      }

  -- a leaf of either colour is left behind
  pub walk_leaf : (get_or s p 0 ≡ symbol_of Black) ⊎ (get_or s p 0 ≡ symbol_of White) → Closed s asked (p + 1) owed
  walk_leaf (inl e) = leaf_behind Black e
  walk_leaf (inr e) = leaf_behind White e

module _ {s : List ℕ} {asked : Option ℕ} {p owed : ℕ} (g : Closed s asked p owed) where
  pub walk_past : owed ≡ 0 → Some p ≡ asked
  unfolding rest_walked
  walk_past z = ap (λ ls. rest_walked s ls p) (sym (mask_zero g.halves (sym g.owes ∙ z))) ∙ g.tells

  -- the first of the high halves owed is next
  module _ (n : owed ≡ 0 → ⊥) where
    next : Due owed g.halves
    next = due owed g.halves g.owes g.rising (omega (arith, g.fits)) n

    module _ (l : ℕ) (e : l ≡ count_trailing_zeros 64 owed) where
      first_is : l ≡ next.first
      first_is = e ∙ next.zeros

      pub next_few : l ≤ most_levels
      next_few = bit_under (omega (arith, g.fits, next.owes, ap (λ m. 2 ^ m) first_is))

      module _ (bit : ℕ) (b : bit ≡ voxels_left l) where
        owes_bit : owed ≡ bit + mask next.rest
        owes_bit = omega (arith, next.owes, voxels_are l next_few, ap (λ m. 2 ^ m) first_is)

        pub next_owed : bit ≤ owed
        next_owed = omega (arith, owes_bit)

        pub walk_next : Walking s asked p l (owed - bit)
        walk_next =
            let f = first_is in
            record {
              halves = next.rest;
              owes = omega (arith, owes_bit);
              rising = rw f (rising_under (omega arith) next.rising);
              fits = omega (arith, g.fits, next.owes, owes_bit, ap (λ m. 2 ^ m) f);
              tells = rw f (ap (λ ls. rest_walked s ls p) (sym next.are) ∙ g.tells);
            }

-- the laws of `voxels_of`: with so few levels left the shift loses nothing
pub few_shift : (n : ℕ) → n ≤ most_levels → n < 64
few_shift n h = omega arith

pub voxels_shifted : (n : ℕ) → n ≤ most_levels → (1 * 2 ^ n) % 2 ^ 64 ≡ voxels_left n
voxels_shifted n h = shifted_one n (few_shift n h) ∙ sym (voxels_are n h)

pub ruleset voxels_laws = (rules, few_shift, voxels_shifted)

-- the laws of `well_formed`: `number` is the universe's own check, `count` its levels, and the walk begins at the first symbol
module _ (u : Universe) (s : List ℕ) (number : ℕ) (e : number ≡ universe_refusal u) where
  pub formed_universe : (number ≡ 0 → ⊥) → number ≡ well_formed_refusal u s
  formed_universe n = sym (checks_universe u number e s n)

  module _ (count : ℕ) (r : Option ℕ) (z : number ≡ 0) (c : count ≡ levels_answer u) (f : r ≡ walked 0 (read_at s count 0)) where
    all_walked : r ≡ walked 0 (read_at s (levels u) 0)
    all_walked = f ∙ ap (λ n. walked 0 (read_at s n 0)) (asked_levels u number e count z c)

    pub formed_nowhere : r ≡ None → bad_expression ≡ well_formed_refusal u s
    formed_nowhere g = sym (checks_none u number e s z (expression_none u s (nowhere_none 0 (read_at s (levels u) 0) (sym g ∙ all_walked))))

    module _ (q : ℕ) (g : r ≡ Some q) where
      all_passed : Passed 0 q (read_at s (levels u) 0)
      all_passed = passed 0 q (read_at s (levels u) 0) (sym g ∙ all_walked)

      pub formed_rest : (q ≡ length s → ⊥) → bad_expression ≡ well_formed_refusal u s
      formed_rest n = let w = all_passed in sym (checks_none u number e s z (expression_rest u s w.shape w.is (λ k. n (omega (arith, w.after)))))

      pub formed_whole : q ≡ length s → 0 ≡ well_formed_refusal u s
      formed_whole k = let w = all_passed in sym (checks_read u number e s w.shape z (expression_read u s w.shape w.is (omega (arith, w.after))))

pub ruleset formed_laws = (rules, levels_most, number-not_zero, formed_universe, formed_nowhere, formed_rest, formed_whole)

-- what is read from a tree's end
module _ (u : Universe) (ok : universe_refusal u ≡ 0) (s : List ℕ) (p : ℕ) (end : Option ℕ) (e : end ≡ tree_end u s p) where
  end_is : end ≡ walked p (read_at s (levels u) p)
  unfolding tree_end walked
  end_is = e ∙ rw (eq-eqb (universe_refusal u) 0 ok) (go (read_at s (levels u) p))
    where
      go : (x : Reading) → of_shape x None (λ a. Some (p + size a)) ≡ walked p x
      go none = refl
      go (read a) = refl

  pub end_none : end ≡ None → read_at s (levels u) p ≡ none
  end_none z = nowhere_none p (read_at s (levels u) p) (sym z ∙ end_is)

  pub end_some : (q : ℕ) → end ≡ Some q → Passed p q (read_at s (levels u) p)
  end_some q z = passed p q (read_at s (levels u) p) (sym z ∙ end_is)

-- the laws of `tree_end`, likewise
module _ (u : Universe) (s : List ℕ) (p number : ℕ) (e : number ≡ universe_refusal u) where
  pub end_refused : (number ≡ 0 → ⊥) → None ≡ tree_end u s p
  unfolding tree_end
  end_refused n = rw (← e, ne_eqb number 0 n)

  pub end_told :
      (count : ℕ) (r : Option ℕ) → number ≡ 0 → count ≡ levels_answer u → r ≡ walked p (read_at s count p) → r ≡ tree_end u s p
  unfolding tree_end walked
  end_told count r z c f =
      f ∙ ap (λ n. walked p (read_at s n p)) (asked_levels u number e count z c) ∙ rw (← e, eq-eqb number 0 z) (go (read_at s (levels u) p))
    where
      go : (x : Reading) → walked p x ≡ of_shape x None (λ a. Some (p + size a))
      go none = refl
      go (read a) = refl

pub ruleset end_laws = (rules, levels_most, number-not_zero, end_refused, end_told)
