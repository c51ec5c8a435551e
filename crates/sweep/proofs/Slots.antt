-- Laws of the functions of src/places.rt that read places (those that write them: Pushes, Pulls). The places that are still to come begin with their first, so
-- that what is asked of all of them is asked of those still to come, from what has been written on: each loop keeps that.
use mathlib.Core.Path.{◌≡◌, refl, sym, ap, ◌∙◌}
use mathlib.Core.Bool.{Bool, true, false, cond}
use mathlib.Core.List.{List, [], ◌∷◌, ◌++◌, append-nil}
use Rattle.std.specs.Prelude.{Option, Some, None}
use Prim.Native.Nat.{ℕ, suc, ◌+◌, ◌-◌, ◌≤◌, ◌<◌}
use native.Mathlib.Omega.{arith}
use Rattle.std.proofs.Common.{add-one}
use lib.Dec.{eqb}
use lib.ListN.{length, get_or, drop, set, length-set, drop_of_length-le}
use lib.Seq.{drop-cons, get_or-set_other, sets, sets-eq}
use borrow.Author.Tests.{eq-eqb, ne_eqb}
use Rattle.bintree.specs.declared.Colour.TheVariants.{Black}
use Rattle.bintree.specs.Shape.{open_symbol, symbol_of}
use Rattle.sweep.specs.Places.{any_symbol, settled, passed, past_at}

pub passed_none : (s : List ℕ) → passed s 0 ≡ 0
unfolding passed
passed_none [] = refl
passed_none (x ∷ s) = refl

-- ---- `past`: `more` trees are to come behind the one at hand

pub record Passing (s : List ℕ) (at place more : ℕ) : Type 0 where
  pub few : more ≤ place
  pub tells : place + passed (drop place s) (suc more) ≡ past_at s at

module _ (s : List ℕ) (at : ℕ) where
  pub passing_first : Passing s at at 0
  unfolding past_at
  passing_first = record { few = omega arith; tells = refl }

  module _ (place more : ℕ) (g : Passing s at place more) where
    pub passing_end : length s ≤ place → place ≡ past_at s at
    unfolding passed
    passing_end h =
        let e : passed (drop place s) (suc more) ≡ 0 = ap (λ l. passed l (suc more)) (drop_of_length-le s h) in
        omega (arith, g.tells)

    passing_step : place < length s →
        passed (drop place s) (suc more) ≡ suc (passed (drop (suc place) s) (cond (eqb (get_or s place 0) open_symbol) (suc (suc more)) more))
    unfolding passed
    passing_step h = ap (λ l. passed l (suc more)) (drop-cons s place 0 h)

    pub passing_open : place < length s → get_or s place 0 ≡ open_symbol → Passing s at (place + 1) (more + 1)
    passing_open h e =
        let p : place + 1 ≡ suc place = omega arith in
        let m : more + 1 ≡ suc more = omega arith in
        let step = passing_step h ∙ ap (λ t. suc (passed (drop (suc place) s) (cond t (suc (suc more)) more))) (eq-eqb (get_or s place 0) open_symbol e) in
        record { few = omega (arith, g.few); tells = rw (p, m) (omega (arith, g.tells, step)) }

    module _ (h : place < length s) (n : get_or s place 0 ≡ open_symbol → ⊥) where
      leaf_step : passed (drop place s) (suc more) ≡ suc (passed (drop (suc place) s) more)
      leaf_step = passing_step h ∙ ap (λ t. suc (passed (drop (suc place) s) (cond t (suc (suc more)) more))) (ne_eqb (get_or s place 0) open_symbol n)

      pub passing_leaf : (more ≡ 0 → ⊥) → Passing s at (place + 1) (more - 1)
      passing_leaf k =
          let p : place + 1 ≡ suc place = omega arith in
          let m : suc (more - 1) ≡ more = omega arith in
          record { few = omega (arith, g.few); tells = rw (p, m) (omega (arith, g.tells, leaf_step)) }

      pub passing_last : more ≡ 0 → place + 1 ≡ past_at s at
      passing_last z =
          let step = leaf_step ∙ ap (λ m. suc (passed (drop (suc place) s) m)) z in
          omega (arith, g.tells, passed_none (drop (suc place) s))

-- the places from the one at hand on begin with it
pub next_place : (places : List ℕ) (i : ℕ) → i < length places → drop i places ≡ get_or places i 0 ∷ drop (i + 1) places
next_place places i h = rw add-one (drop-cons places i 0 h)

-- ---- `settle`: what the places from the one at hand on come to, from what was found before them

module _ (s places : List ℕ) (found : Option ℕ) (i : ℕ) where
  pub settled_end : length places ≤ i → settled s found (drop i places) ≡ found
  unfolding settled any_symbol
  settled_end h = rw (drop_of_length-le places h)

  module _ (h : i < length places) where
    abbrev symbol : ℕ
    symbol = get_or s (get_or places i 0) 0

    pub settled_black : symbol ≡ symbol_of Black → settled s found (drop i places) ≡ Some symbol
    unfolding settled any_symbol
    settled_black e = rw (next_place places i h, eq-eqb symbol (symbol_of Black) e) (ap Some (sym e))

    module _ (n : symbol ≡ symbol_of Black → ⊥) where
      pub settled_open : symbol ≡ open_symbol → settled s found (drop i places) ≡ settled s None (drop (i + 1) places)
      unfolding settled any_symbol
      settled_open e =
          rw (next_place places i h, ne_eqb symbol (symbol_of Black) n, eq-eqb symbol open_symbol e) (same (any_symbol s open_symbol (drop (i + 1) places)))
        where
          same : (t : Bool) → cond (any_symbol s (symbol_of Black) (drop (i + 1) places)) (Some (symbol_of Black)) None
              ≡ cond (any_symbol s (symbol_of Black) (drop (i + 1) places)) (Some (symbol_of Black)) (cond t None None)
          same true = refl
          same false = refl

      pub settled_other : (symbol ≡ open_symbol → ⊥) → settled s found (drop i places) ≡ settled s found (drop (i + 1) places)
      unfolding settled any_symbol
      settled_other k = rw (next_place places i h, ne_eqb symbol (symbol_of Black) n, ne_eqb symbol open_symbol k)

-- ---- loops that write places: those before i are done, and the others are as they were

pub record Writing (before now : List ℕ) (i : ℕ) : Type 0 where
  pub long : length now ≡ length before
  pub same : (k : ℕ) → i ≤ k → get_or now k 0 ≡ get_or before k 0

module _ {before now : List ℕ} {i : ℕ} (g : Writing before now i) where
  -- the places still to come begin with the one at hand
  pub writing_begins : i < length before → drop i before ≡ get_or now i 0 ∷ drop (i + 1) before
  writing_begins h = next_place before i h ∙ ap (λ p. p ∷ drop (i + 1) before) (sym (g.same i (omega arith)))

  pub writing_next : (x : ℕ) → Writing before (set now i x) (i + 1)
  writing_next x = record {
    long = length-set now i x ∙ g.long;
    same = λ k l. get_or-set_other now i k x 0 (λ z. omega arith) ∙ g.same k (omega arith);
  }

-- all of some values are written in place of as many
pub sets_all : (vs before : List ℕ) → length vs ≡ length before → sets before 0 vs ≡ vs
sets_all vs before e =
    sets-eq vs before 0 (omega arith) ∙ ap (λ l. vs ++ l) (drop_of_length-le before (omega arith)) ∙ append-nil vs
