-- What a reader answers, by the byte at its place. Each law takes its premises in the form that code leaves them.
use mathlib.Core.Path.{◌≡◌, refl, sym, ap, ◌∙◌}
use mathlib.Core.List.{List, []}
use Prim.Native.Nat.{ℕ, ◌+◌, ◌≤◌, ◌<◌}
use native.Mathlib.Decide.{dec_lt}
use native.Mathlib.Omega.{arith}
use borrow.Author.Tests.{ne_eqb}
use lib.ListN.{length, get_or, get_or-eq_default}
use Rattle.std.specs.Prelude.{Option, Some, None}
use Rattle.universe.specs.declared.Universe.{Universe}
use Rattle.bintree.specs.Answers.{well_formed_refusal}
use Rattle.reader.specs.declared.Symbol.{Symbol}
use Rattle.reader.specs.declared.Symbol.TheVariants.{Halved, Black, White}
use Rattle.reader.specs.Symbols.{byte_told, symbol_of_byte, symbol_at, place_after, held_symbols}

-- an answer's byte says the answer
pub byte_symbol : (x : Option Symbol) → symbol_of_byte (byte_told x) ≡ x
unfolding symbol_of_byte
byte_symbol (Some Halved) = refl
byte_symbol (Some Black) = refl
byte_symbol (Some White) = refl
byte_symbol None = refl

-- the laws of `symbol_at`
module _ (s : List ℕ) (p : ℕ) where
  pub symbol_is : (x : Option Symbol) → get_or s p 0 ≡ byte_told x → x ≡ symbol_at s p
  unfolding symbol_at
  symbol_is x e = sym (byte_symbol x) ∙ ap symbol_of_byte (sym e)

  pub symbol_past : length s ≤ p → None ≡ symbol_at s p
  symbol_past h = symbol_is None (get_or-eq_default s 0 h)

-- the laws of `place_after`
module _ (s : List ℕ) (p : ℕ) {x : Option Symbol} (e : x ≡ symbol_at s p) where
  pub place_stays : x ≡ None → p ≡ place_after s p
  unfolding place_after
  place_stays z = rw (← e, z)

  module _ {y : Symbol} (z : x ≡ Some y) where
    pub place_moves : p + 1 ≡ place_after s p
    unfolding place_after
    place_moves = rw (← e, z)

    pub place_inside : p < length s
    place_inside = go (dec_lt p (length s))
      where
        go : Dec (p < length s) → p < length s
        go (yes h) = h
        go (no h) = let f : None ≡ Some y = symbol_past s p (omega arith) ∙ sym e ∙ z in cc

-- what is held of an expression, and the laws of `held`
module _ (u : Universe) (s : List ℕ) where
  pub holds_all : well_formed_refusal u s ≡ 0 → held_symbols u s ≡ s
  unfolding held_symbols
  holds_all e = rw e

  pub holds_nothing : (well_formed_refusal u s ≡ 0 → ⊥) → held_symbols u s ≡ []
  unfolding held_symbols
  holds_nothing n = rw (ne_eqb (well_formed_refusal u s) 0 n)
