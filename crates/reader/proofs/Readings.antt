-- Reading an expression to its end. Readers one after the other, as the contracts of `open` and `advanced` promise them, hold all of a well-formed
-- expression and stand at its places in turn, since each of its bytes is a symbol; so `current` gives its symbols in turn, and then End, which is `None`, each
-- time.
use mathlib.Core.Path.{◌≡◌, refl, sym, ap, ◌∙◌}
use mathlib.Core.List.{List, [], ◌∷◌, ◌++◌}
use Prim.Native.Nat.{ℕ, zero, suc, ◌+◌, ◌-◌, ◌≤◌, ◌<◌}
use native.Mathlib.Nat.{zero-add, suc-add}
use native.Mathlib.Decide.{ℕ_discrete}
use native.Mathlib.Numerals.{add-one}
use native.Mathlib.Omega.{arith}
use borrow.Author.Tests.{eq-eqb, ne_eqb}
use denote.Ref.{Bor}
use lib.ListN.{length, get_or}
use Rattle.std.specs.Prelude.{Option, Some, None}
use Rattle.universe.specs.declared.Universe.{Universe}
use Rattle.universe.specs.Refusals.{first_refusal}
use Rattle.universe.specs.Universe.{universe_refusal}
use Rattle.bintree.specs.declared.Colour.TheVariants as colour
use Rattle.bintree.specs.Shape.{Shape, leaf, halved, symbols}
use Rattle.bintree.specs.Reading.{expression_refusal}
use Rattle.bintree.specs.Answers.{well_formed_refusal}
use Rattle.bintree.proofs.Reading.{accepted_shape, read_is}
use Rattle.reader.specs.declared.Symbol.{Symbol}
use Rattle.reader.specs.declared.Symbol.TheVariants.{Halved, Black, White}
use Rattle.reader.specs.declared.Reader.{Reader}
use Rattle.reader.specs.Symbols.{byte_of, byte_told, symbol_at, place_after, held_symbols, Holds}
use Rattle.reader.proofs.Symbols.{symbol_is, symbol_past, place_stays, place_moves, holds_all, holds_nothing}

-- bytes that are symbols, all of them
data AllSymbols : List ℕ → Type 0 where
  no_more : AllSymbols []
  one_more : {s : List ℕ} (x : Symbol) → AllSymbols s → AllSymbols (byte_of x ∷ s)

all_append : {s t : List ℕ} → AllSymbols s → AllSymbols t → AllSymbols (s ++ t)
all_append no_more k = k
all_append (one_more x h) k = one_more x (all_append h k)

all_symbols : (a : Shape) → AllSymbols (symbols a)
unfolding symbols
all_symbols (leaf colour.Black) = one_more Black no_more
all_symbols (leaf colour.White) = one_more White no_more
all_symbols (halved a b) = one_more Halved (all_append (all_symbols a) (all_symbols b))

-- the symbol that stands at a place of such bytes
record Stands (s : List ℕ) (n : ℕ) : Type 0 where
  symbol : Symbol
  byte : get_or s n 0 ≡ byte_of symbol

symbol_there : {s : List ℕ} → AllSymbols s → (n : ℕ) → n < length s → Stands s n
symbol_there no_more n h = absurd (omega arith)
symbol_there (one_more x k) zero h = record { symbol = x; byte = refl }
symbol_there (one_more x k) (suc n) h = let w = symbol_there k n (omega arith) in record { symbol = w.symbol; byte = w.byte }

-- a well-formed expression has such bytes
rest_accepts : (n : ℕ) (ns : List ℕ) → first_refusal (n ∷ ns) ≡ 0 → first_refusal ns ≡ 0
rest_accepts n ns e = go (ℕ_discrete n 0)
  where
    go : Dec (n ≡ 0) → first_refusal ns ≡ 0
    go (yes h) = rw (eq-eqb n 0 h) at e
    go (no h) = absurd (h (rw (ne_eqb n 0 h) at e))

last_accepts : (n : ℕ) → first_refusal (n ∷ []) ≡ 0 → n ≡ 0
last_accepts n e = go (ℕ_discrete n 0)
  where
    go : Dec (n ≡ 0) → n ≡ 0
    go (yes h) = h
    go (no h) = rw (ne_eqb n 0 h) at e

well_formed_symbols : (u : Universe) (s : List ℕ) → well_formed_refusal u s ≡ 0 → AllSymbols s
well_formed_symbols u s e =
    let w = accepted_shape u s (last_accepts (expression_refusal u s) (rest_accepts (universe_refusal u) (expression_refusal u s ∷ []) e)) in
    rw (read_is u s w.0 w.1).0 at (all_symbols w.0)

-- a reader moves on inside such bytes, and stays past their end
goes_on : (s : List ℕ) → AllSymbols s → (p : ℕ) → p < length s → place_after s p ≡ suc p
goes_on s k p h =
    let w = symbol_there k p h in
    sym (place_moves s p (symbol_is s p (Some w.symbol) w.byte) refl) ∙ add-one p

stays : (s : List ℕ) (p : ℕ) → length s ≤ p → place_after s p ≡ p
stays s p h = sym (place_stays s p (symbol_past s p h) refl)

-- readers one after the other: the first one opened, each next one advanced from the one before
pub record InTurn (u : Universe) (lent : Bor (List ℕ)) (readers : ℕ → Reader) : Type 0 where
  pub opened : Holds u lent (readers 0).expression × ((readers 0).place ≡ 0)
  pub advanced : (n : ℕ)
      → ((readers (suc n)).expression ≡ (readers n).expression) × ((readers (suc n)).place ≡ place_after (readers n).expression.now (readers n).place)

-- what `current` answers of a reader
abbrev pub told : Reader → Option Symbol
told r = symbol_at r.expression.now r.place

module _ {u : Universe} {lent : Bor (List ℕ)} {readers : ℕ → Reader} (turns : InTurn u lent readers) where
  abbrev s : List ℕ
  s = lent.now

  -- each holds what the first one holds
  all_hold : (n : ℕ) → (readers n).expression.now ≡ held_symbols u s
  all_hold zero = turns.opened.0.0
  all_hold (suc n) = ap (λ x. x.now) (turns.advanced n).0 ∙ all_hold n

  module _ (ok : well_formed_refusal u s ≡ 0) where
    hold_it : (n : ℕ) → (readers n).expression.now ≡ s
    hold_it n = all_hold n ∙ holds_all u s ok

    place_then : (n : ℕ) → (readers (suc n)).place ≡ place_after s (readers n).place
    place_then n = (turns.advanced n).1 ∙ ap (λ l. place_after l (readers n).place) (hold_it n)

    stands_at : (n : ℕ) → n ≤ length s → (readers n).place ≡ n
    stands_at zero h = turns.opened.1
    stands_at (suc n) h = place_then n ∙ ap (place_after s) (stands_at n (omega arith)) ∙ goes_on s (well_formed_symbols u s ok) n (omega arith)

    stands_past : (k : ℕ) → (readers (k + length s)).place ≡ length s
    stands_past zero = ap (λ n. (readers n).place) (zero-add (length s)) ∙ stands_at (length s) (omega arith)
    stands_past (suc k) =
        ap (λ n. (readers n).place) (suc-add k (length s))
        ∙ place_then (k + length s)
        ∙ ap (place_after s) (stands_past k)
        ∙ stays s (length s) (omega arith)

    -- THEOREM: after n moves a reader gives the n-th symbol, whose byte is the n-th byte and which is not End
    pub gives_symbols : (n : ℕ) → n < length lent.now
        → (told (readers n) ≡ symbol_at lent.now n) × (byte_told (told (readers n)) ≡ get_or lent.now n 0) × (told (readers n) ≡ None → ⊥)
    gives_symbols n h =
        let w = symbol_there (well_formed_symbols u s ok) n h in
        let e : told (readers n) ≡ symbol_at s n = rw (hold_it n, stands_at n (omega arith)) in
        let f : Some w.symbol ≡ symbol_at s n = symbol_is s n (Some w.symbol) w.byte in
        (e, ap byte_told (e ∙ sym f) ∙ sym w.byte, λ k. let none : Some w.symbol ≡ None = f ∙ sym e ∙ k in cc)

    -- and past the last symbol End, each time
    pub gives_end : (n : ℕ) → length lent.now ≤ n → told (readers n) ≡ None
    gives_end n h =
        let e : n ≡ n - length s + length s = omega arith in
        let p : (readers n).place ≡ length s = ap (λ m. (readers m).place) e ∙ stands_past (n - length s) in
        rw (hold_it n, p) (sym (symbol_past s (length s) (omega arith)))

  -- THEOREM: opened with a refusal, a reader gives End at once, and each time
  pub gives_nothing : (well_formed_refusal u lent.now ≡ 0 → ⊥) → (n : ℕ) → told (readers n) ≡ None
  gives_nothing refused n =
      let e : (readers n).expression.now ≡ [] = all_hold n ∙ holds_nothing u s refused in
      rw e (sym (symbol_past [] (readers n).place (omega arith)))
