-- Rule 4.5: a reader keeps a lent expression with a place in it. It tells the symbol there and moves on by one; at the
-- end it answers End, which is `None`, and stays.
use Rattle.std.specs.Prelude.{ℕ, ◌+◌, ◌≡◌, cond, List, [], Option, Some, None, eqb, get_or}
use Rattle.std.specs.Borrow.{Bor}
use Rattle.universe.specs.declared.Universe.{Universe}
use Rattle.bintree.specs.declared.Colour.TheVariants as colour
use Rattle.bintree.specs.Shape.{open_symbol, symbol_of}
use Rattle.bintree.specs.Answers.{well_formed_refusal}
use Rattle.reader.specs.declared.Symbol.{Symbol}
use Rattle.reader.specs.declared.Symbol.TheVariants.{Halved, Black, White}

-- rule 4.1: the byte of each symbol
abbrev pub byte_of : Symbol → ℕ
byte_of Halved = open_symbol
byte_of Black = symbol_of colour.Black
byte_of White = symbol_of colour.White

-- that of an answer: End is no byte of an expression, and 0 stands past its end
abbrev pub byte_told : Option Symbol → ℕ
byte_told (Some x) = byte_of x
byte_told None = 0

-- the answer for a byte: the symbol it is, or End
unfoldable pub symbol_of_byte : ℕ → Option Symbol
symbol_of_byte x =
    cond (eqb x (byte_of Halved)) (Some Halved)
    (cond (eqb x (byte_of Black)) (Some Black)
    (cond (eqb x (byte_of White)) (Some White) None))

-- the answer at a place; past the end stands 0
unfoldable pub symbol_at : List ℕ → ℕ → Option Symbol
symbol_at s p = symbol_of_byte (get_or s p 0)

-- a reader moves on by one symbol, and stays at End
abbrev pub moved_on : Option Symbol → ℕ → ℕ
moved_on (Some x) p = p + 1
moved_on None p = p

unfoldable pub place_after : List ℕ → ℕ → ℕ
place_after s p = moved_on (symbol_at s p) p

-- rule 4.5: of what is refused, by 2 or 7, it keeps nothing
unfoldable pub held_symbols : Universe → List ℕ → List ℕ
held_symbols u s = cond (eqb (well_formed_refusal u s) 0) s []

-- what a reader holds that was opened: those symbols, at the front of the lent expression, the empty slice too
abbrev pub Holds : Universe → Bor (List ℕ) → Bor (List ℕ) → Type 0
Holds u lent held = (held.now ≡ held_symbols u lent.now) × (held.ref_ptr ≡ lent.ref_ptr)
