-- Rule 4.1: a shape, and its symbols, one byte each: `(` for a halved block, followed by its parts, `B` or `W` for a
-- block of one colour.
use Rattle.std.specs.Prelude.{ℕ, suc, ◌+◌, max, List, [], ◌∷◌, ◌++◌}
use Rattle.bintree.specs.declared.Colour.{Colour}
use Rattle.bintree.specs.declared.Colour.TheVariants.{White, Black}

-- a block of one colour, or a halved one with its low and its high part
pub data Shape : Type 0 where
  leaf : Colour → Shape
  halved : Shape → Shape → Shape

-- `(`
abbrev pub open_symbol : ℕ
open_symbol = 40

-- `B` and `W`
abbrev pub symbol_of : Colour → ℕ
symbol_of Black = 66
symbol_of White = 87

-- the expression of a shape
unfoldable pub symbols : Shape → List ℕ
symbols (leaf c) = symbol_of c ∷ []
symbols (halved a b) = open_symbol ∷ (symbols a ++ symbols b)

-- how many symbols that is
unfoldable pub size : Shape → ℕ
size (leaf c) = 1
size (halved a b) = suc (size a + size b)

-- how often a shape is halved on its deepest way
unfoldable pub depth : Shape → ℕ
depth (leaf c) = 0
depth (halved a b) = suc (max (depth a) (depth b))
