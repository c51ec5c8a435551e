-- Rule 4.4: bytes are well-formed where they are one tree, whole and alone, that is never halved at level L.
use Rattle.std.specs.Prelude.{ℕ, zero, suc, ◌+◌, true, false, cond, List, eqb, length, get_or}
use Rattle.universe.specs.declared.Universe.{Universe}
use Rattle.universe.specs.Refusals.{bad_expression}
use Rattle.universe.specs.Universe.{levels}
use Rattle.bintree.specs.declared.Colour.TheVariants.{White, Black}
use Rattle.bintree.specs.Shape.{Shape, leaf, halved, open_symbol, symbol_of, size}

-- what symbols say: no shape, or this one
pub data Reading : Type 0 where
  none : Reading
  read : Shape → Reading

-- a symbol that is no `(`
unfoldable pub read_leaf : ℕ → Reading
read_leaf x = cond (eqb x (symbol_of Black)) (read (leaf Black)) (cond (eqb x (symbol_of White)) (read (leaf White)) none)

-- two parts, the second read where the first one ends
unfoldable pub with_high : Shape → Reading → Reading
with_high a none = none
with_high a (read b) = read (halved a b)

unfoldable pub read_halves : Reading → (Shape → Reading) → Reading
read_halves none high = none
read_halves (read a) high = with_high a (high a)

-- the one tree of at most n levels that begins at place p of s; past the end stands 0, which is no symbol
unfoldable pub read_at : List ℕ → ℕ → ℕ → Reading
read_at s zero p = read_leaf (get_or s p 0)
read_at s (suc n) p =
    elim (eqb (get_or s p 0) open_symbol) [
      | true ↦ read_halves (read_at s n (suc p)) (λ a. read_at s n (suc p + size a))
      | false ↦ read_leaf (get_or s p 0)
    ]

-- a tree that is all of n symbols
unfoldable pub exactly : ℕ → Reading → Reading
exactly n none = none
exactly n (read a) = cond (eqb (size a) n) (read a) none

-- the shape that an expression is, where it is well-formed
unfoldable pub expression : Universe → List ℕ → Reading
expression u s = exactly (length s) (read_at s (levels u) 0)

-- rule 8.1, number 7: exactly where it is not
abbrev pub reading_refusal : Reading → ℕ
reading_refusal none = bad_expression
reading_refusal (read a) = 0

unfoldable pub expression_refusal : Universe → List ℕ → ℕ
expression_refusal u s = reading_refusal (expression u s)
