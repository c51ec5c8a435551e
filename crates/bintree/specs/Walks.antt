-- How walks over an expression meet rules 4.4, 4.6, 4.9, 4.10, 4.12 and 4.13: what each tells, from the shape that is
-- read where it begins.
use Rattle.std.specs.Prelude.{ℕ, ◌+◌, max, ◌≡◌, Bool, false, cond, List, Option, Some, None, eqb, set}
use Rattle.std.proofs.lemmas.List.Edits.{sets}
use Rattle.universe.specs.declared.Universe.{Universe}
use Rattle.universe.specs.Universe.{universe_refusal, levels}
use Rattle.bintree.specs.declared.Colour.{Colour}
use Rattle.bintree.specs.declared.Colour.TheVariants.{White, Black}
use Rattle.bintree.specs.declared.lay.Laid.{Laid}
use Rattle.bintree.specs.declared.measure.Measured.{Measured}
use Rattle.bintree.specs.declared.place.Traced.{Traced}
use Rattle.bintree.specs.Shape.{Shape, leaf, halved, open_symbol, symbol_of, symbols, size}
use Rattle.bintree.specs.Reading.{Reading, none, read, read_at}
use Rattle.bintree.specs.Merging.{merged, held_in, largest}
use Rattle.bintree.specs.Answers.{of_shape}
use Rattle.bintree.specs.Parts.{part, part_start}

-- the place after the tree that begins at p
unfoldable pub walked : ℕ → Reading → Option ℕ
walked p none = None
walked p (read a) = Some (p + size a)

-- rule 4.12: the place after the tree that begins at p; none where there is no tree, or the universe is refused
unfoldable pub tree_end : Universe → List ℕ → ℕ → Option ℕ
tree_end u s p =
    cond (eqb (universe_refusal u) 0) (of_shape (read_at s (levels u) p) None (λ a. Some (p + size a))) None

-- the colour that a symbol stands for
abbrev pub symbol_colour : ℕ → Colour
symbol_colour symbol = cond (eqb symbol (symbol_of Black)) Black White

-- the place after the tree that begins at p, and where the part at a path stands and its length
unfoldable pub traced : ℕ → Reading → List ℕ → Option Traced
traced p none path = None
traced p (read a) path =
    Some (record { end = p + size a; start = p + part_start a path; length = size (part a path) })

-- the symbol of a merged shape that is one leaf, which may still meet its brother; 0 is none
unfoldable pub leaf_symbol : Shape → ℕ
leaf_symbol (leaf c) = symbol_of c
leaf_symbol (halved a b) = 0

-- whether two shapes are leaves of one colour, by their symbols
unfoldable pub is_alike : ℕ → ℕ → Bool
is_alike low high = cond (eqb low 0) false (eqb low high)

-- room with a leaf's symbol that waited for its brother
unfoldable pub noted : List ℕ → ℕ → ℕ → List ℕ
noted out at symbol = cond (eqb symbol 0) out (set out at symbol)

-- room with `(` and the two parts behind it that are leaves
unfoldable pub joined_halves : List ℕ → ℕ → ℕ → ℕ → ℕ → List ℕ
joined_halves out to low middle high = noted (noted (noted out to open_symbol) (to + 1) low) middle high

-- room with a merged shape laid into it: all but a leaf, which waits for its brother
unfoldable pub laid : List ℕ → ℕ → Shape → List ℕ
laid out to (leaf c) = out
laid out to (halved a b) = sets out to (symbols (halved a b))

-- what laying the tree that begins at p tells, from `to` on
unfoldable pub lay_answer : ℕ → ℕ → Reading → Option Laid
lay_answer p to none = None
lay_answer p to (read a) =
    Some (record { end = p + size a; symbol = leaf_symbol (merged a); to = to + size (merged a) })

-- and what it leaves of the room where there is a tree
pub record Lays (p to : ℕ) (out : List ℕ) (x : Reading) (answer : Option Laid) (left : List ℕ) : Type 0 where
  pub tells : answer ≡ lay_answer p to x
  pub leaves : (a : Shape) → x ≡ read a → left ≡ laid out to (merged a)

-- how many symbols could still become one symbol of a colour, `run` before a halved block, once its low part came to
-- `low`
unfoldable pub run_on : ℕ → ℕ → ℕ → ℕ
run_on colour low run = cond (eqb low colour) (run + 2) 0

-- what measuring the tree that begins at p tells, where `black` symbols before it could still become one `B` and
-- `white` one `W`, and `most` is the largest count so far
unfoldable pub measure_answer : ℕ → ℕ → ℕ → ℕ → Reading → Option Measured
measure_answer p black white most none = None
measure_answer p black white most (read a) =
    Some (record {
      end = p + size a;
      symbol = leaf_symbol (merged a);
      length = size (merged a);
      held = max most (largest (held_in black white a));
    })
