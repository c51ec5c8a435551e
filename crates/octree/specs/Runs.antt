-- How one recursion over the halves of cubes meets rules 13.6 and 13.7. Inside a cube m halvings lead to its sons: so a
-- part stands for a run of 2^m sons, one straight after another, of n levels each.
use Rattle.std.specs.Prelude.{ℕ, zero, suc, ◌+◌, ◌*◌, ◌^◌, ◌≤◌, ◌≡◌, Bool, false, Option, Some, None, cond, List, [], ◌∷◌, ◌++◌, eqb, length, replicate}
use Rattle.std.proofs.lemmas.List.Edits.{sets}
use Rattle.universe.specs.Universe.{most_bits}
use Rattle.bintree.specs.declared.Colour.TheVariants.{White, Black}
use Rattle.bintree.specs.Shape.{Shape, leaf, halved, symbol_of, size}
use Rattle.bintree.specs.Reading.{Reading, none, read, read_at}
use Rattle.bintree.specs.Merging.{merged}
use Rattle.bintree.specs.Walks.{laid}
use Rattle.octree.specs.declared.Piece.{Piece}
use Rattle.octree.specs.Octree.{part_symbol, solid_symbol, Found, nothing, found, two_at, octree_at}
use Rattle.octree.specs.Parting.{shape_of}

-- no place goes past this
abbrev pub most_place : ℕ
most_place = 2 ^ (3 * most_bits + 4)

-- the leaf's symbol that a solid's is, and the solid's that a leaf's is
abbrev pub leaf_of : ℕ → ℕ
leaf_of x = cond (eqb x (solid_symbol Black)) (symbol_of Black) (symbol_of White)

abbrev pub solid_of : ℕ → ℕ
solid_of x = cond (eqb x (symbol_of Black)) (solid_symbol Black) (solid_symbol White)

-- whether two parts hold back the same symbol
unfoldable pub is_same : Option ℕ → Option ℕ → Bool
is_same None high = false
is_same (Some low) None = false
is_same (Some low) (Some high) = eqb low high

-- ---- import: a run of octrees

-- what is found, as something else
unfoldable pub as_found : {A B : Type 0} → (A → B) → Found A → Found B
as_found of nothing = nothing
as_found of (found a past) = found (of a) past

abbrev pub as_halved : Shape × Shape → Shape
as_halved p = halved p.0 p.1

-- the shape of the run of 2^m octrees of at most n levels that begins at place p
unfoldable pub run_at : List ℕ → ℕ → ℕ → ℕ → Found Shape
run_at s n zero p = as_found shape_of (octree_at s n p)
run_at s n (suc m) p = as_found as_halved (two_at (λ q. run_at s n m q) p)

-- the place past it
unfoldable pub past_run : Found Shape → Option ℕ
past_run nothing = None
past_run (found a past) = Some past

-- a run stands there, and as its shape is written from `to` on no place goes too far
pub record Importing (s : List ℕ) (n m p to : ℕ) : Type 0 where
  pub shape : Shape
  pub past : ℕ
  pub there : run_at s n m p ≡ found shape past
  pub short : to + size shape ≤ most_place

-- the symbol that is held back of a merged shape: that of one leaf
unfoldable pub held_leaf : Shape → Option ℕ
held_leaf (leaf c) = Some (symbol_of c)
held_leaf (halved a b) = None

-- what laying its merged shape from `to` on comes to: the symbol that is held back, the place past the run, and the
-- place past what is written or held back
unfoldable pub import_piece : ℕ → Found Shape → Piece
import_piece to nothing = record { held = None; next = 0; end = 0 }
import_piece to (found a past) = record { held = held_leaf (merged a); next = past; end = to + size (merged a) }

-- and what it leaves of the room
unfoldable pub import_room : List ℕ → ℕ → Found Shape → List ℕ
import_room out to nothing = out
import_room out to (found a past) = laid out to (merged a)

-- ---- export: the run of sons that a part stands for

-- the symbols of the 2^m sons of n levels that a merged part stands for
unfoldable pub son_symbols : ℕ → ℕ → Shape → List ℕ
son_symbols m n (leaf c) = replicate (2 ^ m) (solid_symbol c)
son_symbols (suc m) n (halved a b) = son_symbols m n a ++ son_symbols m n b
son_symbols zero (suc n) (halved a b) = part_symbol ∷ (son_symbols 2 n a ++ son_symbols 2 n b)
son_symbols zero zero (halved a b) = part_symbol ∷ []

-- the symbol of sons that are held back: of those that are all solids of one colour
unfoldable pub held_symbol : Shape → Option ℕ
held_symbol (leaf c) = Some (solid_symbol c)
held_symbol (halved a b) = None

-- so many of those that are held back are written at once at most: the sons of half a cube
abbrev pub most_held : ℕ
most_held = 4

-- room with a symbol that was held back, so many times
unfoldable pub filled : List ℕ → ℕ → ℕ → Option ℕ → List ℕ
filled out at count None = out
filled out at count (Some symbol) = sets out at (replicate count symbol)

-- room with the sons that a merged part stands for: all but solids of one colour, which are held back
unfoldable pub laid_sons : List ℕ → ℕ → ℕ → ℕ → Shape → List ℕ
laid_sons out to m n (leaf c) = out
laid_sons out to m n (halved a b) = sets out to (son_symbols m n (halved a b))

-- the levels of a part with m halvings to its sons, which have n levels each
abbrev pub levels_in : ℕ → ℕ → ℕ
levels_in n m = 3 * n + m

-- a part stands there, and as its sons are written from `to` on no place goes too far
pub record Exporting (s : List ℕ) (n m p to : ℕ) : Type 0 where
  pub shape : Shape
  pub there : read_at s (levels_in n m) p ≡ read shape
  pub short : to + length (son_symbols m n shape) ≤ most_place

-- what laying its sons from `to` on comes to
unfoldable pub export_piece : ℕ → ℕ → ℕ → ℕ → Reading → Piece
export_piece n m p to none = record { held = None; next = 0; end = 0 }
export_piece n m p to (read a) =
    record { held = held_symbol (merged a); next = p + size a; end = to + length (son_symbols m n (merged a)) }

-- and what it leaves of the room
unfoldable pub export_room : List ℕ → ℕ → ℕ → ℕ → Reading → List ℕ
export_room out n m to none = out
export_room out n m to (read a) = laid_sons out to m n (merged a)
