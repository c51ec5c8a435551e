-- How one recursion over the blocks of the result meets rule 12.2: over a block stand several trees of the expression,
-- known by their places. A list of places is kept in the first of the slots that are lent; after its block is swept
-- each of these holds the place past its tree, where a high half begins.
use Rattle.std.specs.Prelude.{ℕ, zero, suc, ◌+◌, ◌-◌, ◌*◌, ◌^◌, ◌≤◌, ◌<◌, ◌≡◌, Bool, true, false, cond, List, [], ◌∷◌, ◌++◌, map, eqb, length, get_or, take, drop, Option, Some, None}
use Rattle.universe.specs.Universe.{most_axes, most_bits, most_levels, longest_side}
use Rattle.bintree.specs.declared.Colour.TheVariants.{White, Black}
use Rattle.bintree.specs.Shape.{Shape, leaf, halved, open_symbol, symbol_of, size}
use Rattle.bintree.specs.Reading.{read, read_at}
use Rattle.bintree.specs.Merging.{merged}
use Rattle.bintree.specs.Answers.{of_shape}
use Rattle.sweep.specs.declared.block.Piece.{Piece}
use Rattle.sweep.specs.declared.block.Sweep.{Sweep}
use Rattle.sweep.specs.Sweeping.{over, swept}

-- ---- trees

-- trees of one block laid over each other
unfoldable pub unions : List Shape → Shape
unions [] = leaf White
unions (t ∷ ts) = over t (unions ts)

-- the low halves of the halved ones, and their high halves
unfoldable pub lows : List Shape → List Shape
lows [] = []
lows (leaf c ∷ ts) = lows ts
lows (halved a b ∷ ts) = a ∷ lows ts

unfoldable pub highs : List Shape → List Shape
highs [] = []
highs (leaf c ∷ ts) = highs ts
highs (halved a b ∷ ts) = b ∷ highs ts

-- how many symbols they have
unfoldable pub total : List Shape → ℕ
total [] = 0
total (t ∷ ts) = size t + total ts

-- what is written of them: laid over each other, swept and merged
abbrev pub swept_trees : List ℕ → ℕ → List Shape → Shape
swept_trees order j ts = merged (swept order j (unions ts))

-- ---- places

-- the tree of at most n levels that begins at a place
abbrev pub tree_at : List ℕ → ℕ → ℕ → Shape
tree_at s n p = of_shape (read_at s n p) (leaf White) (λ a. a)

unfoldable pub trees_at : List ℕ → ℕ → List ℕ → List Shape
trees_at s n [] = []
trees_at s n (p ∷ ps) = tree_at s n p ∷ trees_at s n ps

-- a tree of at most n levels begins at a place, and trees at these places
pub record Begins (s : List ℕ) (n p : ℕ) (t : Shape) : Type 0 where
  pub is : read_at s n p ≡ read t

pub data Stand (s : List ℕ) (n : ℕ) : List ℕ → List Shape → Type 0 where
  none : Stand s n [] []
  more : {p : ℕ} {t : Shape} {ps : List ℕ} {ts : List Shape} → Begins s n p t → Stand s n ps ts
      → Stand s n (p ∷ ps) (t ∷ ts)

-- whether a place holds a symbol, and whether one of some places does
abbrev pub is_symbol : List ℕ → ℕ → ℕ → Bool
is_symbol s x p = eqb (get_or s p 0) x

unfoldable pub any_symbol : List ℕ → ℕ → List ℕ → Bool
any_symbol s x [] = false
any_symbol s x (p ∷ ps) = cond (is_symbol s x p) true (any_symbol s x ps)

-- what some places come to: `B` where one holds it, else none where one holds `(`, else what was found before them
unfoldable pub settled : List ℕ → Option ℕ → List ℕ → Option ℕ
settled s found ps =
    cond (any_symbol s (symbol_of Black) ps) (Some (symbol_of Black)) (cond (any_symbol s open_symbol ps) None found)

-- how many symbols the first n trees of a text take, and the place past the tree that begins at p
unfoldable pub passed : List ℕ → ℕ → ℕ
passed [] n = 0
passed (x ∷ s) zero = 0
passed (x ∷ s) (suc n) = suc (passed s (cond (eqb x open_symbol) (suc (suc n)) n))

unfoldable pub past_at : List ℕ → ℕ → ℕ
past_at s p = p + passed (drop p s) 1

abbrev pub past_all : List ℕ → List ℕ → List ℕ
past_all s ps = map (past_at s) ps

-- the low halves of the halved ones, behind their `(`
unfoldable pub low_places : List ℕ → List ℕ → List ℕ
low_places s [] = []
low_places s (p ∷ ps) = cond (is_symbol s open_symbol p) (suc p ∷ low_places s ps) (low_places s ps)

-- back from the halves: past a halved tree is past its high half, past a leaf the next place
unfoldable pub pulled : List ℕ → List ℕ → List ℕ → List ℕ
pulled s [] ends = []
pulled s (p ∷ ps) [] = suc p ∷ pulled s ps []
pulled s (p ∷ ps) (e ∷ ends) =
    cond (is_symbol s open_symbol p) (e ∷ pulled s ps ends) (suc p ∷ pulled s ps (e ∷ ends))

-- they are places inside the text
pub record Inside (s ps : List ℕ) : Type 0 where
  pub inside : (i : ℕ) → i < length ps → get_or ps i 0 < length s

-- ---- blocks

-- the axes that a block with n levels left is halved across in turn, from the table by levels left
unfoldable pub order_left : List ℕ → ℕ → List ℕ
order_left axes zero = []
order_left axes (suc n) = get_or axes n 0 ∷ order_left axes n

-- the slots that n trees over a block take, theirs and those of its halves: only a level of axis j doubles their number
unfoldable pub slots_for : List ℕ → ℕ → ℕ → ℕ
slots_for [] j n = n
slots_for (x ∷ order) j n = n + slots_for order j (cond (eqb x j) (2 * n) n)

-- slots that suffice for every universe and every axis (proofs/Suffices.antt)
abbrev pub most_places : ℕ
most_places = (most_axes - 1) * 2 ^ most_bits + 2 * longest_side

-- n trees stand over a block with so many levels left, and their places in the first slots; there are as many slots
-- as suffice, and what is written or held back for the trees ends no later than they do
pub record Sweeping (w : Sweep) (left : ℕ) (work : List ℕ) (n at : ℕ) : Type 0 where
  pub few : left ≤ most_levels
  pub some : 0 < n
  pub trees : List Shape
  pub stand : Stand w.expression.now left (take n work) trees
  pub fits : slots_for (order_left w.axes.now left) w.axis n ≤ length work
  pub short : at + total trees ≤ length w.expression.now

-- n halved trees over a block, known by the places of their low halves: past these stand the high halves. The halves
-- have so many levels left; there are as many slots as suffice for `most` of them
pub record Halving (w : Sweep) (left : ℕ) (work : List ℕ) (n most at : ℕ) : Type 0 where
  pub few : left ≤ most_levels
  pub some : 0 < n
  pub low_trees : List Shape
  pub high_trees : List Shape
  pub low_stand : Stand w.expression.now left (take n work) low_trees
  pub high_stand : Stand w.expression.now left (past_all w.expression.now (take n work)) high_trees
  pub fits : slots_for (order_left w.axes.now left) w.axis most ≤ length work
  pub short : suc (at + (total low_trees + total high_trees)) ≤ length w.expression.now

-- their low halves and their high halves
abbrev pub lows_at : List ℕ → ℕ → List ℕ → ℕ → List Shape
lows_at s left work n = trees_at s left (take n work)

abbrev pub highs_at : List ℕ → ℕ → List ℕ → ℕ → List Shape
highs_at s left work n = trees_at s left (past_all s (take n work))

-- where both halves of each come into one list, and where the low halves and the high halves are swept by themselves
abbrev pub swept_across : Sweep → ℕ → List ℕ → ℕ → Shape
swept_across w left work n =
    let s = w.expression.now in
    swept_trees (order_left w.axes.now left) w.axis (lows_at s left work n ++ highs_at s left work n)

abbrev pub swept_halves : Sweep → ℕ → List ℕ → ℕ → Shape
swept_halves w left work n =
    let s = w.expression.now in
    let low = swept (order_left w.axes.now left) w.axis (unions (lows_at s left work n)) in
    let high = swept (order_left w.axes.now left) w.axis (unions (highs_at s left work n)) in
    merged (halved low high)

-- what is swept of a block
abbrev pub swept_block : Sweep → ℕ → List ℕ → ℕ → Shape
swept_block w left work n =
    swept_trees (order_left w.axes.now left) w.axis (trees_at w.expression.now left (take n work))

-- the symbol that is held back of a merged shape: that of one leaf
unfoldable pub held_leaf : Shape → Option ℕ
held_leaf (leaf c) = Some (symbol_of c)
held_leaf (halved a b) = None

-- whether two shapes hold back the same symbol
unfoldable pub is_same : Option ℕ → Option ℕ → Bool
is_same None high = false
is_same (Some low) None = false
is_same (Some low) (Some high) = eqb low high

-- what laying a shape from a place on comes to: what is held back of it, and the place past it
abbrev pub piece_of : ℕ → Shape → Piece
piece_of at s = record { held = held_leaf s; end = at + size s }
