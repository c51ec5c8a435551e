-- How one recursion meets rules 4.2 and 4.3: what it lays of a block and joins, a shape as it is or merged. A leaf is
-- held back, for its parent to write.
use Rattle.std.specs.Prelude.{ℕ, ◌+◌, ◌-◌, ◌*◌, ◌/◌, ◌%◌, ◌^◌, ◌≤◌, ◌<◌, ◌≡◌, Bool, true, false, cond, ◌&&◌, List, eqb, ℤ, length, get_or}
use Rattle.universe.specs.declared.Universe.{Universe}
use Rattle.universe.specs.Universe.{most_axes, most_levels, levels, axis_at}
use Rattle.universe.specs.Questions.{axes_left}
use Rattle.bintree.specs.declared.Colour.TheVariants.{White, Black}
use Rattle.bintree.specs.Shape.{Shape, halved, symbol_of, size}
use Rattle.bintree.specs.Merging.{merged}
use Rattle.bintree.specs.Walks.{leaf_symbol, is_alike, joined_halves}
use Rattle.csg.specs.Surfaces.{Surfaces}
use Rattle.csg.specs.Raw.{examine}
use Rattle.convert.specs.declared.lay.Piece.{Piece}
use Rattle.convert.specs.Codes.{black_bit, bits_of}
use Rattle.convert.specs.Slots.{slots_of, most_slots, raised, lowered, halved_by, Movable}
use Rattle.convert.specs.Blocks.{Ready, Standing, Halved, Carried, trees_of, block_left, half_side, halved_sides}
use Rattle.convert.specs.Blocks.{high_lows, judged}

-- the raw shape of the block with so many levels left and these low places
unfoldable pub shape_of : Universe → Surfaces → List ℕ → List ℕ → ℕ → List ℕ → Shape
shape_of u surfaces first second left low = examine surfaces (trees_of surfaces first second) left (block_left u left low)

-- a raw shape merged, or as it is
unfoldable pub shaped : Bool → Shape → Shape
shaped true s = merged s
shaped false s = s

-- what a conversion lays of that block
abbrev pub laid_shape : Bool → Universe → Surfaces → List ℕ → List ℕ → ℕ → List ℕ → Shape
laid_shape merging u surfaces first second left low = shaped merging (shape_of u surfaces first second left low)

-- the symbol of a mark's bits
abbrev pub symbol_of_bits : ℕ → ℕ
symbol_of_bits bits = cond (eqb bits black_bit) (symbol_of Black) (symbol_of White)

-- what laying a shape from a place on comes to
abbrev pub piece_of : ℕ → Shape → Piece
piece_of at s = record { held = leaf_symbol s; end = at + size s }

-- a piece as one number, in which a call gives it back: the end, and below it what is held back, a byte
abbrev pub held_unit : ℕ
held_unit = 256

abbrev pub packed : Piece → ℕ
packed piece = piece.end * held_unit + piece.held

abbrev pub unpacked : ℕ → Piece
unpacked number = record { held = number % held_unit; end = number / held_unit }

-- every end is below this, so that a packed piece is a number of 64 bits
abbrev pub end_limit : ℕ
end_limit = 2 ^ 56

-- two halves that are laid, joined: where shapes are merged, leaves of one colour are held back as one; else `(` and
-- what was held back of the halves is written
unfoldable pub is_one : Bool → ℕ → ℕ → Bool
is_one merging below above = merging && is_alike below above

unfoldable pub joined_piece : Bool → ℕ → Piece → Piece → Piece
joined_piece merging at below above =
    cond (is_one merging below.held above.held)
    (record { held = below.held; end = at + 1 })
    (record { held = 0; end = above.end })

unfoldable pub joined_room : Bool → List ℕ → ℕ → Piece → Piece → List ℕ
joined_room merging out at below above =
    cond (is_one merging below.held above.held) out (joined_halves out at below.held below.end above.held)

-- what laying a block from a place on asks of the block
pub record Laying (u : Universe) (surfaces : Surfaces) (first second axes : List ℕ)
    (left : ℕ) (low side : List ℕ) (at : ℕ) : Type 0 where
  pub ready : Ready u surfaces first second
  pub order : axes ≡ axes_left u
  pub standing : Standing u left low side
  pub fits : at + size (shape_of u surfaces first second left low) < end_limit

-- what laying both halves of a block asks: one that is undecided is halved, across the axis of the levels left; the
-- extremes over it are carried, and it is known how often the amounts are halved for its halves
pub record Halving (u : Universe) (surfaces : Surfaces) (first second axes turns : List ℕ)
    (left : ℕ) (low side : List ℕ) (leasts greatests : List ℤ) (amounts : List ℕ) (axis at : ℕ) : Type 0 where
  pub ready : Ready u surfaces first second
  pub standing : Standing u left low side
  pub turn : axis ≡ axis_at u (levels u - left)
  pub some : 1 ≤ left
  pub place : left - 1 < most_levels
  pub within : axis < most_axes
  pub fits : at + size (shape_of u surfaces first second left low) < end_limit
  pub ends : get_or low axis 0 + half_side side axis < 2 ^ 64
  pub shape : shape_of u surfaces first second left low
      ≡ halved
      (shape_of u surfaces first second (left - 1) low)
      (shape_of u surfaces first second (left - 1) (high_lows low side axis))
  pub lower : Laying u surfaces first second axes (left - 1) low (halved_sides side axis) (at + 1)
  pub upper : (middle : ℕ) → middle ≤ at + 1 + size (shape_of u surfaces first second (left - 1) low)
      → Laying u surfaces first second axes (left - 1) (high_lows low side axis) (halved_sides side axis) middle
  pub counted : Halved u turns
  pub carried : Carried u surfaces first second left low leasts greatests amounts

-- what laying a half asks, from what is carried of the whole: its mark is known, and with the amounts from one place
-- added to the least and those from another taken off the greatest value stand the extremes over it
pub record Half (u : Universe) (surfaces : Surfaces) (first second axes turns : List ℕ) (left : ℕ) (low side : List ℕ)
    (leasts greatests : List ℤ) (amounts : List ℕ) (one other times at mark : ℕ) : Type 0 where
  pub laying : Laying u surfaces first second axes left low side at
  pub told : mark ≡ bits_of (judged surfaces (trees_of surfaces first second) left (block_left u left low))
  pub counted : Halved u turns
  pub least_moves : Movable leasts amounts one times (length (slots_of first second))
  pub greatest_moves : Movable greatests amounts other times (length (slots_of first second))
  pub least_places : length leasts ≡ most_slots
  pub greatest_places : length greatests ≡ most_slots
  pub carried : Carried u surfaces first second left low
      (raised (halved_by times amounts) one (length (slots_of first second)) leasts)
      (lowered (halved_by times amounts) other (length (slots_of first second)) greatests)
      amounts
