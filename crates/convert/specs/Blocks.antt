-- The state of the recursion by which rule 4.2 is met: a block's low places and its sides, the levels left below it,
-- and the axis to halve.
use Rattle.std.specs.Prelude.{ℕ, zero, suc, ◌+◌, ◌-◌, ◌*◌, ◌/◌, ◌≤◌, ◌<◌, ◌≡◌, true, List, ℤ, pos, ◌+ℤ◌, ◌-ℤ◌, length, get_or, set, take}
use Rattle.lemmas.specs.Grid.{listed}
use Rattle.universe.specs.declared.Universe.{Universe}
use Rattle.universe.specs.declared.Block.{Block}
use Rattle.universe.specs.Universe.{most_axes, most_levels, universe_refusal, levels, axis_at, halvings, block_side}
use Rattle.universe.specs.Questions.{side_answer}
use Rattle.csg.specs.Halfspace.{Mark, decided, rows_refusal, least, greatest}
use Rattle.csg.specs.Ball.{balls_refusal}
use Rattle.csg.specs.Surfaces.{Surfaces, named}
use Rattle.csg.specs.Tree.{Tree}
use Rattle.csg.specs.Words.{most_words, tree_refusal, tree_of, names_halfspace, first_halfspace}
use Rattle.csg.specs.Marks.{tree_mark, tree_colour}
use Rattle.csg.specs.Raw.{both}
use Rattle.convert.specs.Small.{SmallPlace}
use Rattle.convert.specs.Slots.{rows_named, slots_of, row_in, most_slots, halved_by, Movable, Extremes, Amounts}
use Rattle.convert.specs.Codes.{bits_of, paired, centre_unit}

-- two trees that are intersected: what a run converts
abbrev pub trees_of : Surfaces → List ℕ → List ℕ → Tree
trees_of surfaces first second = both (tree_of (named surfaces) first) (tree_of (named surfaces) second)

-- no check of the input refuses it
pub record Ready (u : Universe) (surfaces : Surfaces) (first second : List ℕ) : Type 0 where
  pub accepted_universe : universe_refusal u ≡ 0
  pub accepted_rows : rows_refusal u surfaces.rows ≡ 0
  pub accepted_balls : balls_refusal u surfaces.balls ≡ 0
  pub accepted_first : tree_refusal (named surfaces) first ≡ 0
  pub accepted_second : tree_refusal (named surfaces) second ≡ 0

-- what the room of two trees asks
pub record RoomReady (u : Universe) (first second : List ℕ) : Type 0 where
  pub accepted_universe : universe_refusal u ≡ 0
  pub first_few : length first ≤ most_words
  pub second_few : length second ≤ most_words

-- the block with so many levels left and these low places
abbrev pub block_left : Universe → ℕ → List ℕ → Block
block_left u left low = record { universe = u; level = levels u - left; low = low }

-- an array holds the low places of that block, another its sides
pub record Standing (u : Universe) (left : ℕ) (low side : List ℕ) : Type 0 where
  pub above : left ≤ levels u
  pub low_places_lem : length low ≡ most_axes
  pub side_places : length side ≡ most_axes
  pub inside : (i : ℕ) → SmallPlace (get_or low i 0 + get_or side i 0)
  pub along : (i : ℕ) → i < u.axes → get_or side i 0 ≡ block_side u (levels u - left) i

-- the sides of the whole universe's block, whose low places are 0
abbrev pub whole_sides : Universe → List ℕ
whole_sides u = listed most_axes (side_answer u)

-- the axis across which a block with so many levels left is halved, in the order of the axes by levels left
abbrev pub axis_left : List ℕ → ℕ → ℕ
axis_left axes left = get_or axes (left - 1) 0

-- half a block's side along an axis; the sides of both halves, and the low places of the high one
abbrev pub half_side : List ℕ → ℕ → ℕ
half_side side axis = get_or side axis 0 / 2

abbrev pub halved_sides : List ℕ → ℕ → List ℕ
halved_sides side axis = set side axis (half_side side axis)

abbrev pub high_lows : List ℕ → List ℕ → ℕ → List ℕ
high_lows low side axis = set low axis (get_or low axis 0 + half_side side axis)

-- rule 4.2: how a block is judged, by the tree's mark, at level L by its colour at the centre
unfoldable pub judged : Surfaces → Tree → ℕ → Block → Mark
judged surfaces t zero b = decided (tree_colour surfaces b.universe t b.low)
judged surfaces t (suc n) b = tree_mark surfaces t b

-- an array holds, for a block with n + 1 levels left, how often its halves have been halved across its axis
pub record Halved (u : Universe) (turns : List ℕ) : Type 0 where
  pub places : length turns ≡ most_levels
  pub often : (n : ℕ) → n < levels u →
      get_or turns n 0 ≡ halvings u (levels u - n) (axis_at u (levels u - suc n))

-- that many times for the halves of a block with so many levels left
abbrev pub turns_left : List ℕ → ℕ → ℕ
turns_left turns left = get_or turns (left - 1) 0

-- what is carried of a block: the extremes of the slots' rows over it, and the amounts of the whole universe's sides
pub record Carried (u : Universe) (surfaces : Surfaces) (first second : List ℕ) (left : ℕ) (low : List ℕ)
    (leasts greatests : List ℤ) (amounts : List ℕ) : Type 0 where
  pub extremes : Extremes surfaces.rows (slots_of first second) (block_left u left low) leasts greatests
  pub moves : Amounts u.axes surfaces.rows (slots_of first second) (whole_sides u) amounts
  pub least_places : length leasts ≡ most_slots
  pub greatest_places : length greatests ≡ most_slots

-- the codes of how a tree is judged over two blocks
abbrev pub codes_of : Surfaces → Tree → ℕ → Block → Block → ℕ
codes_of surfaces t left b c = paired (bits_of (judged surfaces t left b)) (bits_of (judged surfaces t left c))

-- the code of what is found of a tree over a block: its mark, at level L with its colour at the centre; and over two
unfoldable pub full_code : Surfaces → Tree → ℕ → Block → ℕ
full_code surfaces t zero b =
    bits_of (tree_mark surfaces t b) + centre_unit * bits_of (decided (tree_colour surfaces b.universe t b.low))
full_code surfaces t (suc n) b = bits_of (tree_mark surfaces t b)

abbrev pub full_codes : Surfaces → Tree → ℕ → Block → Block → ℕ
full_codes surfaces t left b c = paired (full_code surfaces t left b) (full_code surfaces t left c)

-- what judging over two blocks asks: slot by slot, with the amounts from one place added to the least and those from
-- another taken off the greatest value stand the extremes of one block, the other way round those of the other
pub record Judging (u : Universe) (surfaces : Surfaces) (first second : List ℕ) (left : ℕ) (low high side : List ℕ)
    (leasts greatests : List ℤ) (amounts : List ℕ) (one other times : ℕ) : Type 0 where
  pub ready : Ready u surfaces first second
  pub below : Standing u left low side
  pub above : Standing u left high side
  pub least_moves : Movable leasts amounts one times (length (slots_of first second))
  pub greatest_moves : Movable greatests amounts other times (length (slots_of first second))
  pub below_least : (k : ℕ) → k < length (slots_of first second) →
      get_or leasts k (pos 0) +ℤ pos (get_or (halved_by times amounts) (one + k) 0)
      ≡ least (row_in surfaces.rows (slots_of first second) k) (block_left u left low)
  pub below_greatest : (k : ℕ) → k < length (slots_of first second) →
      get_or greatests k (pos 0) -ℤ pos (get_or (halved_by times amounts) (other + k) 0)
      ≡ greatest (row_in surfaces.rows (slots_of first second) k) (block_left u left low)
  pub above_least : (k : ℕ) → k < length (slots_of first second) →
      get_or leasts k (pos 0) +ℤ pos (get_or (halved_by times amounts) (other + k) 0)
      ≡ least (row_in surfaces.rows (slots_of first second) k) (block_left u left high)
  pub above_greatest : (k : ℕ) → k < length (slots_of first second) →
      get_or greatests k (pos 0) -ℤ pos (get_or (halved_by times amounts) (one + k) 0)
      ≡ greatest (row_in surfaces.rows (slots_of first second) k) (block_left u left high)

-- the rows that a tree's words name stand in the slots from one on
pub record Slots (slots words : List ℕ) (from : ℕ) : Type 0 where
  pub named : (i slot : ℕ) → slot ≡ from + length (rows_named (take i words)) → i < length words →
      names_halfspace (get_or words i 0) ≡ true →
      (slot < length slots) × (get_or slots slot 0 ≡ get_or words i 0 - first_halfspace)
