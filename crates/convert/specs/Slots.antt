-- What the recursion over blocks carries, by rules 2.3 and 2.4: every halfspace word of the two trees has a slot, in
-- the words' order, and of the row in a slot stand there the least and the greatest value over the block at hand, and
-- for each axis by how much the two move.
use Rattle.std.specs.Prelude.{ℕ, zero, suc, ◌+◌, ◌*◌, ◌-◌, ◌/◌, ◌^◌, ◌≤◌, ◌<◌, ◌≡◌, Bool, true, false, cond, List, [], ◌∷◌, ◌++◌, ℤ, pos, nat_abs, ◌+ℤ◌, ◌-ℤ◌, length, get_or, set}
use Rattle.universe.specs.declared.Block.{Block}
use Rattle.universe.specs.Universe.{most_axes, longest_side, offset_limit, coefficient_limit}
use Rattle.csg.specs.Halfspace.{Halfspace, most_rows, row_at, row_count, lesser, greater, least, greatest}
use Rattle.csg.specs.Words.{names_halfspace, first_halfspace}
use Rattle.convert.specs.Small.{SmallPlaces, SmallHalfspace}

-- the rows that the words of a tree name, one for each halfspace word, and those of two trees
unfoldable pub rows_named : List ℕ → List ℕ
rows_named [] = []
rows_named (w ∷ words) = cond (names_halfspace w) ((w - first_halfspace) ∷ rows_named words) (rows_named words)

abbrev pub slots_of : List ℕ → List ℕ → List ℕ
slots_of first second = rows_named first ++ rows_named second

abbrev pub row_in : List ℤ → List ℕ → ℕ → Halfspace
row_in rows slots k = row_at rows (get_or slots k 0)

-- how many slots there are at the most, and places for amounts: for each axis two in a slot, and one more that is 0
abbrev pub most_slots : ℕ
most_slots = 256

abbrev pub most_amounts : ℕ
most_amounts = (2 * most_axes + 1) * most_slots

-- from where on stand, for an axis, what the coefficients below 0 take off and what those above add; and the zeros
abbrev pub fall_place : ℕ → ℕ
fall_place axis = axis * (2 * most_slots)

abbrev pub rise_place : ℕ → ℕ
rise_place axis = fall_place axis + most_slots

abbrev pub no_place : ℕ
no_place = fall_place most_axes

-- the part of a coefficient above 0, or the size of the part below
abbrev pub part_of : Bool → ℤ → ℕ
part_of true a = nat_abs (greater (pos 0) a)
part_of false a = nat_abs (lesser (pos 0) a)

-- what stands from a place on, n numbers of it set anew
unfoldable pub stored : {A : Type 0} → (ℕ → A) → ℕ → ℕ → List A → List A
stored f from zero list = list
stored f from (suc n) list = set (stored f from n list) (from + n) (f n)

-- the first n values, each with its amount added, or taken off
abbrev pub raised : List ℕ → ℕ → ℕ → List ℤ → List ℤ
raised amounts from n values = stored (λ k. get_or values k (pos 0) +ℤ pos (get_or amounts (from + k) 0)) 0 n values

abbrev pub lowered : List ℕ → ℕ → ℕ → List ℤ → List ℤ
lowered amounts from n values = stored (λ k. get_or values k (pos 0) -ℤ pos (get_or amounts (from + k) 0)) 0 n values

-- amounts, each halved so many times
unfoldable pub halved_by : ℕ → List ℕ → List ℕ
halved_by times [] = []
halved_by times (a ∷ amounts) = a / 2 ^ times ∷ halved_by times amounts

-- the offsets of the first n slots' rows, and one part of their amounts along an axis of this length
abbrev pub offsets_in : List ℤ → List ℕ → ℕ → List ℤ → List ℤ
offsets_in rows slots n values = stored (λ k. (row_in rows slots k).offset) 0 n values

abbrev pub amounts_in : List ℤ → List ℕ → Bool → ℕ → ℕ → ℕ → ℕ → List ℕ → List ℕ
amounts_in rows slots above axis side from n amounts =
    stored (λ k. part_of above ((row_in rows slots k).coefficient axis) * side) from n amounts

-- what an amount and a value come to at the most
abbrev pub amount_limit : ℕ
amount_limit = coefficient_limit * longest_side

abbrev pub value_limit : ℕ
value_limit = offset_limit + most_axes * amount_limit

pub record SmallValue (x : ℤ) : Type 0 where
  pub most : nat_abs x ≤ value_limit

pub record SmallAmount (a : ℕ) : Type 0 where
  pub most : a ≤ amount_limit

-- what moving the first n values asks, by the amounts from a place on, each halved so many times
pub record Movable (values : List ℤ) (amounts : List ℕ) (from times n : ℕ) : Type 0 where
  pub few : n ≤ most_slots
  pub few_times : times < 64
  pub room : from + most_slots ≤ most_amounts
  pub value : (k : ℕ) → k < n → SmallValue (get_or values k (pos 0))
  pub amount : (k : ℕ) → k < n → SmallAmount (get_or (halved_by times amounts) (from + k) 0)

-- what stands in the slots are the extremes of their rows over a block
pub record Extremes (rows : List ℤ) (slots : List ℕ) (b : Block) (leasts greatests : List ℤ) : Type 0 where
  pub least_is : (k : ℕ) → k < length slots → get_or leasts k (pos 0) ≡ least (row_in rows slots k) b
  pub greatest_is : (k : ℕ) → k < length slots → get_or greatests k (pos 0) ≡ greatest (row_in rows slots k) b

-- the amounts are the parts of the coefficients, each times the length along its axis
pub record Amounts (axes : ℕ) (rows : List ℤ) (slots side amounts : List ℕ) : Type 0 where
  pub places : length amounts ≡ most_amounts
  pub fall_is : (i k : ℕ) → i < axes → k < length slots →
      get_or amounts (fall_place i + k) 0 ≡ part_of false ((row_in rows slots k).coefficient i) * get_or side i 0
  pub rise_is : (i k : ℕ) → i < axes → k < length slots →
      get_or amounts (rise_place i + k) 0 ≡ part_of true ((row_in rows slots k).coefficient i) * get_or side i 0

-- an array holds the rows of so many slots, each of them a row that is there and small
pub record Slotted (rows : List ℤ) (slots : List ℕ) (count : ℕ) : Type 0 where
  pub few : count ≤ most_slots
  pub few_rows : row_count rows ≤ most_rows
  pub named : (k : ℕ) → k < count → get_or slots k 0 < row_count rows
  pub small : (k : ℕ) → k < count → SmallHalfspace (row_in rows slots k)

-- the least and the greatest value of a halfspace over a block that begins at 0 along each axis and has these lengths
-- along the first n axes, and no length along the others
unfoldable pub least_to : ℕ → Halfspace → List ℕ → ℤ
least_to zero h side = h.offset
least_to (suc n) h side = least_to n h side -ℤ pos (part_of false (h.coefficient n) * get_or side n 0)

unfoldable pub greatest_to : ℕ → Halfspace → List ℕ → ℤ
greatest_to zero h side = h.offset
greatest_to (suc n) h side = greatest_to n h side +ℤ pos (part_of true (h.coefficient n) * get_or side n 0)

-- these values stand in the slots, with the amounts of the first n axes, and zeros behind the amounts
pub record Growing (rows : List ℤ) (slots : List ℕ) (count : ℕ) (side : List ℕ) (n : ℕ)
    (leasts greatests : List ℤ) (amounts : List ℕ) : Type 0 where
  pub slotted : Slotted rows slots count
  pub sides : SmallPlaces side
  pub least_places : length leasts ≡ most_slots
  pub greatest_places : length greatests ≡ most_slots
  pub places : length amounts ≡ most_amounts
  pub least_is : (k : ℕ) → k < count → get_or leasts k (pos 0) ≡ least_to n (row_in rows slots k) side
  pub greatest_is : (k : ℕ) → k < count → get_or greatests k (pos 0) ≡ greatest_to n (row_in rows slots k) side
  pub fall_is : (i k : ℕ) → i < n → k < count →
      get_or amounts (fall_place i + k) 0 ≡ part_of false ((row_in rows slots k).coefficient i) * get_or side i 0
  pub rise_is : (i k : ℕ) → i < n → k < count →
      get_or amounts (rise_place i + k) 0 ≡ part_of true ((row_in rows slots k).coefficient i) * get_or side i 0
  pub none_is : (k : ℕ) → k < most_slots → ◌≡◌ {A = ℕ} (get_or amounts (no_place + k) 0) 0
