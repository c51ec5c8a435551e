-- The values that the recursions over blocks carry, with no product: of each row that a code names, its value at the
-- low end of the block at hand. Into a high half it moves by its coefficient times the half's length, and out of it
-- back; a row moves once however many codes name it, since its round, 0 or 1, tells whether it has moved.
use Rattle.std.specs.Prelude.{ℕ, zero, suc, ◌+◌, ◌-◌, ◌*◌, ◌/◌, ◌^◌, ◌≤◌, ◌<◌, ◌≡◌, Bool, true, false, cond, ◌&&◌, List, [], ◌∷◌, eqb, ℤ, pos, nat_abs, ◌+ℤ◌, ◌-ℤ◌, ◌*ℤ◌, length, get_or, set}
use Rattle.lemmas.specs.Sums.{total}
use Rattle.universe.specs.Universe.{most_axes, longest_side, offset_limit, coefficient_limit}
use Rattle.csg.specs.Halfspace.{Halfspace, most_rows, row_at, row_count}
use Rattle.csg.specs.Words.{first_halfspace}
use Rattle.convert.specs.Small.{SmallPlace, SmallPlaces}
use Rattle.at_once.specs.Words.{doublings_of, RowNamed}
use Rattle.at_once.specs.Values.{along_of, is_row_side, RowOver}

-- ---- lengths by doublings
-- how often 1 is doubled to each side of a block
abbrev pub times_of : List ℕ → List ℕ
times_of side =
    doublings_of (get_or side 0 0) ∷ doublings_of (get_or side 1 0) ∷ doublings_of (get_or side 2 0)
    ∷ doublings_of (get_or side 3 0) ∷ []

-- the lengths to which 1 is doubled so often
abbrev pub lengths_by : List ℕ → List ℕ
lengths_by times =
    2 ^ get_or times 0 0 ∷ 2 ^ get_or times 1 0 ∷ 2 ^ get_or times 2 0 ∷ 2 ^ get_or times 3 0 ∷ []

pub record SmallTimes (times : List ℕ) : Type 0 where
  pub few : (j : ℕ) → j < most_axes → get_or times j 0 < 64
  pub short : SmallPlaces (lengths_by times)

-- a length that is 1 doubled some times
pub record PowerPlace (length : ℕ) : Type 0 where
  pub short : SmallPlace length
  pub power : length ≡ 2 ^ doublings_of length

-- ---- values at the low end of a block
-- the row of a halfspace's side, by its code, and a row's value at the low end
abbrev pub row_of : ℕ → ℕ
row_of code = code / 2 - first_halfspace

abbrev pub low_value : Halfspace → List ℕ → ℤ
low_value h low = h.offset +ℤ total most_axes (along_of h low)

pub record RowValue (rows : List ℤ) (low : List ℕ) (values : List ℤ) (i : ℕ) : Type 0 where
  pub long : length values ≡ most_rows
  pub few : i < most_rows
  pub value_is : get_or values i (pos 0) ≡ low_value (row_at rows i) low

-- a row whose value is carried, at places that are small; and over a block with sides to which 1 is doubled so often
pub record RowPlaced (rows values : List ℤ) (i : ℕ) : Type 0 where
  pub low : List ℕ
  pub small : SmallPlaces low
  pub value : RowValue rows low values i

pub record RowStands (rows : List ℤ) (i : ℕ) (values : List ℤ) (times : List ℕ) : Type 0 where
  pub low : List ℕ
  pub side : List ℕ
  pub over : RowOver rows i low side
  pub powers : (j : ℕ) → j < over.block.universe.axes → PowerPlace (get_or side j 0)
  pub times_are : times ≡ times_of side
  pub value : RowValue rows low values i

-- the value of a leaf's row, by the leaf's code, and of each row that codes from a place on name
pub record ValueOf (rows : List ℤ) (low : List ℕ) (values : List ℤ) (code : ℕ) : Type 0 where
  pub row : is_row_side code ≡ true → RowValue rows low values (row_of code)

pub record RightValues (rows : List ℤ) (low codes : List ℕ) (from count : ℕ) (values : List ℤ) : Type 0 where
  pub at_code : (k : ℕ) → k < count → ValueOf rows low values (get_or codes (from + k) 0)

-- the same, all of them of one round
pub record ValuesAt (rows : List ℤ) (low codes : List ℕ) (from count : ℕ) (values : List ℤ) (rounds : List ℕ)
    (round : ℕ) : Type 0 where
  pub right : RightValues rows low codes from count values
  pub values_long : length values ≡ most_rows
  pub rounds_long : length rounds ≡ most_rows
  pub is_round : round ≤ 1
  pub at_round : (k : ℕ) → k < count → is_row_side (get_or codes (from + k) 0) ≡ true →
      get_or rounds (row_of (get_or codes (from + k) 0)) 0 ≡ round

-- ---- moves
-- whether one of the first n codes from a place on is of a side of this row
unfoldable pub names_row : List ℕ → ℕ → ℕ → ℕ → Bool
names_row codes from zero row = false
names_row codes from (suc n) row =
    cond (is_row_side (get_or codes (from + n) 0) && eqb (row_of (get_or codes (from + n) 0)) row) true
    (names_row codes from n row)

-- a value with an amount more, or less
abbrev pub stepped : Bool → ℤ → ℤ → ℤ
stepped up value step = cond up (value +ℤ step) (value -ℤ step)

-- what a value and an amount come to at the most
abbrev pub low_limit : ℕ
low_limit = offset_limit + most_axes * (coefficient_limit * longest_side)

pub record SmallStep (value step : ℤ) : Type 0 where
  pub value_few : nat_abs value ≤ low_limit
  pub step_few : nat_abs step ≤ coefficient_limit * longest_side

-- the amount of a row along an axis
abbrev pub step_along : List ℤ → ℕ → ℕ → ℕ → ℤ
step_along rows row axis length = (row_at rows row).coefficient axis *ℤ pos length

-- a row whose value can move
pub record RowJob (rows : List ℤ) (row axis times : ℕ) (values : List ℤ) (rounds : List ℕ) (round : ℕ) : Type 0 where
  pub named : RowNamed rows row
  pub few_rows : row_count rows ≤ most_rows
  pub axis_few : axis < most_axes
  pub times_few : times < 64
  pub short : SmallPlace (2 ^ times)
  pub values_long : length values ≡ most_rows
  pub rounds_long : length rounds ≡ most_rows
  pub is_round : round ≤ 1
  pub small : get_or rounds row 0 ≡ round → nat_abs (get_or values row (pos 0)) ≤ low_limit

-- where it is of this round it has moved
pub record RowMoved (up : Bool) (rows : List ℤ) (row axis times round : ℕ) (values : List ℤ) (rounds : List ℕ)
    (values' : List ℤ) (rounds' : List ℕ) : Type 0 where
  pub values_are : values'
      ≡ cond (eqb (get_or rounds row 0) round)
      (set values row (stepped up (get_or values row (pos 0)) (step_along rows row axis (2 ^ times)))) values
  pub rounds_are : rounds' ≡ cond (eqb (get_or rounds row 0) round) (set rounds row (1 - round)) rounds

-- codes whose rows can move by half of a block's length along an axis
pub record MoveJob (rows : List ℤ) (axis half : ℕ) (codes : List ℕ) (from count : ℕ) (values : List ℤ)
    (rounds : List ℕ) (round : ℕ) : Type 0 where
  pub axis_few : axis < most_axes
  pub power : PowerPlace half
  pub few_rows : row_count rows ≤ most_rows
  pub inside : from + count ≤ length codes
  pub bounded : length codes < 2 ^ 60
  pub values_long : length values ≡ most_rows
  pub rounds_long : length rounds ≡ most_rows
  pub is_round : round ≤ 1
  pub named : (k : ℕ) → k < count → is_row_side (get_or codes (from + k) 0) ≡ true →
      RowNamed rows (row_of (get_or codes (from + k) 0))
  pub at_round : (k : ℕ) → k < count → is_row_side (get_or codes (from + k) 0) ≡ true →
      get_or rounds (row_of (get_or codes (from + k) 0)) 0 ≡ round
  pub small : (k : ℕ) → k < count → is_row_side (get_or codes (from + k) 0) ≡ true →
      nat_abs (get_or values (row_of (get_or codes (from + k) 0)) (pos 0)) ≤ low_limit

-- they have moved, and are of the other round
pub record Moved (up : Bool) (rows : List ℤ) (axis half : ℕ) (codes : List ℕ) (from count round : ℕ)
    (values : List ℤ) (rounds : List ℕ) (values' : List ℤ) (rounds' : List ℕ) : Type 0 where
  pub values_long : length values' ≡ most_rows
  pub rounds_long : length rounds' ≡ most_rows
  pub value_is : (row : ℕ) → row < most_rows → get_or values' row (pos 0)
      ≡ cond (names_row codes from count row)
      (stepped up (get_or values row (pos 0)) (step_along rows row axis half)) (get_or values row (pos 0))
  pub round_is : (row : ℕ) → row < most_rows → get_or rounds' row 0
      ≡ cond (names_row codes from count row) (1 - round) (get_or rounds row 0)

-- values and rounds are as they were
pub record Unmoved (values : List ℤ) (rounds : List ℕ) (values' : List ℤ) (rounds' : List ℕ) : Type 0 where
  pub values_are : values' ≡ values
  pub rounds_are : rounds' ≡ rounds

-- ---- how they begin
pub record BeginJob (rows : List ℤ) (codes : List ℕ) (count : ℕ) (values : List ℤ) : Type 0 where
  pub few_rows : row_count rows ≤ most_rows
  pub inside : count ≤ length codes
  pub bounded : length codes < 2 ^ 60
  pub values_long : length values ≡ most_rows
  pub named : (k : ℕ) → k < count → is_row_side (get_or codes k 0) ≡ true → RowNamed rows (row_of (get_or codes k 0))

pub record Begun (rows : List ℤ) (codes : List ℕ) (count : ℕ) (values : List ℤ) : Type 0 where
  pub long : length values ≡ most_rows
  pub value_is : (k : ℕ) → k < count → is_row_side (get_or codes k 0) ≡ true →
      get_or values (row_of (get_or codes k 0)) (pos 0) ≡ (row_at rows (row_of (get_or codes k 0))).offset
