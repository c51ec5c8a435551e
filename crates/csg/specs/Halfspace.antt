-- Rules 2.1 to 2.5: rows, values at a centre, least and greatest over a block, marks.
use Rattle.std.specs.Prelude.{ℕ, suc, ◌+◌, ◌*◌, ◌/◌, ◌%◌, Bool, cond, ◌&&◌, List, ltb, leb, eqb, ℤ, pos, nat_abs, ◌+ℤ◌, ◌*ℤ◌, length, get_or}
use Rattle.std.specs.Int.Signed.{le_z}
use Rattle.lemmas.specs.Sums.{total, every}
use Rattle.universe.specs.declared.Universe.{Universe}
use Rattle.universe.specs.declared.Block.{Block}
use Rattle.universe.specs.Refusals.{unless, bad_rows}
use Rattle.universe.specs.Universe.{most_axes, offset_limit, coefficient_limit}
use Rattle.universe.specs.Block.{low_along, length_along}
use Rattle.universe.specs.Voxel.{place_along}
use Rattle.bintree.specs.declared.Colour.{Colour}
use Rattle.bintree.specs.declared.Colour.TheVariants.{White, Black}

-- rule 2.1: a0, and the coefficient of each axis
pub record Halfspace : Type 0 where
  pub offset : ℤ
  pub coefficient : ℕ → ℤ

-- rule 2.5: how many rows there may be
abbrev pub most_rows : ℕ
most_rows = 256

-- rule 2.5: rows stand in one list, five numbers each
abbrev pub row_length : ℕ
row_length = 5

abbrev pub row_count : List ℤ → ℕ
row_count rows = length rows / row_length

abbrev pub row_at : List ℤ → ℕ → Halfspace
row_at rows i =
    record { offset = get_or rows (row_length * i) (pos 0); coefficient = λ j. get_or rows (row_length * i + suc j) (pos 0) }

-- rule 2.1: each number keeps its limit, which is 0 for an axis that the universe lacks
unfoldable pub within_limits : Universe → Halfspace → Bool
within_limits u h =
    leb (nat_abs h.offset) offset_limit
    && every most_axes (λ i. leb (nat_abs (h.coefficient i)) (cond (ltb i u.axes) coefficient_limit 0))

-- rule 8.1, number 3: a row of other than five numbers, too many rows, or a number past its limit
unfoldable pub rows_refusal : Universe → List ℤ → ℕ
rows_refusal u rows =
    unless
    (eqb (length rows % row_length) 0
    && leb (row_count rows) most_rows
    && every (row_count rows) (λ i. within_limits u (row_at rows i)))
    bad_rows

-- rule 2.2: the value at a point; the halfspace holds the point where it is not negative
unfoldable pub value_at : Universe → Halfspace → (ℕ → ℕ) → ℤ
value_at u h x = h.offset +ℤ total u.axes (λ i. h.coefficient i *ℤ pos (x i))

-- rule 2.3: twice the value at the centre of a voxel, a whole number
unfoldable pub centre_value : Universe → Halfspace → List ℕ → ℤ
centre_value u h v =
    pos 2 *ℤ h.offset +ℤ total u.axes (λ i. h.coefficient i *ℤ pos (2 * place_along v i + 1))

-- rule 2.3: BLACK where it is 0 or more
unfoldable pub colour_at_centre : Universe → Halfspace → List ℕ → Colour
colour_at_centre u h v = cond (le_z (pos 0) (centre_value u h v)) Black White

-- a corner of a block: along each axis its high end where the choice says so, else its low end
abbrev pub corner : Block → (ℕ → Bool) → ℕ → ℕ
corner b choice i = cond (choice i) (low_along b i + length_along b i) (low_along b i)

-- the lesser and the greater of two whole numbers
abbrev pub lesser : ℤ → ℤ → ℤ
lesser a b = cond (le_z a b) a b

abbrev pub greater : ℤ → ℤ → ℤ
greater a b = cond (le_z a b) b a

-- what axis i gives at the low end of a block, and at its high end
abbrev pub at_low : Halfspace → Block → ℕ → ℤ
at_low h b i = h.coefficient i *ℤ pos (low_along b i)

abbrev pub at_high : Halfspace → Block → ℕ → ℤ
at_high h b i = h.coefficient i *ℤ pos (low_along b i + length_along b i)

-- rule 2.4: the least and the greatest value among a block's corners, on each axis the lesser (greater) of what its two
-- ends give
unfoldable pub least : Halfspace → Block → ℤ
least h b = h.offset +ℤ total b.universe.axes (λ i. lesser (at_low h b i) (at_high h b i))

unfoldable pub greatest : Halfspace → Block → ℤ
greatest h b = h.offset +ℤ total b.universe.axes (λ i. greater (at_low h b i) (at_high h b i))

-- decided, with its colour, or undecided
pub data Mark : Type 0 where
  decided : Colour → Mark
  undecided : Mark

-- rule 2.4: the least value is looked at first, then the greatest
unfoldable pub mark_over : Halfspace → Block → Mark
mark_over h b =
    cond (le_z (pos 0) (least h b)) (decided Black)
    (cond (le_z (greatest h b) (pos 0)) (decided White) undecided)
