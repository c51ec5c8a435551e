-- The least and the greatest value of a row over a block: what the axes give at the block's low end, and what falls and
-- what rises from there along its sides.
use Rattle.std.specs.Prelude.{ℕ, ◌+◌, ◌*◌, ◌≤◌, ◌<◌, ◌≡◌, Bool, ◌&&◌, List, leb, ltb, ℤ, pos, ◌*ℤ◌, get_or}
use Rattle.universe.specs.declared.Block.{Block}
use Rattle.universe.specs.Universe.{most_axes}
use Rattle.universe.specs.Block.{low_along, length_along}
use Rattle.csg.specs.Halfspace.{Halfspace, row_at, row_count, least, greatest}
use Rattle.csg.specs.Words.{first_halfspace}
use Rattle.convert.specs.Small.{SmallPlace, SmallHalfspace}
use Rattle.pruned.specs.Nodes.{first_ball_side, falls}

-- what an axis gives over so many places of it, and what falls of that
abbrev pub along_of : Halfspace → List ℕ → ℕ → ℤ
along_of h places axis = h.coefficient axis *ℤ pos (get_or places axis 0)

abbrev pub fall_along : Halfspace → List ℕ → ℕ → ℤ
fall_along h places axis = falls (h.coefficient axis) (get_or places axis 0)

-- whether a leaf's code is that of a halfspace's side
abbrev pub is_row_side : ℕ → Bool
is_row_side code = leb (2 * first_halfspace) code && ltb code first_ball_side

-- a row over a block with these low places and sides: an axis that the universe lacks adds nothing, so that all four
-- are added
pub record RowOver (rows : List ℤ) (i : ℕ) (low side : List ℕ) : Type 0 where
  pub block : Block
  pub named : i < row_count rows
  pub small : SmallHalfspace (row_at rows i)
  pub few_axes : block.universe.axes ≤ most_axes
  pub beyond : (j : ℕ) → block.universe.axes ≤ j → j < most_axes → (row_at rows i).coefficient j ≡ pos 0
  pub begins : (j : ℕ) → j < block.universe.axes → get_or low j 0 ≡ low_along block j
  pub along : (j : ℕ) → j < block.universe.axes → get_or side j 0 ≡ length_along block j
  pub places : (j : ℕ) → SmallPlace (get_or low j 0 + get_or side j 0)

pub record RowFound {rows : List ℤ} {i : ℕ} {low side : List ℕ} (job : RowOver rows i low side) (x y : ℤ) : Type 0 where
  pub least_is : x ≡ least (row_at rows i) job.block
  pub greatest_is : y ≡ greatest (row_at rows i) job.block
