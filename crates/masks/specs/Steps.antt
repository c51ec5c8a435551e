-- What each digit of a voxel's number adds to the voxel's place along an axis, by the levels left below the halving
-- that the digit stands for.
use Rattle.std.specs.Prelude.{ℕ, suc, ◌-◌, ◌*◌, cond, eqb}
use Rattle.lemmas.specs.Sums.{sum}
use Rattle.universe.specs.declared.Universe.{Universe}
use Rattle.universe.specs.Universe.{levels, axis_at, block_side}
use Rattle.masks.specs.Mask.{digit_of}

-- the axis across which a block with j + 1 levels left is halved, and how long its halves are along it
abbrev pub axis_left : Universe → ℕ → ℕ
axis_left u j = axis_at u (levels u - suc j)

abbrev pub side_left : Universe → ℕ → ℕ
side_left u j = block_side u (levels u - j) (axis_left u j)

-- what digit j adds to a voxel's place along an axis, and all digits below n of a number
abbrev pub step_along : Universe → ℕ → ℕ → ℕ
step_along u axis j = cond (eqb (axis_left u j) axis) (side_left u j) 0

unfoldable pub steps_along : Universe → ℕ → ℕ → ℕ → ℕ
steps_along u axis n i = sum n (λ j. digit_of i j * step_along u axis j)
