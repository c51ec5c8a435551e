-- The masks of a tree's surfaces: rules 2.3 and 2.9, of many voxels at once. What each digit of a voxel's number adds
-- to twice a row's value at the voxel's centre; and the squares of the distances from a ball's centre, axis by axis.
use Rattle.std.specs.Prelude.{ℕ, ◌+◌, ◌*◌, ◌^◌, ℤ, pos, ◌+ℤ◌, ◌*ℤ◌}
use Rattle.std.specs.Int.Signed.{le_z}
use Rattle.lemmas.specs.Sums.{total}
use Rattle.universe.specs.declared.Universe.{Universe}
use Rattle.universe.specs.declared.Block.{Block}
use Rattle.universe.specs.Universe.{most_axes, longest_side, offset_limit, coefficient_limit, centre_limit}
use Rattle.universe.specs.Block.{low_along}
use Rattle.csg.specs.Halfspace.{Halfspace}
use Rattle.csg.specs.Ball.{Ball, place_axes, most_places, radius_squared, off, distance_at}
use Rattle.masks.specs.Mask.{digit_of, mask_of}
use Rattle.masks.specs.Steps.{axis_left, side_left, steps_along}

-- what digit j adds to twice a row's value at the voxel's centre
abbrev pub row_step : Universe → Halfspace → ℕ → ℤ
row_step u h j = pos 2 *ℤ h.coefficient (axis_left u j) *ℤ pos (side_left u j)

-- how large twice a row's value at a centre can be, and how large a step
abbrev pub value_limit : ℕ
value_limit = 2 * offset_limit + most_axes * (coefficient_limit * (2 * longest_side))

abbrev pub step_limit : ℕ
step_limit = 2 * coefficient_limit * longest_side

-- a value and a step for each digit of i that is 1, of those below n
unfoldable pub with_steps : ℤ → (ℕ → ℤ) → ℕ → ℕ → ℤ
with_steps v step n i = v +ℤ total n (λ j. pos (digit_of i j) *ℤ step j)

-- the mask of the numbers below 2^n at which that is 0 or more
unfoldable pub row_mask : ℤ → (ℕ → ℤ) → ℕ → ℕ
row_mask v step n = mask_of (2 ^ n) (λ i. le_z (pos 0) (with_steps v step n i))

-- from twice a ball's centre to twice the centre of a block's first voxel along an axis, and the sum of its squares
abbrev pub off_first : Ball → Block → ℕ → ℤ
off_first ball b axis = off 2 (2 * low_along b axis + 1) (ball.centre axis)

abbrev pub first_distance : Ball → Block → ℤ
first_distance ball b = distance_at b.universe ball 2 (λ i. 2 * low_along b i + 1)

-- how far off it can be along an axis, and how large the sum of the squares
abbrev pub off_limit : ℕ
off_limit = 2 * longest_side + 2 * centre_limit

abbrev pub distance_limit : ℕ
distance_limit = most_places * (off_limit * off_limit)

-- from twice a ball's centre to twice the centre of voxel number i of a block, along an axis
abbrev pub off_at : Ball → ℕ → Block → ℕ → ℕ → ℤ
off_at ball n b axis i =
    off 2 (2 * (low_along b axis + steps_along b.universe axis n i) + 1) (ball.centre axis)

-- the mask of the voxels of a block at whose centre a ball is BLACK: the squares along the place axes add up
unfoldable pub ball_mask : Ball → ℕ → Block → ℕ
ball_mask ball n b =
    mask_of (2 ^ n)
    (λ i. le_z (total (place_axes b.universe) (λ a. off_at ball n b a i *ℤ off_at ball n b a i))
    (pos (4 * radius_squared ball)))
