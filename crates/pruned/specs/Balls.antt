-- Numbers so small that no difference of a ball's centre and a place, and no square of one, overflows: the limits of
-- rules 1.1 and 2.6.
use Rattle.std.specs.Prelude.{ℕ, ◌+◌, ◌*◌, ◌≤◌, ℤ, nat_abs}
use Rattle.universe.specs.Universe.{longest_side, centre_limit}

-- a place that a ball's distance is taken of, the end of a block or the centre of a voxel doubled; and a number of the
-- ball's centre, there doubled too
pub record BallPlace (x : ℕ) : Type 0 where
  pub most : x ≤ 2 * longest_side + 1

pub record DoubledCentre (c : ℤ) : Type 0 where
  pub most : nat_abs c ≤ 2 * centre_limit

-- so far they are apart at the most
abbrev pub apart_limit : ℕ
apart_limit = 2 * longest_side + 1 + 2 * centre_limit
