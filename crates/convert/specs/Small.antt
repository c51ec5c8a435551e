-- Numbers so small that no product and no sum of the conversion overflows: the limits of rules 1.1, 2.1 and 2.6.
use Rattle.std.specs.Prelude.{ℕ, ◌+◌, ◌*◌, ◌≤◌, ◌<◌, List, ℤ, pos, nat_abs, ◌≤ℤ◌, get_or}
use Rattle.universe.specs.Universe.{most_axes, longest_side}
use Rattle.universe.specs.Universe.{offset_limit, coefficient_limit, centre_limit, radius_limit}
use Rattle.csg.specs.Halfspace.{Halfspace}
use Rattle.csg.specs.Ball.{most_places, Ball, ball_at, ball_count}

pub record SmallCoefficient (a : ℤ) : Type 0 where
  pub most : nat_abs a ≤ coefficient_limit

-- a place of a universe, or a side
pub record SmallPlace (x : ℕ) : Type 0 where
  pub most : x ≤ longest_side

pub record SmallHalfspace (h : Halfspace) : Type 0 where
  pub offset : nat_abs h.offset ≤ offset_limit
  pub coefficient : (i : ℕ) → i < most_axes → SmallCoefficient (h.coefficient i)

pub record SmallPlaces (places : List ℕ) : Type 0 where
  pub place : (i : ℕ) → SmallPlace (get_or places i 0)

-- a number of a ball's centre
pub record BallCentre (c : ℤ) : Type 0 where
  pub most : nat_abs c ≤ centre_limit

-- so far a point of a block is from it at the most
abbrev pub gap_limit : ℕ
gap_limit = 2 * longest_side + centre_limit

pub record SmallBall (ball : Ball) : Type 0 where
  pub centre : (i : ℕ) → i < most_places → nat_abs (ball.centre i) ≤ centre_limit
  pub positive : pos 0 ≤ℤ ball.radius
  pub radius : nat_abs ball.radius ≤ radius_limit

-- what ball i asks of a block with these low places, with so many place axes
pub record BallReady (places : ℕ) (balls : List ℤ) (i : ℕ) (low : List ℕ) : Type 0 where
  pub few : places ≤ most_places
  pub named : i < ball_count balls
  pub small : SmallBall (ball_at balls i)
  pub lows : SmallPlaces low
