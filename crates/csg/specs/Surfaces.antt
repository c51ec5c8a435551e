-- What the words of a tree name: the surfaces of a run, all kinds of them in one record. A kind has a field for what
-- its surfaces are, a field for how many there are, and a constructor for one of them by its index.
use Rattle.std.specs.Prelude.{ℕ, ◌<◌, List, ℤ}
use Rattle.csg.specs.Halfspace.{row_count}
use Rattle.csg.specs.Ball.{ball_count}

-- the surfaces themselves: the rows of the halfspaces, and the balls' numbers
pub record Surfaces : Type 0 where
  pub rows : List ℤ
  pub balls : List ℤ

abbrev pub surfaces_of : List ℤ → List ℤ → Surfaces
surfaces_of rows balls = record { rows = rows; balls = balls }

-- how many of each kind there are to name
pub record Named : Type 0 where
  pub halfspaces : ℕ
  pub balls : ℕ

abbrev pub named : Surfaces → Named
named surfaces = record { halfspaces = row_count surfaces.rows; balls = ball_count surfaces.balls }

-- one of them, by its index among those of its kind
pub data Surface : Type 0 where
  halfspace : ℕ → Surface
  ball : ℕ → Surface

-- it is one of those that there are
pub data IsNamed (names : Named) : Surface → Type 0 where
  halfspace_named : {i : ℕ} → i < names.halfspaces → IsNamed names (halfspace i)
  ball_named : {i : ℕ} → i < names.balls → IsNamed names (ball i)

-- rules 3.6 and 4.14: what it counts of N, and of the balls, for room
abbrev pub count_halfspace : Surface → ℕ
count_halfspace (halfspace i) = 1
count_halfspace (ball i) = 0

abbrev pub count_ball : Surface → ℕ
count_ball (halfspace i) = 0
count_ball (ball i) = 1
