-- Rules 2.6 to 2.10: balls, distances along an axis, least and greatest over a block, marks, and colours at centres.
use Rattle.std.specs.Prelude.{ℕ, suc, ◌+◌, ◌*◌, ◌-◌, ◌/◌, ◌%◌, ◌≤◌, ◌<◌, Bool, cond, ◌&&◌, List, ltb, leb, eqb, ℤ, pos, nat_abs, ◌-ℤ◌, ◌*ℤ◌, length, get_or}
use Rattle.std.specs.Int.Signed.{le_z, lt_z}
use Rattle.lemmas.specs.Sums.{sum, total, every}
use Rattle.universe.specs.declared.Universe.{Universe}
use Rattle.universe.specs.declared.Block.{Block}
use Rattle.universe.specs.Refusals.{unless, bad_rows}
use Rattle.universe.specs.Universe.{most_axes, frame_axis, centre_limit, radius_limit}
use Rattle.universe.specs.Block.{low_along, length_along}
use Rattle.universe.specs.Voxel.{place_along}
use Rattle.bintree.specs.declared.Colour.{Colour}
use Rattle.bintree.specs.declared.Colour.TheVariants.{White, Black}
use Rattle.csg.specs.Halfspace.{Mark, decided, undecided}

-- rule 2.6: the place axes are all but the last, so there are at most so many
abbrev pub place_axes : Universe → ℕ
place_axes u = frame_axis u

abbrev pub most_places : ℕ
most_places = most_axes - 1

-- rule 2.6: the centre's number along each axis, and the radius
pub record Ball : Type 0 where
  pub centre : ℕ → ℤ
  pub radius : ℤ

-- rule 2.10: how many balls there may be; they stand in one list, four numbers each
abbrev pub most_balls : ℕ
most_balls = 64

abbrev pub ball_length : ℕ
ball_length = suc most_places

abbrev pub ball_count : List ℤ → ℕ
ball_count balls = length balls / ball_length

abbrev pub ball_at : List ℤ → ℕ → Ball
ball_at balls i =
    record {
      centre = λ j. get_or balls (ball_length * i + j) (pos 0);
      radius = get_or balls (ball_length * i + most_places) (pos 0);
    }

-- rule 2.6: the limit of the centre's number along an axis, 0 for one that is no place axis; and that of the radius
abbrev pub centre_limit_along : Universe → ℕ → ℕ
centre_limit_along u i = cond (ltb i (place_axes u)) centre_limit 0

abbrev pub radius_within : ℤ → Bool
radius_within radius = le_z (pos 0) radius && le_z radius (pos radius_limit)

unfoldable pub ball_within : Universe → Ball → Bool
ball_within u ball =
    radius_within ball.radius && every most_places (λ i. leb (nat_abs (ball.centre i)) (centre_limit_along u i))

-- rule 8.1, number 3: a ball of other than four numbers, too many balls, or a number outside its limit
unfoldable pub balls_refusal : Universe → List ℤ → ℕ
balls_refusal u balls =
    unless
    (eqb (length balls % ball_length) 0
    && leb (ball_count balls) most_balls
    && every (ball_count balls) (λ i. ball_within u (ball_at balls i)))
    bad_rows

abbrev pub square : ℕ → ℕ
square k = k * k

abbrev pub radius_squared : Ball → ℕ
radius_squared ball = square (nat_abs ball.radius)

-- how far the whole numbers x and c are apart
abbrev pub gap : ℕ → ℤ → ℕ
gap x c = nat_abs (pos x -ℤ c)

-- rule 2.8, along one axis: from c to the nearest point between l and h, and to the farther of the two
unfoldable pub nearest : ℕ → ℕ → ℤ → ℕ
nearest l h c = cond (lt_z c (pos l)) (gap l c) (cond (lt_z (pos h) c) (gap h c) 0)

unfoldable pub farthest : ℕ → ℕ → ℤ → ℕ
farthest l h c = cond (leb (gap l c) (gap h c)) (gap h c) (gap l c)

-- of a block: the squares of both, added up over the place axes
unfoldable pub near_sum : Ball → Block → ℕ
near_sum ball b =
    sum (place_axes b.universe)
    (λ i. square (nearest (low_along b i) (low_along b i + length_along b i) (ball.centre i)))

unfoldable pub far_sum : Ball → Block → ℕ
far_sum ball b =
    sum (place_axes b.universe)
    (λ i. square (farthest (low_along b i) (low_along b i + length_along b i) (ball.centre i)))

-- rule 2.8: the least and the greatest, over all points of the block, of the radius squared less the distance squared
unfoldable pub ball_least : Ball → Block → ℤ
ball_least ball b = pos (radius_squared ball) -ℤ pos (far_sum ball b)

unfoldable pub ball_greatest : Ball → Block → ℤ
ball_greatest ball b = pos (radius_squared ball) -ℤ pos (near_sum ball b)

-- rule 2.8: the least is looked at first; WHITE only where the greatest is negative
unfoldable pub ball_mark : Ball → Block → Mark
ball_mark ball b =
    cond (le_z (pos 0) (ball_least ball b)) (decided Black)
    (cond (lt_z (ball_greatest ball b) (pos 0)) (decided White) undecided)

-- from q times the centre to p along one axis; q² times the distance squared, and q² times the radius squared less it,
-- at the point p / q (rule 2.7)
abbrev pub off : ℕ → ℕ → ℤ → ℤ
off q p c = pos p -ℤ pos q *ℤ c

unfoldable pub distance_at : Universe → Ball → ℕ → (ℕ → ℕ) → ℤ
distance_at u ball q p = total (place_axes u) (λ i. off q (p i) (ball.centre i) *ℤ off q (p i) (ball.centre i))

unfoldable pub ball_value : Universe → Ball → ℕ → (ℕ → ℕ) → ℤ
ball_value u ball q p = pos (square q * radius_squared ball) -ℤ distance_at u ball q p

-- rule 2.9: at the centre of a voxel, 4·r² against the sum of (2c + 1 − 2·centre)²
unfoldable pub ball_colour : Universe → Ball → List ℕ → Colour
ball_colour u ball v =
    cond (le_z (distance_at u ball 2 (λ i. 2 * place_along v i + 1)) (pos (4 * radius_squared ball))) Black White

-- the point p / q is one of the block's
pub record HasPoint (b : Block) (q : ℕ) (p : ℕ → ℕ) : Type 0 where
  pub above : (i : ℕ) → i < b.universe.axes → q * low_along b i ≤ p i
  pub below : (i : ℕ) → i < b.universe.axes → p i ≤ q * (low_along b i + length_along b i)
