-- Rules 15.1 to 15.3: a mover is a Box that gives its size, and keys, each a moment and the near corner at that moment;
-- which movers are refused 10 and 11.
use Rattle.std.specs.Prelude.{ℕ, ◌+◌, ◌*◌, ◌-◌, Bool, false, ◌&&◌, List, ltb, leb, eqb, pos, nat_abs, ◌-ℤ◌, Float, length, get_or}
use Rattle.std.specs.Float.{nan}
use Rattle.lemmas.specs.Sums.{every}
use Rattle.universe.specs.declared.Universe.{Universe}
use Rattle.universe.specs.Refusals.{unless, bad_proxy, bad_keys}
use Rattle.universe.specs.Universe.{frame_count}
use Rattle.standin.specs.declared.Triple.{Triple}
use Rattle.standin.specs.declared.Solid.{Solid}
use Rattle.standin.specs.declared.Solid.TheVariants.{Box, Cut}
use Rattle.standin.specs.declared.Proxy.{Proxy}
use Rattle.standin.specs.declared.Numbers.{Numbers}
use Rattle.standin.specs.Sixteenths.{sixteenths, is_taken, corner_limit}
use Rattle.standin.specs.Rows.{numbers_of, alike, takes_box}
use Rattle.mover.specs.declared.step.Mover as keyed

-- rule 15.1: the Box, the keys' moments, and their near corners, three numbers each
pub record Mover : Type 0 where
  pub box : Proxy
  pub moments : List ℕ
  pub corners : List Float

abbrev pub mover_of : Proxy → List ℕ → List Float → Mover
mover_of box moments corners = record { box = box; moments = moments; corners = corners }

-- the same of what is lent
abbrev pub mover_lent : keyed.Mover → Mover
mover_lent m = mover_of m.size m.moments.now m.corners.now

-- rule 15.1: how many keys there may be, and the numbers of a corner
abbrev pub least_keys : ℕ
least_keys = 2

abbrev pub most_keys : ℕ
most_keys = 64

abbrev pub corner_length : ℕ
corner_length = 3

-- key i: its moment, its corner, and that in sixteenths; past the last number there is none
abbrev pub moment_at : List ℕ → ℕ → ℕ
moment_at moments i = get_or moments i 0

abbrev pub number_at : List Float → ℕ → Float
number_at corners i = get_or corners i nan

abbrev pub corner_at : List Float → ℕ → Triple
corner_at corners i =
    record {
      x = number_at corners (corner_length * i);
      y = number_at corners (corner_length * i + 1);
      z = number_at corners (corner_length * i + 2);
    }

abbrev pub key_corner : List Float → ℕ → Numbers
key_corner corners i = numbers_of (corner_at corners i)

-- rule 15.2: a displacement of 0 (−0.0 is 0)
unfoldable pub is_still : Triple → Bool
is_still v =
    eqb (nat_abs (sixteenths v.x)) 0 && eqb (nat_abs (sixteenths v.y)) 0 && eqb (nat_abs (sixteenths v.z)) 0

-- rule 15.2: a Box as a proxy has it, that stands still
unfoldable pub takes_still : Solid → Triple → Bool
takes_still (Box c) v = takes_box c v && is_still v
takes_still (Cut p) v = false

-- rule 15.2: the Box gives its size alone, far less near
abbrev pub less_numbers : Numbers → Numbers → Numbers
less_numbers a b = record { x = a.x -ℤ b.x; y = a.y -ℤ b.y; z = a.z -ℤ b.z }

unfoldable pub size_of : Solid → Numbers
size_of (Box c) = less_numbers (numbers_of c.far) (numbers_of c.near)
size_of (Cut p) = alike (pos 0)

-- rules 15.2 and 8.1, number 10: no Box that is taken and stands still, or a number of the corners, of all that are
-- lent, that is not taken
unfoldable pub still_refusal : Proxy → ℕ
still_refusal p = unless (takes_still p.solid p.displacement) bad_proxy

unfoldable pub corners_refusal : List Float → ℕ
corners_refusal corners =
    unless (every (length corners) (λ i. is_taken corner_limit (number_at corners i))) bad_proxy

-- rule 15.3: the moments rise, and none is past the end of the last frame
unfoldable pub is_rising : List ℕ → Bool
is_rising moments = every (length moments - 1) (λ i. ltb (moment_at moments i) (moment_at moments (i + 1)))

unfoldable pub are_within : ℕ → List ℕ → Bool
are_within most moments = every (length moments) (λ i. leb (moment_at moments i) most)

-- rules 15.3 and 8.1, number 11: too few keys or too many, not a whole corner for each, moments that do not rise or lie
-- outside
unfoldable pub keys_refusal : Universe → List ℕ → List Float → ℕ
keys_refusal u moments corners =
    unless
    (leb least_keys (length moments)
    && leb (length moments) most_keys
    && eqb (length corners) (corner_length * length moments)
    && is_rising moments
    && are_within (frame_count u) moments)
    bad_keys
