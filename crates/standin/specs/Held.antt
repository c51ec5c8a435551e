-- How the code holds the numbers of rule 6.2, Boxes and Cuts between its two steps: in sixteenths, where all of them
-- are taken. So what is held always keeps the limits.
use Rattle.std.specs.Prelude.{ℕ, ◌≤◌, Bool, false, cond, Option, Some, None, ℤ, pos, negsuc, nat_le, unsigned_abs, Float}
use Rattle.std.specs.Option.{option_map}
use Rattle.standin.specs.declared.Triple.{Triple}
use Rattle.standin.specs.declared.Corners.{Corners}
use Rattle.standin.specs.declared.Plane.{Plane}
use Rattle.standin.specs.declared.Solid.{Solid}
use Rattle.standin.specs.declared.Solid.TheVariants.{Box, Cut}
use Rattle.standin.specs.declared.Proxy.{Proxy}
use Rattle.standin.specs.declared.Numbers.{Numbers}
use Rattle.standin.specs.declared.ScaledBox.{ScaledBox}
use Rattle.standin.specs.declared.ScaledCut.{ScaledCut}
use Rattle.standin.specs.declared.Scaled.{Scaled}
use Rattle.standin.specs.declared.Scaled.TheVariants as scaled
use Rattle.standin.specs.Sixteenths.{sixteenths, is_taken, corner_limit}
use Rattle.standin.specs.Rows.{numbers_of, takes_box, takes_cut}

-- a limit of the code's is from 0 to that of a corner
abbrev pub is_limit : ℤ → Bool
is_limit (pos n) = nat_le n corner_limit
is_limit (negsuc n) = false

-- 16·x of a number that is taken
unfoldable pub held : ℕ → Float → Option ℤ
held limit x = cond (is_taken limit x) (Some (sixteenths x)) None

abbrev pub scaled_of : Float → ℤ → Option ℤ
scaled_of x limit = held (unsigned_abs limit) x

-- a Box and a Cut that are taken, with their displacement
unfoldable pub scaled_box : Corners → Triple → Option ScaledBox
scaled_box c v =
    cond (takes_box c v)
    (Some (record { near = numbers_of c.near; far = numbers_of c.far; displacement = numbers_of v }))
    None

unfoldable pub scaled_cut : Plane → Triple → Option ScaledCut
scaled_cut p v =
    cond (takes_cut p v)
    (Some (record { normal = numbers_of p.normal; offset = sixteenths p.offset; displacement = numbers_of v }))
    None

-- a proxy that is taken
abbrev pub scaled_solid : Solid → Triple → Option Scaled
scaled_solid (Box c) v = option_map scaled.Box (scaled_box c v)
scaled_solid (Cut p) v = option_map scaled.Cut (scaled_cut p v)

unfoldable pub scaled_proxy : Proxy → Option Scaled
scaled_proxy p = scaled_solid p.solid p.displacement

-- each number is at most the limit in size
pub record Limited (limit : ℕ) (a : Numbers) : Type 0 where
  pub x : unsigned_abs a.x ≤ limit
  pub y : unsigned_abs a.y ≤ limit
  pub z : unsigned_abs a.z ≤ limit
