-- Rules 15.4 and 15.5: a stretch leads from a key to the next one. Over it the Box moves evenly, by one step a frame;
-- in sixteenths all of this is whole.
use Rattle.std.specs.Prelude.{ℕ, ◌+◌, ◌-◌, ◌/◌, ◌%◌, Bool, ◌&&◌, List, ◌++◌, leb, eqb, ℤ, pos, nat_abs, ◌+ℤ◌, ◌-ℤ◌, ◌*ℤ◌, Float, length}
use Rattle.std.specs.Int.Signed.{lt_z}
use Rattle.lemmas.specs.Sums.{every}
use Rattle.universe.specs.Refusals.{unless, bad_step}
use Rattle.csg.specs.Surfaces.{Surfaces, surfaces_of}
use Rattle.standin.specs.declared.Numbers.{Numbers}
use Rattle.standin.specs.Sixteenths.{with_sign, normal_limit}
use Rattle.standin.specs.Rows.{rows_between}
use Rattle.standin.specs.Points.{flat}
use Rattle.mover.specs.Keys.{Mover, moment_at, key_corner, less_numbers, size_of}

-- rule 15.4: stretch i leads from key i to key i + 1, so there is one fewer than keys
abbrev pub stretches : List ℕ → ℕ
stretches moments = length moments - 1

-- how many frames it has, and by how much the corner changes
abbrev pub frames_of : List ℕ → ℕ → ℕ
frames_of moments i = moment_at moments (i + 1) - moment_at moments i

abbrev pub change_of : List Float → ℕ → Numbers
change_of corners i = less_numbers (key_corner corners (i + 1)) (key_corner corners i)

-- rule 15.4: a change by so many sixteenths over n frames is a whole number of sixteenths a frame, at most 64 in size;
-- and that number
unfoldable pub is_step : ℕ → ℤ → Bool
is_step n change = eqb (nat_abs change % n) 0 && leb (nat_abs change / n) normal_limit

unfoldable pub step_of : ℕ → ℤ → ℤ
step_of n change = with_sign (lt_z change (pos 0)) (nat_abs change / n)

-- on each axis of space
abbrev pub are_steps : ℕ → Numbers → Bool
are_steps n change = is_step n change.x && is_step n change.y && is_step n change.z

abbrev pub steps_of : ℕ → Numbers → Numbers
steps_of n change = record { x = step_of n change.x; y = step_of n change.y; z = step_of n change.z }

abbrev pub has_step : List ℕ → List Float → ℕ → Bool
has_step moments corners i = are_steps (frames_of moments i) (change_of corners i)

abbrev pub step_along : Mover → ℕ → Numbers
step_along m i = steps_of (frames_of m.moments i) (change_of m.corners i)

-- rules 15.4 and 8.1, number 12: a stretch that has no step
unfoldable pub steps_refusal : List ℕ → List Float → ℕ
steps_refusal moments corners = unless (every (stretches moments) (has_step moments corners)) bad_step

-- rule 15.5: the near corner worked back from a key to time 0, and the far corner there
abbrev pub worked_back : ℕ → Numbers → Numbers → Numbers
worked_back moment corner step =
    record {
      x = corner.x -ℤ pos moment *ℤ step.x;
      y = corner.y -ℤ pos moment *ℤ step.y;
      z = corner.z -ℤ pos moment *ℤ step.z;
    }

abbrev pub more_numbers : Numbers → Numbers → Numbers
more_numbers a b = record { x = a.x +ℤ b.x; y = a.y +ℤ b.y; z = a.z +ℤ b.z }

abbrev pub near_at0 : Mover → ℕ → Numbers
near_at0 m i = worked_back (moment_at m.moments i) (key_corner m.corners i) (step_along m i)

abbrev pub far_at0 : Mover → ℕ → Numbers
far_at0 m i = more_numbers (near_at0 m i) (size_of m.box.solid)

-- rule 15.5: the Box of a stretch as six rows; they stand behind the static ones
unfoldable pub stretch_rows : Mover → ℕ → List ℤ
stretch_rows m i = flat (rows_between (near_at0 m i) (far_at0 m i) (step_along m i))

abbrev pub with_box : Surfaces → Mover → ℕ → Surfaces
with_box surfaces m i = surfaces_of (surfaces.rows ++ stretch_rows m i) surfaces.balls
