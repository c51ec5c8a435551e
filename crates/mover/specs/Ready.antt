-- What code asks on its way: a corner that is there, a stretch between two keys, one with a step; and, of the whole
-- call, that no check before 6 refuses it.
use Rattle.std.specs.Prelude.{ℕ, ◌+◌, ◌*◌, ◌^◌, ◌≤◌, ◌<◌, ◌≡◌, true, List, Float, ℤ, nat_abs, length}
use Rattle.universe.specs.declared.Universe.{Universe}
use Rattle.universe.specs.Universe.{longest_side}
use Rattle.bintree.specs.declared.Verdict.{Verdict}
use Rattle.csg.specs.Halfspace.{most_rows, row_length}
use Rattle.csg.specs.Ball.{balls_refusal}
use Rattle.csg.specs.Surfaces.{Surfaces, named}
use Rattle.csg.specs.Words.{tree_refusal}
use Rattle.standin.specs.declared.Numbers.{Numbers}
use Rattle.standin.specs.Sixteenths.{corner_limit, normal_limit}
use Rattle.standin.specs.Rows.{takes_triple}
use Rattle.standin.specs.Held.{Limited}
use Rattle.mover.specs.Keys.{Mover, corner_length, moment_at, corner_at, still_refusal, corners_refusal, keys_refusal}
use Rattle.mover.specs.Stretches.{has_step, steps_refusal}
use Rattle.mover.specs.Answers.{axes_refusal, static_refusal, largest_need}
use Rattle.mover.specs.Frames.{voxels_told}

-- a change between two corners, over some frames
abbrev pub change_limit : ℕ
change_limit = 2 * corner_limit

pub record Changing (frames : ℕ) (change : ℤ) : Type 0 where
  pub some : 0 < frames
  pub small : nat_abs change ≤ change_limit

pub record ChangingAll (frames : ℕ) (change : Numbers) : Type 0 where
  pub some : 0 < frames
  pub small : Limited change_limit change

-- what is worked back to time 0, along one axis and along all
pub record Working (moment : ℕ) (corner step : ℤ) : Type 0 where
  pub early : moment ≤ longest_side
  pub corner_small : nat_abs corner ≤ corner_limit
  pub step_small : nat_abs step ≤ normal_limit

pub record WorkingAll (moment : ℕ) (corner step : Numbers) : Type 0 where
  pub early : moment ≤ longest_side
  pub corner_small : Limited corner_limit corner
  pub step_small : Limited normal_limit step

-- so large a number worked back may be
abbrev pub back_limit : ℕ
back_limit = corner_limit + longest_side * normal_limit

-- a corner that is there whole and taken
pub record HasCorner (corners : List Float) (i : ℕ) : Type 0 where
  pub whole : corner_length * i + corner_length ≤ length corners
  pub taken : takes_triple corner_limit (corner_at corners i) ≡ true

-- a stretch between two keys
pub record HasStretch (moments : List ℕ) (corners : List Float) (i : ℕ) : Type 0 where
  pub there : i + 1 < length moments
  pub rising : moment_at moments i < moment_at moments (i + 1)
  pub early : moment_at moments (i + 1) ≤ longest_side
  pub from : HasCorner corners i
  pub to : HasCorner corners (i + 1)

-- all stretches
pub record HasStretches (moments : List ℕ) (corners : List Float) : Type 0 where
  pub each : (i : ℕ) → i + 1 < length moments → HasStretch moments corners i

-- a stretch of a mover, with a step
pub record HasBox (m : Mover) (i : ℕ) : Type 0 where
  pub still : still_refusal m.box ≡ 0
  pub stretch : HasStretch m.moments m.corners i
  pub step : has_step m.moments m.corners i ≡ true

-- how many numbers the rows of a stretch may have
abbrev pub most_numbers : ℕ
most_numbers = most_rows * row_length

-- no check before 6 refuses the call
pub record Ready (u : Universe) (m : Mover) (surfaces : Surfaces) (words : List ℕ) : Type 0 where
  pub accepted_axes : axes_refusal u ≡ 0
  pub accepted_box : still_refusal m.box ≡ 0
  pub accepted_corners : corners_refusal m.corners ≡ 0
  pub accepted_keys : keys_refusal u m.moments m.corners ≡ 0
  pub accepted_steps : steps_refusal m.moments m.corners ≡ 0
  pub accepted_rows : static_refusal u surfaces.rows ≡ 0
  pub accepted_balls : balls_refusal u surfaces.balls ≡ 0
  pub accepted_tree : tree_refusal (named surfaces) words ≡ 0

-- and stretch i is there
pub record ReadyAt (u : Universe) (m : Mover) (surfaces : Surfaces) (words : List ℕ) (i : ℕ) : Type 0 where
  pub ready : Ready u m surfaces words
  pub there : i + 1 < length m.moments

-- room for every stretch that is judged
pub record Fits (u : Universe) (m : Mover) (surfaces : Surfaces) (words out : List ℕ) : Type 0 where
  pub ready : Ready u m surfaces words
  pub room : largest_need u m surfaces words ≤ length out

-- two verdicts whose voxels can be added
pub record Joining (a b : Verdict) : Type 0 where
  pub fits : voxels_told a + voxels_told b < 2 ^ 64
