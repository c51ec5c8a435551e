-- Section 15 of the rules: what a user of keyed movers is promised, in terms of what the call answers and leaves in the
-- room, of the values of the floats that are given, and of what the verdict of two trees answers on a stretch's scene.
use Rattle.std.specs.Prelude.{ℕ, ◌+◌, ◌-◌, ◌≤◌, ◌<◌, ◌≡◌, ◌↔◌, List, ◌++◌, length, take, drop, pos}
use Rattle.universe.specs.declared.Universe.{Universe}
use Rattle.universe.specs.Refusals.{no_room, outside}
use Rattle.universe.specs.Room.{room_answer}
use Rattle.bintree.specs.declared.Colour.TheVariants.{Black}
use Rattle.bintree.specs.declared.Verdict.{Verdict}
use Rattle.bintree.specs.declared.Verdict.TheVariants.{Clear}
use Rattle.csg.specs.Halfspace.{row_count, row_at}
use Rattle.csg.specs.Surfaces.{Surfaces, named, surfaces_of}
use Rattle.csg.specs.Words.{tree_of, halfspace_words, ball_words}
use Rattle.csg.specs.Marks.{intersection_colour, tree_colour}
use Rattle.demands.specs.Verdicts.{frame_of, Judges}
use Rattle.convert.specs.Told.{ClearanceAnswer}
use Rattle.convert.specs.Answers.{clearance_answer, clearance_buffer}
use Rattle.standin.specs.declared.Triple.{Triple}
use Rattle.standin.specs.declared.Corners.{Corners}
use Rattle.standin.specs.declared.Solid.TheVariants.{Box}
use Rattle.standin.specs.Rows.{proxy_refusal, box_rows}
use Rattle.standin.specs.Points.{Point, HoldsAt, whole, centre, flat}
use Rattle.mover.specs.Keys.{Mover, moment_at}
use Rattle.mover.specs.Stretches.{stretches, frames_of, stretch_rows, with_box}
use Rattle.mover.specs.Motion.{SameThree, key_values, near_at, InBox, SameBox}
use Rattle.mover.specs.Frames.{box_tree, box_words, stretch_raw, own_colour, joined}
use Rattle.mover.specs.Answers.{mover_refusal}

-- the last frame that is judged: that before the last key's moment
abbrev pub last_judged : Mover → ℕ
last_judged m = moment_at m.moments (stretches m.moments) - 1

-- the verdict's call on the scene of stretch i, over its own frames: the static rows and balls, and the Box's six rows
-- behind; the static words, and the Box's
abbrev pub stretch_answer : Universe → Mover → Surfaces → List ℕ → ℕ → List ℕ → ClearanceAnswer
stretch_answer u m surfaces words i room =
    clearance_answer u (with_box surfaces m i) words (box_words (row_count surfaces.rows))
    (moment_at m.moments i) (moment_at m.moments (i + 1) - 1) room

abbrev pub stretch_buffer : Universe → Mover → Surfaces → List ℕ → ℕ → List ℕ → List ℕ
stretch_buffer u m surfaces words i room =
    clearance_buffer u (with_box surfaces m i) words (box_words (row_count surfaces.rows))
    (moment_at m.moments i) (moment_at m.moments (i + 1) - 1) room

-- One stretch after the other: each stretch's verdict is asked with the room that the one before left, is not refused,
-- and writes its raw expression over what is there; the verdicts are joined.
pub record OneByOne (u : Universe) (m : Mover) (surfaces : Surfaces) (words out : List ℕ)
    (answer : ClearanceAnswer) (left : List ℕ) : Type 0 where
  pub rooms : ℕ → List ℕ
  pub verdicts : ℕ → Verdict
  pub room_first : rooms 0 ≡ out
  pub verdict_first : verdicts 0 ≡ Clear
  pub accepted : (i : ℕ) → i < stretches m.moments → (stretch_answer u m surfaces words i (rooms i)).refusal ≡ 0
  pub room_next : (i : ℕ) → i < stretches m.moments → rooms (i + 1) ≡ stretch_buffer u m surfaces words i (rooms i)
  pub room_over : (i : ℕ) → i < stretches m.moments →
      let symbols = stretch_raw u m surfaces words i in rooms (i + 1) ≡ symbols ++ drop (length symbols) (rooms i)
  pub verdict_next : (i : ℕ) → i < stretches m.moments →
      verdicts (i + 1) ≡ joined (verdicts i) (stretch_answer u m surfaces words i (rooms i)).verdict
  pub room_last : rooms (stretches m.moments) ≡ left
  pub verdict_last : verdicts (stretches m.moments) ≡ answer.verdict

-- the largest of n numbers: none is larger, and one of them it is
pub record Largest (n : ℕ) (f : ℕ → ℕ) (most : ℕ) : Type 0 where
  pub each : (i : ℕ) → i < n → f i ≤ most
  pub which : ℕ
  pub there : which < n
  pub is : f which ≡ most

-- Stretch i, from a key to the next: at their moments the near corner is the keys', at every time the rows hold exactly
-- the points of the Box that moves evenly from the one to the other, and a voxel of its frames has the static tree's
-- own colour joined with the Box's, so that it is black exactly where the static tree is and that Box holds its centre.
pub record Stretching (u : Universe) (m : Mover) (surfaces : Surfaces) (words : List ℕ) (i : ℕ) : Type 0 where
  pub some : 0 < frames_of m.moments i
  pub meets_first :
      SameThree (near_at m i some (whole (pos (moment_at m.moments i)))) (key_values m.corners i)
  pub meets_next :
      SameThree (near_at m i some (whole (pos (moment_at m.moments (i + 1))))) (key_values m.corners (i + 1))
  pub moves_evenly : (q : Point) →
      ((j : ℕ) → j < 6 → HoldsAt (row_at (stretch_rows m i) j) q) ↔ InBox m i some q
  pub joins : (v : List ℕ) → moment_at m.moments i ≤ frame_of u v → frame_of u v < moment_at m.moments (i + 1) →
      own_colour u m surfaces words v
      ≡ intersection_colour
      (tree_colour surfaces u (tree_of (named surfaces) words) v)
      (tree_colour (with_box surfaces m i) u (box_tree (row_count surfaces.rows)) v)
  pub black : (v : List ℕ) → moment_at m.moments i ≤ frame_of u v → frame_of u v < moment_at m.moments (i + 1) →
      (own_colour u m surfaces words v ≡ Black)
      ↔ ((tree_colour surfaces u (tree_of (named surfaces) words) v ≡ Black) × InBox m i some (centre v))

-- The call over a mover and a static tree, lent `out`, answered `answer` and left `left` there.
pub record Keyed (u : Universe) (m : Mover) (surfaces : Surfaces) (words out : List ℕ)
    (answer : ClearanceAnswer) (left : List ℕ) : Type 0 where
  -- refused before room is asked for: that number, and no length
  pub number : (mover_refusal u m surfaces words ≡ 0 → ⊥) → answer.refusal ≡ mover_refusal u m surfaces words
  pub no_length : (mover_refusal u m surfaces words ≡ 0 → ⊥) → answer.length ≡ 0
  -- else 6 exactly where some stretch's raw expression is longer than the room, with the largest of their lengths; as
  -- much room as the room question answers for the static words and six halfspaces more suffices
  pub six : mover_refusal u m surfaces words ≡ 0 → (i : ℕ) → i < stretches m.moments →
      length out < length (stretch_raw u m surfaces words i) → answer.refusal ≡ no_room
  pub done : mover_refusal u m surfaces words ≡ 0 →
      ((i : ℕ) → i < stretches m.moments → length (stretch_raw u m surfaces words i) ≤ length out) →
      answer.refusal ≡ 0
  pub needs : mover_refusal u m surfaces words ≡ 0 → (answer.refusal ≡ 0 → ⊥) →
      Largest (stretches m.moments) (λ i. length (stretch_raw u m surfaces words i)) answer.length
  pub suffices : mover_refusal u m surfaces words ≡ 0 →
      (room_answer u (halfspace_words words + 6) (ball_words words)).symbols ≤ length out → answer.refusal ≡ 0
  pub never_nine : answer.refusal ≡ outside → ⊥
  -- whatever is refused is Clear, and the room is as it was
  pub clear : (answer.refusal ≡ 0 → ⊥) → answer.verdict ≡ Clear
  pub kept : (answer.refusal ≡ 0 → ⊥) → left ≡ out
  -- else the verdict judges the voxels of the frames from the first key's moment up to but without the last key's, each
  -- by its own stretch; and it and the room are what the stretches come to, one by one
  pub judged : answer.refusal ≡ 0 →
      Judges u (own_colour u m surfaces words) (moment_at m.moments 0) (last_judged m) answer.verdict
  pub stretch : answer.refusal ≡ 0 → (i : ℕ) → i + 1 < length m.moments → Stretching u m surfaces words i
  pub one_by_one : answer.refusal ≡ 0 → OneByOne u m surfaces words out answer left
  -- the last stretch's raw expression stands in front
  pub front : answer.refusal ≡ 0 →
      take answer.length left ≡ stretch_raw u m surfaces words (stretches m.moments - 1)
  -- a mover of two keys agrees with the same Box as a proxy with a displacement, whose six rows stand behind the static
  -- ones, over the frames of the one stretch
  pub proxy : mover_refusal u m surfaces words ≡ 0 → length m.moments ≡ 2 → (c : Corners) (v : Triple) →
      proxy_refusal (record { solid = Box c; displacement = v }) ≡ 0 → SameBox m 0 c v →
      let scene =
      surfaces_of (surfaces.rows ++ flat (box_rows (record { solid = Box c; displacement = v }))) surfaces.balls in
      let box = box_words (row_count surfaces.rows) in
      (answer ≡ clearance_answer u scene words box (moment_at m.moments 0) (last_judged m) out)
      × (left ≡ clearance_buffer u scene words box (moment_at m.moments 0) (last_judged m) out)
