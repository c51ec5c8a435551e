-- Rules 14.2 to 14.5: what a supervisor is promised of sure and possible contact, in terms of what the call answers, of
-- what the verdict's call answers on the same scene, and of points of space and time.
use Rattle.std.specs.Prelude.{ℕ, suc, ◌*◌, ◌≤◌, ◌<◌, ◌≡◌, List}
use Rattle.universe.specs.declared.Universe.{Universe}
use Rattle.universe.specs.Refusals.{no_room}
use Rattle.universe.specs.Universe.{side_along, frame_axis}
use Rattle.csg.specs.Surfaces.{Surfaces, named}
use Rattle.csg.specs.Words.{tree_of}
use Rattle.csg.specs.Marks.{intersection_colour, tree_colour}
use Rattle.csg.specs.Raw.{both}
use Rattle.demands.specs.Voxels.{Colouring}
use Rattle.contacts.specs.Contacts.{sure_colour, possible_colour, window_voxels}
use Rattle.contacts.specs.Points.{InsideTree}
use Rattle.contacts.specs.Middle.{VerdictOf}
use Rattle.convert.specs.Answers.{clearance_refusal, clearance_answer}
use Rattle.at_once.specs.Told.{ContactsAnswer}

-- a voxel is black in both trees at its centre
abbrev pub shared_colour : Universe → Surfaces → List ℕ → List ℕ → Colouring
shared_colour u surfaces first second v =
    intersection_colour
    (tree_colour surfaces u (tree_of (named surfaces) first) v)
    (tree_colour surfaces u (tree_of (named surfaces) second) v)

-- A point of space and time, its places p / q: in the universe, at a time from the beginning of frame `from` to the end
-- of frame `to`.
pub record PointWithin (u : Universe) (from to q : ℕ) (p : ℕ → ℕ) : Type 0 where
  pub some : 0 < q
  pub inside : (i : ℕ) → i < frame_axis u → p i ≤ q * side_along u i
  pub begins : q * from ≤ p (frame_axis u)
  pub ends : p (frame_axis u) ≤ q * suc to

-- The call over two trees and the frames `from` to `to`, both ends in, answered `answer`.
pub record Contacted
    (u : Universe) (surfaces : Surfaces) (first second : List ℕ) (from to : ℕ) (answer : ContactsAnswer) : Type 0 where
  -- it is refused as the verdict is before room is asked for, never for room, and then all counts are 0
  pub number : answer.refusal ≡ clearance_refusal u surfaces first second from to
  pub never_six : answer.refusal ≡ no_room → ⊥
  pub zeros : (answer.refusal ≡ 0 → ⊥) → (answer.sure ≡ 0) × (answer.centre ≡ 0) × (answer.possible ≡ 0)
  -- each count is the number of voxels of the window with its property, one by one: over the voxel's own block the
  -- intersection is decided BLACK; both trees are BLACK at its centre; over its own block it is not decided WHITE
  pub sure : answer.refusal ≡ 0 → answer.sure
      ≡ window_voxels u (sure_colour surfaces u (both (tree_of (named surfaces) first) (tree_of (named surfaces) second)))
      from to
  pub centre : answer.refusal ≡ 0 → answer.centre ≡ window_voxels u (shared_colour u surfaces first second) from to
  pub possible : answer.refusal ≡ 0 → answer.possible
      ≡ window_voxels u
      (possible_colour surfaces u (both (tree_of (named surfaces) first) (tree_of (named surfaces) second)))
      from to
  -- they never decrease in this order
  pub sure_centre : answer.sure ≤ answer.centre
  pub centre_possible : answer.centre ≤ answer.possible
  -- the verdict that is answered on the same scene, whatever room is lent, is the centre count's
  pub middle : (out : List ℕ) → (clearance_answer u surfaces first second from to out).refusal ≡ 0 →
      VerdictOf answer.centre (clearance_answer u surfaces first second from to out).verdict
  -- where no voxel is possible, no point of the universe lies strictly inside both trees at any time of the window
  pub apart : answer.refusal ≡ 0 → answer.possible ≡ 0 → (q : ℕ) (p : ℕ → ℕ) → PointWithin u from to q p →
      InsideTree surfaces u q p (tree_of (named surfaces) first) →
      InsideTree surfaces u q p (tree_of (named surfaces) second) → ⊥
