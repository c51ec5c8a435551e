-- Section 12 of the rules: what a set builder is promised of a sweep, in terms of what the call answers and leaves in
-- the room, and of what the colour question answers of the bytes that were swept and of those that were written.
use Rattle.std.specs.Prelude.{ℕ, ◌-◌, ◌≤◌, ◌≡◌, List, length, take, drop}
use Rattle.universe.specs.declared.Universe.{Universe}
use Rattle.universe.specs.Universe.{without_axis}
use Rattle.bintree.specs.Answers.{well_formed_refusal}
use Rattle.sweep.specs.Told.{SweptAnswer}
use Rattle.sweep.specs.Voxels.{Sweeps}
use Rattle.sweep.specs.Answers.{swept_refusal}
use Rattle.promises.specs.Shortest.{colours_of}

-- bytes of a universe without an axis, counted from 1, that are black exactly where the bytes s are over it
pub record SaysSwept (u : Universe) (s : List ℕ) (axis : ℕ) (below : Universe) (y : List ℕ) : Type 0 where
  pub well_formed : well_formed_refusal below y ≡ 0
  pub swept : Sweeps u (axis - 1) (colours_of u s) (colours_of below y)

-- The call swept the bytes s along an axis, was lent `out`, answered `answer` and left `left` there.
pub record SweptSpace
    (u : Universe) (s : List ℕ) (axis : ℕ) (out : List ℕ) (answer : SweptAnswer) (left : List ℕ) : Type 0 where
  -- whatever is refused, the room is as it was; and what is behind the symbols is, too
  pub kept : (answer.refusal ≡ 0 → ⊥) → left ≡ out
  pub behind : answer.refusal ≡ 0 → drop answer.length left ≡ drop answer.length out
  -- the universe that is answered is the one without the axis
  pub below : answer.refusal ≡ 0 → answer.universe ≡ without_axis u (axis - 1)
  -- the colour question tells BLACK of what is written exactly at the voxels over which it tells BLACK of what was
  -- swept, at some place along the axis
  pub itself : answer.refusal ≡ 0 → SaysSwept u s axis answer.universe (take answer.length left)
  -- whatever else is so has at least as many symbols, and with as many it is, byte for byte, what is written
  pub no_longer : answer.refusal ≡ 0 → (y : List ℕ) → SaysSwept u s axis answer.universe y
      → answer.length ≤ length y
  pub only : answer.refusal ≡ 0 → (y : List ℕ) → SaysSwept u s axis answer.universe y → answer.length ≡ length y
      → take answer.length left ≡ y
  -- a call that its checks before 6 accept is not refused where as much room is lent as what is swept is long
  pub suffices : swept_refusal u s axis ≡ 0 → length s ≤ length out → answer.refusal ≡ 0
