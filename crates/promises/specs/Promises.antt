-- Rules 8.4, 10.2 and 10.3: what a caller is promised of a call that converts trees into lent room: in terms of what
-- the call answers and leaves in the room, and of what the other questions then answer.
use Rattle.std.specs.Prelude.{ℕ, ◌≤◌, ◌≡◌, List, length, take, drop}
use Rattle.universe.specs.declared.Universe.{Universe}
use Rattle.universe.specs.Voxel.{voxel_refusal}
use Rattle.universe.specs.Room.{room_answer}
use Rattle.bintree.specs.declared.Colour.{Colour}
use Rattle.bintree.specs.Told.{WrittenAnswer}
use Rattle.bintree.specs.Parts.{done_colour, colour_answer}

-- The call lent `out` answered `answer` and left `left` there. `before` is the number of its checks before 6, `leaves`
-- and `balls` the halfspace words and the ball words of its trees, `colours` the colour that each voxel is to have.
pub record Promised
    (u : Universe) (before leaves balls : ℕ) (colours : List ℕ → Colour)
    (out : List ℕ) (answer : WrittenAnswer) (left : List ℕ) : Type 0 where
  -- whatever is refused, the room is as it was; and what is behind the symbols is, too
  pub kept : (answer.refusal ≡ 0 → ⊥) → left ≡ out
  pub behind : answer.refusal ≡ 0 → drop answer.length left ≡ drop answer.length out
  -- the colour question, asked of the symbols that were written, answers for every voxel with the colour it is to have
  pub coloured : answer.refusal ≡ 0 → (v : List ℕ) → voxel_refusal u v ≡ 0
      → colour_answer u (take answer.length left) v ≡ done_colour (colours v)
  -- a call that its checks before 6 accept is not refused where as much room is lent as the room question answers
  pub suffices : before ≡ 0 → (room_answer u leaves balls).symbols ≤ length out → answer.refusal ≡ 0
