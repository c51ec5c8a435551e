-- Rule 4.11: what a caller is promised of a call that writes a merged expression into lent room, in terms of what the
-- call answers and leaves there, and of what the questions answer of other expressions: nothing shorter says it.
use Rattle.std.specs.Prelude.{ℕ, ◌≤◌, ◌<◌, ◌≡◌, List, length, take}
use Rattle.universe.specs.declared.Universe.{Universe}
use Rattle.universe.specs.Voxel.{voxel_refusal}
use Rattle.bintree.specs.declared.Colour.{Colour}
use Rattle.bintree.specs.Told.{WrittenAnswer, MergedAnswer}
use Rattle.bintree.specs.Answers.{well_formed_refusal}
use Rattle.bintree.specs.Parts.{done_colour, colour_answer}

-- the colours that the colour question answers of bytes
abbrev pub colours_of : Universe → List ℕ → List ℕ → Colour
colours_of u x v = (colour_answer u x v).colour

-- bytes say these colours: they are not refused as an expression, and the colour question answers so for every voxel
pub record Says (u : Universe) (colours : List ℕ → Colour) (y : List ℕ) : Type 0 where
  pub well_formed : well_formed_refusal u y ≡ 0
  pub coloured : (v : List ℕ) → voxel_refusal u v ≡ 0 → colour_answer u y v ≡ done_colour (colours v)

-- of merging's answer, its number and its length
abbrev pub writing_of : MergedAnswer → WrittenAnswer
writing_of answer = record { refusal = answer.refusal; length = answer.length }

-- The call lent `out` answered `answer` and left `left` there. `colours` are those of what it is to write.
pub record Shortest
    (u : Universe) (colours : List ℕ → Colour)
    (out : List ℕ) (answer : WrittenAnswer) (left : List ℕ) : Type 0 where
  -- what is written says the colours
  pub itself : answer.refusal ≡ 0 → Says u colours (take answer.length left)
  -- whatever says them has at least as many symbols as are written, or on 6 needed
  pub no_longer : (y : List ℕ) → Says u colours y → answer.length ≤ length y
  -- and what has as many is, byte for byte, what is written into any room that is enough
  pub only : (y : List ℕ) → Says u colours y → answer.length ≡ length y → length y ≤ length out
      → take (length y) left ≡ y
  -- so that everything else that says them has strictly more
  pub others : answer.refusal ≡ 0 → (y : List ℕ) → Says u colours y → (take answer.length left ≡ y → ⊥)
      → answer.length < length y
