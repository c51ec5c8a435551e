-- Worked cases, numbered, as one list, and after them both sides of the last word that names a halfspace. A case asks
-- what a contract says of a call: its answer and, where it writes, what it leaves in the room lent. A closed case is
-- one line: what is computed, and what it must be.
use Rattle.std.specs.Prelude.{ℕ, ◌+◌, ◌≤◌, ◌≡◌, List, [], ◌∷◌, ◌++◌, map, ℤ, pos, neg_ℤ, length, take, replicate}
use Prim.Native.String.{String}
use Prim.Native.Char.{code}
use Rattle.universe.specs.declared.Universe.{Universe}
use Rattle.universe.specs.Told.{RoomAnswer}
use Rattle.universe.specs.Universe.{universe_refusal, equal_bits}
use Rattle.universe.specs.Room.{room_answer}
use Rattle.bintree.specs.declared.Colour.{Colour}
use Rattle.bintree.specs.declared.Colour.TheVariants.{White, Black}
use Rattle.bintree.specs.Told.{WrittenAnswer, MergedAnswer, ColouredAnswer}
use Rattle.bintree.specs.declared.Verdict.{Verdict}
use Rattle.bintree.specs.declared.Verdict.TheVariants.{Clear, Hit}
use Rattle.bintree.specs.Answers.{well_formed_refusal, done_writing}
use Rattle.bintree.specs.Merging.{merge_answer, merge_buffer, done_merging, short_merging}
use Rattle.bintree.specs.Parts.{colour_answer, done_colour}
use Rattle.bintree.specs.Verdicts.{numbers_answer}
use Rattle.csg.specs.Halfspace.{row_at, centre_value}
use Rattle.csg.specs.Surfaces.{Surfaces, surfaces_of, named}
use Rattle.csg.specs.Words.{tree_refusal, tree_of, halfspace_words}
use Rattle.csg.specs.Marks.{tree_colour}
use Rattle.convert.specs.Told.{ClearanceAnswer}
use Rattle.convert.specs.Answers.{
  one_tree_refusal,
  two_trees_refusal,
  raw_of_one_answer,
  raw_of_one_buffer,
  merged_of_one_answer,
  merged_of_one_buffer,
  raw_of_two_answer,
  raw_of_two_buffer,
  merged_of_two_answer,
  clearance_answer,
  clearance_buffer,
  done_clearance,
}

-- the universe of d axes with k bits each
abbrev pub universe : ℕ → ℕ → Universe
universe d k = equal_bits d k

-- the universe of every case that names no other
abbrev pub square : Universe
square = universe 2 2

-- the symbols of a quoted expression
abbrev pub text : String → List ℕ
text String.[] = []
text (String.◌∷◌ c s) = code c ∷ text s

-- (a0, a1, a2) as a row
abbrev pub row : ℤ → ℤ → ℤ → List ℤ → List ℤ
row a0 a1 a2 rows = a0 ∷ a1 ∷ a2 ∷ pos 0 ∷ pos 0 ∷ rows

abbrev pub minus : ℕ → ℤ
minus n = neg_ℤ (pos n)

-- room lent as the room question answers for so many leaves, with zeros in it
abbrev pub room_for : ℕ → List ℕ
room_for leaves = replicate (room_answer square leaves 0).symbols 0

-- a tree over its surfaces
pub record Scene : Type 0 where
  pub surfaces : Surfaces
  pub words : List ℕ

-- case 1: a halfspace that is aslant
abbrev pub slanted : Scene
slanted = record { surfaces = surfaces_of (row (minus 2) (pos 2) (minus 1) []) []; words = 256 ∷ [] }

-- cases 2 and 3: a triangle, of three halfspaces intersected
abbrev pub triangle : Scene
triangle =
    record {
      surfaces = surfaces_of
          (row (minus 2) (pos 1) (pos 0)
          (row (minus 2) (pos 0) (pos 1)
          (row (pos 6) (minus 1) (minus 1) [])))
          [];
      words = 256 ∷ 257 ∷ 258 ∷ 3 ∷ 3 ∷ [];
    }

-- case 6: the all-zero halfspace
abbrev pub all_zero : Scene
all_zero = record { surfaces = surfaces_of (row (pos 0) (pos 0) (pos 0) []) []; words = 256 ∷ [] }

-- cases 4 and 5: the two strips of examples/program.txt
abbrev pub strips : Surfaces
strips =
    surfaces_of
    (row (pos 0) (pos 1) (minus 1)
    (row (pos 1) (minus 1) (pos 1)
    (row (minus 2) (pos 1) (pos 0)
    (row (pos 3) (minus 1) (pos 0) []))))
    []

abbrev pub moving : List ℕ
moving = 256 ∷ 257 ∷ 3 ∷ []

abbrev pub standing : List ℕ
standing = 258 ∷ 259 ∷ 3 ∷ []

-- what a case computes: a call's answer, with what it leaves in the room lent
pub data Value : Type 0 where
  number : ℕ → Value
  value : ℤ → Value
  colour : Colour → Value
  room : RoomAnswer → Value
  coloured : ColouredAnswer → Value
  written : WrittenAnswer → List ℕ → Value
  merging : MergedAnswer → List ℕ → Value
  judged : ClearanceAnswer → List ℕ → Value

pub record Case : Type 0 where
  pub computed : Value
  pub expected : Value

abbrev pub ◌is◌ : Value → Value → Case
◌is◌ a b = record { computed = a; expected = b }

infix 4 ◌is◌
-- what converting a scene's tree comes to, raw and merged
abbrev pub room_of : Scene → List ℕ
room_of s = room_for (halfspace_words s.words)

abbrev pub raw_of : Scene → Value
raw_of s =
    written
    (raw_of_one_answer square s.surfaces s.words (room_of s))
    (raw_of_one_buffer square s.surfaces s.words (room_of s))

abbrev pub merged_of : Scene → Value
merged_of s =
    written
    (merged_of_one_answer square s.surfaces s.words (room_of s))
    (merged_of_one_buffer square s.surfaces s.words (room_of s))

-- the raw expression that was written
abbrev pub expression_of : Scene → List ℕ
expression_of s =
    take
    (raw_of_one_answer square s.surfaces s.words (room_of s)).length
    (raw_of_one_buffer square s.surfaces s.words (room_of s))

-- its volume, which the question for its numbers answers over any window
abbrev pub volume_of : Scene → ℕ
volume_of s = (numbers_answer square (expression_of s) 0 3).volume

-- the colour of a scene's tree at a voxel's centre, and that of its raw expression at the voxel
abbrev pub tree_at : Scene → List ℕ → Value
tree_at s v = colour (tree_colour s.surfaces square (tree_of (named s.surfaces) s.words) v)

abbrev pub expression_at : Scene → List ℕ → Value
expression_at s v = coloured (colour_answer square (expression_of s) v)

-- what merging a quoted expression into room comes to
abbrev pub merging_into : List ℕ → String → Value
merging_into out s = merging (merge_answer square (text s) out) (merge_buffer square (text s) out)

abbrev pub merging_of : String → Value
merging_of = merging_into (room_for 1)

-- the two strips, converted and judged over a window
abbrev pub strips_room : List ℕ
strips_room = room_for (halfspace_words moving + halfspace_words standing)

abbrev pub raw_strips : Value
raw_strips =
    written
    (raw_of_two_answer square strips moving standing strips_room)
    (raw_of_two_buffer square strips moving standing strips_room)

abbrev pub strips_over : ℕ → ℕ → Value
strips_over first last =
    judged
    (clearance_answer square strips moving standing first last strips_room)
    (clearance_buffer square strips moving standing first last strips_room)

-- so many symbols, which are these, at the front of the room, and so many zeros behind them
abbrev pub front : String → ℕ → List ℕ
front symbols zeros = text symbols ++ replicate zeros 0

abbrev pub writes : ℕ → String → ℕ → Value
writes length symbols zeros = written (done_writing length) (front symbols zeros)

-- so many symbols, of which so many are held back at most
abbrev pub merges : ℕ → ℕ → String → ℕ → Value
merges length held symbols zeros = merging (done_merging length held) (front symbols zeros)

-- a verdict on the two strips, whose raw expression is always the same
abbrev pub verdict_is : Verdict → Value
verdict_is v = judged (done_clearance v 13) (front "(W(((WBW((BWW" 18)

abbrev pub hit : ℕ → ℕ → ℕ → Value
hit first last voxels = verdict_is (Hit (record { first = first; last = last; voxels = voxels }))

-- so many symbols of room
abbrev pub done_room : ℕ → RoomAnswer
done_room symbols = record { refusal = 0; symbols = symbols }

-- the number that a tree of one word is refused with, where there are so many halfspaces
abbrev pub word_refusal : ℕ → ℕ → Value
word_refusal rows word = number (tree_refusal (record { halfspaces = rows; balls = 0 }) (word ∷ []))

-- the closed cases, by their numbers
abbrev pub closed : List Case
closed =
    -- 1
    (number (one_tree_refusal square slanted.surfaces slanted.words) is number 0)
    ∷ (raw_of slanted is writes 15 "(((W(BWW(B((BWB" 8)
    ∷ (merged_of slanted is writes 15 "(((W(BWW(B((BWB" 8)
    ∷ (number (volume_of slanted) is number 8)
    ∷ (room (room_answer square (halfspace_words slanted.words) 0) is room (done_room 23))
    -- 2
    ∷ (number (one_tree_refusal square triangle.surfaces triangle.words) is number 0)
    ∷ (raw_of triangle is writes 11 "(W(W((BB(BW" 20)
    ∷ (merged_of triangle is writes 9 "(W(W(B(BW" 22)
    ∷ (number (volume_of triangle) is number 3)
    -- 3
    ∷ (value (centre_value square (row_at triangle.surfaces.rows 2) (3 ∷ 2 ∷ 0 ∷ 0 ∷ [])) is value (pos 0))
    ∷ (tree_at triangle (3 ∷ 2 ∷ 0 ∷ 0 ∷ []) is colour Black)
    ∷ (expression_at triangle (3 ∷ 2 ∷ 0 ∷ 0 ∷ []) is coloured (done_colour Black))
    ∷ (tree_at triangle (3 ∷ 3 ∷ 0 ∷ 0 ∷ []) is colour White)
    ∷ (expression_at triangle (3 ∷ 3 ∷ 0 ∷ 0 ∷ []) is coloured (done_colour White))
    -- 4
    ∷ (number (two_trees_refusal square strips moving standing) is number 0)
    ∷ (raw_strips is writes 13 "(W(((WBW((BWW" 18)
    ∷ (strips_over 0 3 is hit 1 2 2)
    -- 5
    ∷ (strips_over 0 0 is verdict_is Clear)
    ∷ (strips_over 2 2 is hit 2 2 1)
    ∷ (strips_over 3 3 is verdict_is Clear)
    -- 6
    ∷ (number (one_tree_refusal square all_zero.surfaces all_zero.words) is number 0)
    ∷ (raw_of all_zero is writes 1 "B" 22)
    -- 7
    ∷ (room (room_answer square 2 0) is room (done_room 31))
    ∷ (room (room_answer (universe 2 1) 1 0) is room (done_room 7))
    -- 9
    ∷ (number (well_formed_refusal square (text "(BB")) is number 0)
    ∷ (merging_of "(BB" is merges 1 2 "B" 22)
    ∷ (number (well_formed_refusal square []) is number 7)
    ∷ (number (well_formed_refusal square (text "(B")) is number 7)
    ∷ (number (well_formed_refusal square (text "BB")) is number 7)
    -- a word names a halfspace where it is 256 to 511 and its index is below their count
    ∷ (word_refusal 1000 511 is number 0)
    ∷ (word_refusal 1000 512 is number 4)
    ∷ (word_refusal 1000 600 is number 4)
    ∷ (word_refusal 256 511 is number 0)
    ∷ (word_refusal 255 511 is number 4)
    -- what merging holds back: none of one symbol, twice the levels at most, a run of either colour; and none on 6
    ∷ (merging_of "W" is merges 1 0 "W" 22)
    ∷ (merging_of "(B(B(B(BW" is merges 9 8 "(B(B(B(BW" 14)
    ∷ (merging_of "(W(W(W(WB" is merges 9 8 "(W(W(W(WB" 14)
    ∷ (merging_of "(B(WB" is merges 5 3 "(B(WB" 18)
    ∷ (merging_of "((BW(BB" is merges 5 3 "((BWB" 18)
    ∷ (merging_of "(W((WWB" is merges 5 5 "(W(WB" 18)
    ∷ (merging_of "(((WWW(BW" is merges 5 4 "(W(BW" 18)
    ∷ (merging_into [] "(B(B(B(BW" is merging (short_merging 9) [])
    ∷ []

-- 6: where no word names a halfspace or a ball, room is 1, in every universe
abbrev pub NoLeavesRoom : Type 0
NoLeavesRoom = (u : Universe) → universe_refusal u ≡ 0 → room_answer u 0 0 ≡ done_room 1

-- 8: without bits there is room for one symbol, and one is written, for all axes, surfaces and trees
abbrev pub NoBitsRoom : Type 0
NoBitsRoom = (d leaves balls : ℕ)
    → universe_refusal (universe d 0) ≡ 0 → room_answer (universe d 0) leaves balls ≡ done_room 1

abbrev pub NoBitsOne : Type 0
NoBitsOne = (d : ℕ) (surfaces : Surfaces) (words out : List ℕ)
    → one_tree_refusal (universe d 0) surfaces words ≡ 0 → 1 ≤ length out
    → (raw_of_one_answer (universe d 0) surfaces words out ≡ done_writing 1)
    × (merged_of_one_answer (universe d 0) surfaces words out ≡ done_writing 1)

abbrev pub NoBitsTwo : Type 0
NoBitsTwo = (d : ℕ) (surfaces : Surfaces) (first second out : List ℕ)
    → two_trees_refusal (universe d 0) surfaces first second ≡ 0 → 1 ≤ length out
    → (raw_of_two_answer (universe d 0) surfaces first second out ≡ done_writing 1)
    × (merged_of_two_answer (universe d 0) surfaces first second out ≡ done_writing 1)

-- all that the list says
abbrev pub Every : List (Type 0) → Type 0
Every [] = Unit {0}
Every (p ∷ ps) = p × Every ps

abbrev pub cases : List (Type 0)
cases =
    (map (λ c. c.computed) closed ≡ map (λ c. c.expected) closed)
    ∷ NoLeavesRoom
    ∷ NoBitsRoom
    ∷ NoBitsOne
    ∷ NoBitsTwo
    ∷ []
