-- Rules 2.6 to 2.10, 3.8 and 4.14: balls over blocks and at centres, in trees, their limits and their room, worked out
-- from the rules. A case is one line: what is asked, as numbers, and what must be answered.
use Rattle.std.specs.Prelude.{ℕ, ◌≡◌, List, [], ◌∷◌, ◌++◌, map, ℤ, pos, take, replicate}
use Rattle.universe.specs.declared.Universe.{Universe}
use Rattle.universe.specs.Room.{room_answer}
use Rattle.bintree.specs.Shape.{symbol_of, open_symbol}
use Rattle.csg.specs.Halfspace.{Mark, decided, undecided}
use Rattle.csg.specs.Ball.{ball_at, balls_refusal, ball_mark, ball_colour}
use Rattle.csg.specs.Surfaces.{Surfaces, surfaces_of}
use Rattle.csg.specs.Words.{tree_refusal, halfspace_words, ball_words}
use Rattle.convert.specs.Answers.{two_trees_refusal, raw_of_one_answer, raw_of_one_buffer}
use Rattle.convert.specs.Answers.{merged_of_one_answer, merged_of_one_buffer}
use Rattle.cases.specs.Cases.{text, minus}
use Rattle.cases.specs.FrameBits.{Asked, ◌is◌, universe_of}

-- a ball before others
abbrev pub ball : ℤ → ℤ → ℤ → ℤ → List ℤ → List ℤ
ball x y z radius balls = x ∷ y ∷ z ∷ radius ∷ balls

-- the mark of the first ball over a block, `(` where it is undecided, and its colour at a voxel
abbrev pub mark_symbol : Mark → ℕ
mark_symbol (decided c) = symbol_of c
mark_symbol undecided = open_symbol

abbrev pub over : Universe → ℕ → List ℕ → List ℤ → List ℕ
over u level low balls =
    mark_symbol (ball_mark (ball_at balls 0) (record { universe = u; level = level; low = low })) ∷ []

abbrev pub at : Universe → List ℕ → List ℤ → List ℕ
at u v balls = symbol_of (ball_colour u (ball_at balls 0) v) ∷ []

-- a tree over rows and balls
pub record Made : Type 0 where
  pub universe : Universe
  pub surfaces : Surfaces
  pub words : List ℕ

abbrev pub made : Universe → List ℤ → List ℤ → List ℕ → Made
made u rows balls words = record { universe = u; surfaces = surfaces_of rows balls; words = words }

-- what its conversions write into the room that the room question answers
abbrev pub lent : Made → List ℕ
lent m = replicate (room_answer m.universe (halfspace_words m.words) (ball_words m.words)).symbols 0

abbrev pub raw_of : Made → List ℕ
raw_of m =
    take
    (raw_of_one_answer m.universe m.surfaces m.words (lent m)).length
    (raw_of_one_buffer m.universe m.surfaces m.words (lent m))

abbrev pub merged_of : Made → List ℕ
merged_of m =
    take
    (merged_of_one_answer m.universe m.surfaces m.words (lent m)).length
    (merged_of_one_buffer m.universe m.surfaces m.words (lent m))

-- a ball alone: without a place axis; of radius 0 and 1 at a voxel's corner; from outside the universe; and larger ones
abbrev pub no_place : Made
no_place = made (universe_of 1 0 2) [] (ball (pos 0) (pos 0) (pos 0) (pos 0) []) (512 ∷ [])

abbrev pub point : Made
point = made (universe_of 2 2 1) [] (ball (pos 1) (pos 0) (pos 0) (pos 0) []) (512 ∷ [])

abbrev pub unit : Made
unit = made (universe_of 2 2 1) [] (ball (pos 1) (pos 0) (pos 0) (pos 1) []) (512 ∷ [])

abbrev pub from_below : Made
from_below = made (universe_of 2 2 1) [] (ball (minus 1) (pos 0) (pos 0) (pos 3) []) (512 ∷ [])

abbrev pub line : Made
line = made (universe_of 2 3 1) [] (ball (pos 3) (pos 0) (pos 0) (pos 2) []) (512 ∷ [])

abbrev pub small : Made
small = made (universe_of 3 2 1) [] (ball (pos 2) (pos 2) (pos 0) (pos 1) []) (512 ∷ [])

abbrev pub large : Made
large = made (universe_of 3 2 1) [] (ball (pos 2) (pos 2) (pos 0) (pos 2) []) (512 ∷ [])

abbrev pub around : Made
around = made (universe_of 4 1 1) [] (ball (pos 1) (pos 1) (pos 1) (pos 1) []) (512 ∷ [])

abbrev pub corner : Made
corner = made (universe_of 4 1 1) [] (ball (pos 0) (pos 0) (pos 0) (pos 1) []) (512 ∷ [])

-- intersected with a halfspace, taken from one, with one taken from it, and less itself
abbrev pub large_cut : Made
large_cut =
    made (universe_of 3 2 1) (minus 3 ∷ pos 1 ∷ pos 0 ∷ pos 1 ∷ pos 0 ∷ [])
    (ball (pos 2) (pos 2) (pos 0) (pos 2) []) (512 ∷ 256 ∷ 3 ∷ [])

abbrev pub corner_cut : Made
corner_cut =
    made (universe_of 4 1 1) (pos 0 ∷ pos 2 ∷ pos 0 ∷ pos 0 ∷ minus 1 ∷ [])
    (ball (pos 0) (pos 0) (pos 0) (pos 1) []) (512 ∷ 256 ∷ 3 ∷ [])

abbrev pub wall_less : Made
wall_less =
    made (universe_of 3 2 0) (minus 2 ∷ pos 1 ∷ pos 0 ∷ pos 0 ∷ pos 0 ∷ [])
    (ball (pos 2) (pos 2) (pos 0) (pos 2) []) (256 ∷ 512 ∷ 4 ∷ [])

abbrev pub less_wall : Made
less_wall =
    made (universe_of 3 2 0) (minus 2 ∷ pos 1 ∷ pos 0 ∷ pos 0 ∷ pos 0 ∷ [])
    (ball (pos 2) (pos 2) (pos 0) (pos 2) []) (512 ∷ 256 ∷ 4 ∷ [])

abbrev pub less_itself : Made
less_itself = made (universe_of 3 2 1) [] (ball (pos 2) (pos 2) (pos 0) (pos 2) []) (512 ∷ 512 ∷ 4 ∷ [])

abbrev pub point_less_itself : Made
point_less_itself = made (universe_of 2 2 1) [] (ball (pos 1) (pos 0) (pos 0) (pos 0) []) (512 ∷ 512 ∷ 4 ∷ [])

abbrev pub ball_cases : List Asked
ball_cases =
    -- a block touched in one point: from outside it is undecided, a little further out WHITE; from inside BLACK, with
    -- a lesser radius undecided
    (over (universe_of 2 3 1) 2 (4 ∷ 0 ∷ 0 ∷ 0 ∷ []) (ball (pos 2) (pos 0) (pos 0) (pos 2) []) is text "(")
    ∷ (over (universe_of 2 3 1) 2 (4 ∷ 0 ∷ 0 ∷ 0 ∷ []) (ball (pos 1) (pos 0) (pos 0) (pos 2) []) is text "W")
    ∷ (over (universe_of 3 3 1) 3 (4 ∷ 4 ∷ 0 ∷ 0 ∷ []) (ball (pos 1) (pos 0) (pos 0) (pos 5) []) is text "(")
    ∷ (over (universe_of 3 3 1) 3 (4 ∷ 4 ∷ 0 ∷ 0 ∷ []) (ball (pos 1) (pos 0) (pos 0) (pos 4) []) is text "W")
    ∷ (over (universe_of 4 3 1) 4 (4 ∷ 4 ∷ 4 ∷ 0 ∷ []) (ball (pos 2) (pos 3) (pos 2) (pos 3) []) is text "(")
    ∷ (over (universe_of 4 3 1) 4 (4 ∷ 4 ∷ 4 ∷ 0 ∷ []) (ball (pos 2) (pos 3) (pos 2) (pos 2) []) is text "W")
    ∷ (over (universe_of 2 3 1) 2 (0 ∷ 0 ∷ 0 ∷ 0 ∷ []) (ball (pos 1) (pos 0) (pos 0) (pos 3) []) is text "B")
    ∷ (over (universe_of 2 3 1) 2 (0 ∷ 0 ∷ 0 ∷ 0 ∷ []) (ball (pos 1) (pos 0) (pos 0) (pos 2) []) is text "(")
    ∷ (over (universe_of 3 3 1) 3 (0 ∷ 0 ∷ 0 ∷ 0 ∷ []) (ball (pos 1) (pos 0) (pos 0) (pos 5) []) is text "B")
    ∷ (over (universe_of 3 3 1) 3 (0 ∷ 0 ∷ 0 ∷ 0 ∷ []) (ball (pos 1) (pos 0) (pos 0) (pos 4) []) is text "(")
    ∷ (over (universe_of 4 3 1) 4 (0 ∷ 0 ∷ 0 ∷ 0 ∷ []) (ball (pos 2) (pos 0) (pos 0) (pos 6) []) is text "B")
    ∷ (over (universe_of 4 3 1) 4 (0 ∷ 0 ∷ 0 ∷ 0 ∷ []) (ball (pos 2) (pos 0) (pos 0) (pos 5) []) is text "(")
    -- the nearest point of a block may lie on a side, not at a corner
    ∷ (over (universe_of 3 3 1) 3 (4 ∷ 4 ∷ 0 ∷ 0 ∷ []) (ball (pos 3) (pos 6) (pos 0) (pos 1) []) is text "(")
    ∷ (over (universe_of 3 3 1) 3 (4 ∷ 4 ∷ 0 ∷ 0 ∷ []) (ball (pos 3) (pos 6) (pos 0) (pos 0) []) is text "W")
    -- the same at all times: the second frame of the block
    ∷ (over (universe_of 3 3 1) 3 (4 ∷ 4 ∷ 1 ∷ 0 ∷ []) (ball (pos 1) (pos 0) (pos 0) (pos 5) []) is text "(")
    ∷ (over (universe_of 3 3 1) 3 (0 ∷ 0 ∷ 1 ∷ 0 ∷ []) (ball (pos 1) (pos 0) (pos 0) (pos 5) []) is text "B")
    -- a ball of radius 0 at the corner of voxels holds the centre of none; one of radius 1 those of all that touch it
    ∷ (at (universe_of 2 1 0) (0 ∷ 0 ∷ 0 ∷ 0 ∷ []) (ball (pos 1) (pos 0) (pos 0) (pos 0) []) is text "W")
    ∷ (at (universe_of 2 1 0) (1 ∷ 0 ∷ 0 ∷ 0 ∷ []) (ball (pos 1) (pos 0) (pos 0) (pos 0) []) is text "W")
    ∷ (at (universe_of 2 1 0) (0 ∷ 0 ∷ 0 ∷ 0 ∷ []) (ball (pos 1) (pos 0) (pos 0) (pos 1) []) is text "B")
    ∷ (at (universe_of 2 1 0) (1 ∷ 0 ∷ 0 ∷ 0 ∷ []) (ball (pos 1) (pos 0) (pos 0) (pos 1) []) is text "B")
    ∷ (at (universe_of 3 1 0) (0 ∷ 0 ∷ 0 ∷ 0 ∷ []) (ball (pos 1) (pos 1) (pos 0) (pos 0) []) is text "W")
    ∷ (at (universe_of 3 1 0) (1 ∷ 1 ∷ 0 ∷ 0 ∷ []) (ball (pos 1) (pos 1) (pos 0) (pos 0) []) is text "W")
    ∷ (at (universe_of 3 1 0) (0 ∷ 0 ∷ 0 ∷ 0 ∷ []) (ball (pos 1) (pos 1) (pos 0) (pos 1) []) is text "B")
    ∷ (at (universe_of 3 1 0) (1 ∷ 1 ∷ 0 ∷ 0 ∷ []) (ball (pos 1) (pos 1) (pos 0) (pos 1) []) is text "B")
    ∷ (at (universe_of 4 1 0) (0 ∷ 0 ∷ 0 ∷ 0 ∷ []) (ball (pos 1) (pos 1) (pos 1) (pos 0) []) is text "W")
    ∷ (at (universe_of 4 1 0) (1 ∷ 1 ∷ 1 ∷ 0 ∷ []) (ball (pos 1) (pos 1) (pos 1) (pos 0) []) is text "W")
    ∷ (at (universe_of 4 1 0) (0 ∷ 0 ∷ 0 ∷ 0 ∷ []) (ball (pos 1) (pos 1) (pos 1) (pos 1) []) is text "B")
    ∷ (at (universe_of 4 1 0) (1 ∷ 1 ∷ 1 ∷ 0 ∷ []) (ball (pos 1) (pos 1) (pos 1) (pos 1) []) is text "B")
    ∷ (at (universe_of 2 2 0) (2 ∷ 0 ∷ 0 ∷ 0 ∷ []) (ball (pos 1) (pos 0) (pos 0) (pos 1) []) is text "W")
    ∷ (at (universe_of 3 2 0) (2 ∷ 1 ∷ 0 ∷ 0 ∷ []) (ball (pos 1) (pos 1) (pos 0) (pos 1) []) is text "W")
    -- without a place axis the distance is 0
    ∷ (over (universe_of 1 0 2) 0 (0 ∷ 0 ∷ 0 ∷ 0 ∷ []) (ball (pos 0) (pos 0) (pos 0) (pos 0) []) is text "B")
    ∷ (at (universe_of 1 0 2) (3 ∷ 0 ∷ 0 ∷ 0 ∷ []) (ball (pos 0) (pos 0) (pos 0) (pos 0) []) is text "B")
    -- in trees, raw and merged
    ∷ (raw_of no_place is text "B")
    ∷ (merged_of no_place is text "B")
    ∷ (raw_of point is text "(((WW(WWW")
    ∷ (merged_of point is text "W")
    ∷ (raw_of unit is text "(B((WW(WW")
    ∷ (merged_of unit is text "(BW")
    ∷ (raw_of from_below is text "(B((WW(WW")
    ∷ (merged_of from_below is text "(BW")
    ∷ (raw_of line is text "((((WBB((WBB(((BWW((BWW")
    ∷ (merged_of line is text "((((WBB((WBB(((BWW((BWW")
    ∷ (raw_of small is text "(((((WW(WB((WW(WB(((WW(BW((WW(BW((((WB(WW((WB(WW(((BW(WW((BW(WW")
    ∷ (merged_of small is text "((((W(WB(W(WB((W(BW(W(BW((((WBW((WBW(((BWW((BWW")
    ∷ (raw_of large is text "(((((WB(BB((WB(BB(((BW(BB((BW(BB((((BB(WB((BB(WB(((BB(BW((BB(BW")
    ∷ (merged_of large is text "(((((WBB((WBB(((BWB((BWB(((B(WB(B(WB((B(BW(B(BW")
    ∷ (raw_of around is text "((((BB(BB((BB(BB(((BB(BB((BB(BB")
    ∷ (merged_of around is text "B")
    ∷ (raw_of corner is text "((((BB(WW((WWW(((WWWW")
    ∷ (merged_of corner is text "(((BWWW")
    ∷ (raw_of large_cut is text "(((W(W(BB(W(W(BB((((BB(WB((BB(WB(((BB(BW((BB(BW")
    ∷ (merged_of large_cut is text "(((W(WB(W(WB(((B(WB(B(WB((B(BW(B(BW")
    ∷ (raw_of corner_cut is text "((((BW(WW((WWW(((WWWW")
    ∷ (merged_of corner_cut is text "((((BWWWW")
    ∷ (raw_of wall_less is text "(W(((WW(BW((WW(WB")
    ∷ (merged_of wall_less is text "(W((W(BW(W(WB")
    ∷ (raw_of less_wall is text "((((WB(BB((BW(BBW")
    ∷ (merged_of less_wall is text "((((WBB((BWBW")
    ∷ (raw_of less_itself is text "(((((WW(WW((WW(WW(((WW(WW((WW(WW((((WW(WW((WW(WW(((WW(WW((WW(WW")
    ∷ (merged_of less_itself is text "W")
    ∷ (raw_of point_less_itself is text "(((WW(WWW")
    ∷ (merged_of point_less_itself is text "W")
    -- both sides of each limit: a centre's number, the radius, an axis that is no place axis
    ∷ (balls_refusal (universe_of 4 1 1) (pos 1024 ∷ pos 0 ∷ pos 0 ∷ pos 0 ∷ []) ∷ [] is 0 ∷ [])
    ∷ (balls_refusal (universe_of 4 1 1) (minus 1024 ∷ pos 0 ∷ pos 0 ∷ pos 0 ∷ []) ∷ [] is 0 ∷ [])
    ∷ (balls_refusal (universe_of 4 1 1) (pos 1025 ∷ pos 0 ∷ pos 0 ∷ pos 0 ∷ []) ∷ [] is 3 ∷ [])
    ∷ (balls_refusal (universe_of 4 1 1) (minus 1025 ∷ pos 0 ∷ pos 0 ∷ pos 0 ∷ []) ∷ [] is 3 ∷ [])
    ∷ (balls_refusal (universe_of 4 1 1) (pos 0 ∷ pos 1024 ∷ pos 0 ∷ pos 0 ∷ []) ∷ [] is 0 ∷ [])
    ∷ (balls_refusal (universe_of 4 1 1) (pos 0 ∷ minus 1025 ∷ pos 0 ∷ pos 0 ∷ []) ∷ [] is 3 ∷ [])
    ∷ (balls_refusal (universe_of 4 1 1) (pos 0 ∷ pos 0 ∷ pos 1024 ∷ pos 1024 ∷ []) ∷ [] is 0 ∷ [])
    ∷ (balls_refusal (universe_of 4 1 1) (pos 0 ∷ pos 0 ∷ pos 1025 ∷ pos 0 ∷ []) ∷ [] is 3 ∷ [])
    ∷ (balls_refusal (universe_of 4 1 1) (pos 0 ∷ pos 0 ∷ pos 0 ∷ pos 1025 ∷ []) ∷ [] is 3 ∷ [])
    ∷ (balls_refusal (universe_of 4 1 1) (pos 0 ∷ pos 0 ∷ pos 0 ∷ minus 1 ∷ []) ∷ [] is 3 ∷ [])
    ∷ (balls_refusal (universe_of 3 1 1) (pos 1 ∷ pos 1 ∷ pos 0 ∷ pos 1 ∷ []) ∷ [] is 0 ∷ [])
    ∷ (balls_refusal (universe_of 3 1 1) (pos 1 ∷ pos 1 ∷ pos 1 ∷ pos 1 ∷ []) ∷ [] is 3 ∷ [])
    ∷ (balls_refusal (universe_of 2 1 1) (pos 1 ∷ pos 0 ∷ pos 0 ∷ pos 1 ∷ []) ∷ [] is 0 ∷ [])
    ∷ (balls_refusal (universe_of 2 1 1) (pos 1 ∷ minus 1 ∷ pos 0 ∷ pos 1 ∷ []) ∷ [] is 3 ∷ [])
    ∷ (balls_refusal (universe_of 1 0 1) (pos 0 ∷ pos 0 ∷ pos 0 ∷ pos 1 ∷ []) ∷ [] is 0 ∷ [])
    ∷ (balls_refusal (universe_of 1 0 1) (pos 1 ∷ pos 0 ∷ pos 0 ∷ pos 1 ∷ []) ∷ [] is 3 ∷ [])
    -- the last ball is checked too; not in fours; 64 balls and 65; no balls
    ∷ (balls_refusal (universe_of 2 1 1) (replicate 4 (pos 0) ++ (pos 0 ∷ pos 0 ∷ pos 0 ∷ pos 1025 ∷ [])) ∷ [] is 3 ∷ [])
    ∷ (balls_refusal (universe_of 2 1 1) (pos 0 ∷ pos 0 ∷ pos 0 ∷ []) ∷ [] is 3 ∷ [])
    ∷ (balls_refusal (universe_of 2 1 1) (pos 0 ∷ pos 0 ∷ pos 0 ∷ pos 0 ∷ pos 0 ∷ []) ∷ [] is 3 ∷ [])
    ∷ (balls_refusal (universe_of 2 1 1) [] ∷ [] is 0 ∷ [])
    ∷ (balls_refusal (universe_of 2 1 1) (replicate 256 (pos 0)) ∷ [] is 0 ∷ [])
    ∷ (balls_refusal (universe_of 2 1 1) (replicate 260 (pos 0)) ∷ [] is 3 ∷ [])
    -- a word names a ball where it is 512 to 575 and its index is below their count
    ∷ (tree_refusal (record { halfspaces = 0; balls = 0 }) (512 ∷ []) ∷ [] is 4 ∷ [])
    ∷ (tree_refusal (record { halfspaces = 0; balls = 1 }) (512 ∷ []) ∷ [] is 0 ∷ [])
    ∷ (tree_refusal (record { halfspaces = 0; balls = 1 }) (513 ∷ []) ∷ [] is 4 ∷ [])
    ∷ (tree_refusal (record { halfspaces = 0; balls = 64 }) (575 ∷ []) ∷ [] is 0 ∷ [])
    ∷ (tree_refusal (record { halfspaces = 0; balls = 63 }) (575 ∷ []) ∷ [] is 4 ∷ [])
    ∷ (tree_refusal (record { halfspaces = 0; balls = 64 }) (576 ∷ []) ∷ [] is 4 ∷ [])
    ∷ (tree_refusal (record { halfspaces = 0; balls = 1000 }) (576 ∷ []) ∷ [] is 4 ∷ [])
    -- the balls are looked at after the universe and before the trees
    ∷ (two_trees_refusal (universe_of 5 1 1) (surfaces_of [] (pos 0 ∷ [])) [] [] ∷ [] is 2 ∷ [])
    ∷ (two_trees_refusal (universe_of 2 1 1) (surfaces_of [] (pos 0 ∷ [])) [] [] ∷ [] is 3 ∷ [])
    ∷ (two_trees_refusal (universe_of 2 1 1) (surfaces_of [] []) [] (512 ∷ []) ∷ [] is 4 ∷ [])
    -- room without a ball word and with one
    ∷ ((room_answer (universe_of 2 2 2) 0 0).symbols ∷ [] is 1 ∷ [])
    ∷ ((room_answer (universe_of 2 2 2) 0 1).symbols ∷ [] is 31 ∷ [])
    ∷ ((room_answer (universe_of 2 2 2) 1 0).symbols ∷ [] is 23 ∷ [])
    ∷ ((room_answer (universe_of 2 2 2) 1 1).symbols ∷ [] is 31 ∷ [])
    ∷ ((room_answer (universe_of 2 2 2) 1 2).symbols ∷ [] is 31 ∷ [])
    ∷ ((room_answer (universe_of 3 1 2) 0 0).symbols ∷ [] is 1 ∷ [])
    ∷ ((room_answer (universe_of 3 1 2) 0 1).symbols ∷ [] is 31 ∷ [])
    ∷ ((room_answer (universe_of 3 1 2) 1 0).symbols ∷ [] is 29 ∷ [])
    ∷ ((room_answer (universe_of 3 1 2) 1 1).symbols ∷ [] is 31 ∷ [])
    ∷ ((room_answer (universe_of 3 1 2) 1 2).symbols ∷ [] is 31 ∷ [])
    ∷ ((room_answer (universe_of 1 0 3) 0 0).symbols ∷ [] is 1 ∷ [])
    ∷ ((room_answer (universe_of 1 0 3) 0 1).symbols ∷ [] is 15 ∷ [])
    ∷ ((room_answer (universe_of 1 0 3) 1 0).symbols ∷ [] is 7 ∷ [])
    ∷ ((room_answer (universe_of 1 0 3) 1 1).symbols ∷ [] is 15 ∷ [])
    ∷ ((room_answer (universe_of 1 0 3) 1 2).symbols ∷ [] is 15 ∷ [])
    ∷ ((room_answer (universe_of 3 2 1) 0 0).symbols ∷ [] is 1 ∷ [])
    ∷ ((room_answer (universe_of 3 2 1) 0 1).symbols ∷ [] is 63 ∷ [])
    ∷ ((room_answer (universe_of 3 2 1) 1 0).symbols ∷ [] is 55 ∷ [])
    ∷ ((room_answer (universe_of 3 2 1) 1 1).symbols ∷ [] is 63 ∷ [])
    ∷ ((room_answer (universe_of 3 2 1) 1 2).symbols ∷ [] is 63 ∷ [])
    ∷ []

-- every one is answered as it must be
abbrev pub BallCasesHold : Type 0
BallCasesHold = map (λ c. c.answered) ball_cases ≡ map (λ c. c.expected) ball_cases
