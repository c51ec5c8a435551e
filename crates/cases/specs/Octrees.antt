-- Section 13 of the rules: octrees exported and imported, worked out from the rules voxel by voxel. A case is one line:
-- what is asked, and the number, the length, and what is left in the room, `.` where it was.
use Rattle.std.specs.Prelude.{ℕ, List, [], ◌∷◌}
use Prim.Native.String.{String}
use Rattle.universe.specs.declared.Universe.{Universe}
use Rattle.bintree.specs.Told.{WrittenAnswer}
use Rattle.octree.specs.Answers.{export_answer, export_buffer, import_answer, import_buffer}
use Rattle.cases.specs.Cases.{text}
use Rattle.cases.specs.FrameBits.{Asked, ◌is◌, universe_of}
use Rattle.cases.specs.Swept.{dots}

-- all that an answer tells, with what is left in the room
abbrev pub told : WrittenAnswer → List ℕ → List ℕ
told answer left = answer.refusal ∷ answer.length ∷ left

-- the octree of a quoted expression, and the expression of a quoted octree, into so much room
abbrev pub exported : Universe → String → ℕ → List ℕ
exported u s lent = told (export_answer u (text s) (dots lent)) (export_buffer u (text s) (dots lent))

abbrev pub imported : Universe → String → ℕ → List ℕ
imported u s lent = told (import_answer u (text s) (dots lent)) (import_buffer u (text s) (dots lent))

-- no bits, and with one bit each single son full, both ways
abbrev pub lowest : List Asked
lowest =
    -- no bits: one solid, and nothing is parted
    (exported (universe_of 3 0 0) "B" 3 is 0 ∷ 1 ∷ text "F..")
    ∷ (exported (universe_of 3 0 0) "W" 3 is 0 ∷ 1 ∷ text "E..")
    ∷ (imported (universe_of 3 0 0) "F" 3 is 0 ∷ 1 ∷ text "B..")
    ∷ (imported (universe_of 3 0 0) "E" 3 is 0 ∷ 1 ∷ text "W..")
    ∷ (imported (universe_of 3 0 0) "PFFFFFFFF" 9 is 7 ∷ 0 ∷ text ".........")
    -- one bit: each single son full
    ∷ (imported (universe_of 3 1 1) "PFEEEEEEE" 10 is 0 ∷ 7 ∷ text "(((BWWW...")
    ∷ (imported (universe_of 3 1 1) "PEFEEEEEE" 10 is 0 ∷ 7 ∷ text "(((WBWW...")
    ∷ (imported (universe_of 3 1 1) "PEEFEEEEE" 10 is 0 ∷ 7 ∷ text "((W(BWW...")
    ∷ (imported (universe_of 3 1 1) "PEEEFEEEE" 10 is 0 ∷ 7 ∷ text "((W(WBW...")
    ∷ (imported (universe_of 3 1 1) "PEEEEFEEE" 10 is 0 ∷ 7 ∷ text "(W((BWW...")
    ∷ (imported (universe_of 3 1 1) "PEEEEEFEE" 10 is 0 ∷ 7 ∷ text "(W((WBW...")
    ∷ (imported (universe_of 3 1 1) "PEEEEEEFE" 10 is 0 ∷ 7 ∷ text "(W(W(BW...")
    ∷ (imported (universe_of 3 1 1) "PEEEEEEEF" 10 is 0 ∷ 7 ∷ text "(W(W(WB...")
    ∷ (exported (universe_of 3 1 1) "(((BWWW" 10 is 0 ∷ 9 ∷ text "PFEEEEEEE.")
    ∷ (exported (universe_of 3 1 1) "(((WBWW" 10 is 0 ∷ 9 ∷ text "PEFEEEEEE.")
    ∷ (exported (universe_of 3 1 1) "((W(BWW" 10 is 0 ∷ 9 ∷ text "PEEFEEEEE.")
    ∷ (exported (universe_of 3 1 1) "((W(WBW" 10 is 0 ∷ 9 ∷ text "PEEEFEEEE.")
    ∷ (exported (universe_of 3 1 1) "(W((BWW" 10 is 0 ∷ 9 ∷ text "PEEEEFEEE.")
    ∷ (exported (universe_of 3 1 1) "(W((WBW" 10 is 0 ∷ 9 ∷ text "PEEEEEFEE.")
    ∷ (exported (universe_of 3 1 1) "(W(W(BW" 10 is 0 ∷ 9 ∷ text "PEEEEEEFE.")
    ∷ (exported (universe_of 3 1 1) "(W(W(WB" 10 is 0 ∷ 9 ∷ text "PEEEEEEEF.")
    ∷ []

-- a leaf at each of the three levels of a triple stands for 8, 4, 2 or 1 sons
abbrev pub triples : List Asked
triples =
    (exported (universe_of 3 1 1) "B" 10 is 0 ∷ 1 ∷ text "F.........")
    ∷ (exported (universe_of 3 1 1) "(BW" 10 is 0 ∷ 9 ∷ text "PFFFFEEEE.")
    ∷ (exported (universe_of 3 1 1) "((BWW" 10 is 0 ∷ 9 ∷ text "PFFEEEEEE.")
    ∷ (exported (universe_of 3 1 1) "(((BWWW" 10 is 0 ∷ 9 ∷ text "PFEEEEEEE.")
    ∷ (exported (universe_of 3 1 1) "(W((WB(BW" 10 is 0 ∷ 9 ∷ text "PEEEEEFFE.")
    -- raw: what stands for eight sons of one colour is no `P`
    ∷ (exported (universe_of 3 1 1) "(BB" 10 is 0 ∷ 1 ∷ text "F.........")
    ∷ (exported (universe_of 3 1 1) "(((WW(WWW" 10 is 0 ∷ 1 ∷ text "E.........")
    ∷ (exported (universe_of 3 2 2) "((((BBBBW" 12 is 0 ∷ 9 ∷ text "PFFFFEEEE...")
    -- two levels
    ∷ (exported (universe_of 3 2 2) "(((((BWWWWW" 20 is 0 ∷ 17 ∷ text "PPFFEEEEEEEEEEEEE...")
    ∷ (exported (universe_of 3 2 2) "(W(W(W(((BBB(BW" 20 is 0 ∷ 17 ∷ text "PEEEEEEEPFFFFFFEE...")
    ∷ []

-- octrees that are reduced and that are not, to the merged expression
abbrev pub unreduced : List Asked
unreduced =
    (imported (universe_of 3 1 1) "PFFFFFFFF" 9 is 0 ∷ 1 ∷ text "B........")
    ∷ (imported (universe_of 3 1 1) "PEEEEEEEE" 9 is 0 ∷ 1 ∷ text "W........")
    ∷ (imported (universe_of 3 1 1) "PFFFFEEEE" 9 is 0 ∷ 3 ∷ text "(BW......")
    ∷ (imported (universe_of 3 2 2) "PPFFFFFFFFEEEEEEE" 20 is 0 ∷ 7 ∷ text "(((BWWW.............")
    ∷ (imported (universe_of 3 2 2) "PFFFFFFFPFFFFFFFF" 20 is 0 ∷ 1 ∷ text "B...................")
    ∷ (imported (universe_of 3 2 2) "PPFEEEEEEEEEEEEEE" 20 is 0 ∷ 13 ∷ text "((((((BWWWWWW.......")
    ∷ []

-- 7: no octree, no expression; 2 before it; 6 last with the need, and the room as it was
abbrev pub bad : List Asked
bad =
    (imported (universe_of 3 1 1) "PPFFFFFFFFEEEEEEE" 4 is 7 ∷ 0 ∷ text "....")
    ∷ (imported (universe_of 3 1 1) "PFFFFFFF" 4 is 7 ∷ 0 ∷ text "....")
    ∷ (imported (universe_of 3 1 1) "PFFFFFFFFE" 4 is 7 ∷ 0 ∷ text "....")
    ∷ (imported (universe_of 3 1 1) "FF" 4 is 7 ∷ 0 ∷ text "....")
    ∷ (imported (universe_of 3 1 1) "" 4 is 7 ∷ 0 ∷ text "....")
    ∷ (imported (universe_of 3 1 1) "B" 4 is 7 ∷ 0 ∷ text "....")
    ∷ (imported (universe_of 3 1 1) "PFFFFBFFF" 4 is 7 ∷ 0 ∷ text "....")
    ∷ (exported (universe_of 3 1 1) "" 4 is 7 ∷ 0 ∷ text "....")
    ∷ (exported (universe_of 3 1 1) "(B" 4 is 7 ∷ 0 ∷ text "....")
    ∷ (exported (universe_of 3 1 1) "BB" 4 is 7 ∷ 0 ∷ text "....")
    ∷ (exported (universe_of 3 1 1) "((((BWWWW" 4 is 7 ∷ 0 ∷ text "....")
    ∷ (exported (universe_of 3 1 1) "F" 4 is 7 ∷ 0 ∷ text "....")
    -- not three axes, bits that differ, and more bits than there may be
    ∷ (exported (universe_of 2 1 1) "B" 4 is 2 ∷ 0 ∷ text "....")
    ∷ (exported (universe_of 4 1 1) "(B" 4 is 2 ∷ 0 ∷ text "....")
    ∷ (exported (universe_of 3 1 2) "B" 4 is 2 ∷ 0 ∷ text "....")
    ∷ (exported (universe_of 3 2 1) "B" 4 is 2 ∷ 0 ∷ text "....")
    ∷ (exported (universe_of 3 11 11) "B" 4 is 2 ∷ 0 ∷ text "....")
    ∷ (imported (universe_of 2 1 1) "F" 4 is 2 ∷ 0 ∷ text "....")
    ∷ (imported (universe_of 4 1 1) "P" 4 is 2 ∷ 0 ∷ text "....")
    ∷ (imported (universe_of 3 1 2) "F" 4 is 2 ∷ 0 ∷ text "....")
    ∷ (imported (universe_of 3 2 1) "F" 4 is 2 ∷ 0 ∷ text "....")
    ∷ (imported (universe_of 3 11 11) "F" 4 is 2 ∷ 0 ∷ text "....")
    -- room around the need
    ∷ (exported (universe_of 3 1 1) "(BW" 0 is 6 ∷ 9 ∷ text "")
    ∷ (exported (universe_of 3 1 1) "(BW" 8 is 6 ∷ 9 ∷ text "........")
    ∷ (exported (universe_of 3 1 1) "(BW" 9 is 0 ∷ 9 ∷ text "PFFFFEEEE")
    ∷ (exported (universe_of 3 1 1) "(BW" 12 is 0 ∷ 9 ∷ text "PFFFFEEEE...")
    ∷ (exported (universe_of 3 1 1) "(BB" 0 is 6 ∷ 1 ∷ text "")
    ∷ (imported (universe_of 3 1 1) "PFEEEEEEE" 0 is 6 ∷ 7 ∷ text "")
    ∷ (imported (universe_of 3 1 1) "PFEEEEEEE" 6 is 6 ∷ 7 ∷ text "......")
    ∷ (imported (universe_of 3 1 1) "PFEEEEEEE" 7 is 0 ∷ 7 ∷ text "(((BWWW")
    ∷ (imported (universe_of 3 1 1) "PFEEEEEEE" 18 is 0 ∷ 7 ∷ text "(((BWWW...........")
    ∷ (imported (universe_of 3 1 1) "PFFFFFFFF" 0 is 6 ∷ 1 ∷ text "")
    ∷ []
