-- Section 12 of the rules: sweeps along each axis, refusals and room, worked out from the rules voxel by voxel. A case
-- is one line: what is asked, and the number, the universe's three, the length, and what is left in the room, `.` where
-- it was. And that sweeping an intersection is not intersecting two sweeps.
use Rattle.std.specs.Prelude.{ℕ, ◌≡◌, List, [], ◌∷◌, ◌++◌, map, take, replicate}
use Prim.Native.String.{String}
use Rattle.universe.specs.declared.Universe.{Universe}
use Rattle.bintree.specs.Told.{WrittenAnswer}
use Rattle.convert.specs.Answers.{merged_of_one_answer, merged_of_one_buffer, merged_of_two_answer, merged_of_two_buffer}
use Rattle.sweep.specs.Told.{SweptAnswer}
use Rattle.sweep.specs.Answers.{swept_answer, swept_buffer}
use Rattle.cases.specs.Cases.{text, square, strips, moving, standing}
use Rattle.cases.specs.FrameBits.{Asked, ◌is◌, universe_of}

-- all that an answer tells, with what is left in the room
abbrev pub told : SweptAnswer → List ℕ → List ℕ
told answer left =
    answer.refusal
    ∷ answer.universe.axes
    ∷ answer.universe.bits
    ∷ answer.universe.frame_bits
    ∷ answer.length
    ∷ left

-- so many places of room, with `.` in each
abbrev pub dots : ℕ → List ℕ
dots n = replicate n 46

-- the sweep of a quoted expression along an axis, into so much room
abbrev pub along : Universe → String → ℕ → ℕ → List ℕ
along u s axis lent = told (swept_answer u (text s) axis (dots lent)) (swept_buffer u (text s) axis (dots lent))

-- what is written of a tree of the program's scene, and of both intersected
abbrev pub front : WrittenAnswer → List ℕ → List ℕ
front answer left = take answer.length left

abbrev pub of_one : List ℕ → List ℕ
of_one words = front (merged_of_one_answer square strips words (dots 31)) (merged_of_one_buffer square strips words (dots 31))

abbrev pub of_both : List ℕ
of_both =
    front
    (merged_of_two_answer square strips moving standing (dots 31))
    (merged_of_two_buffer square strips moving standing (dots 31))

-- two axes, of which one is left
abbrev pub two_axes : List Asked
two_axes =
    -- each axis, where the frame axis has more bits than the others and where it has fewer
    (along (universe_of 2 1 2) "(((WB(WWW" 1 9 is 0 ∷ 1 ∷ 0 ∷ 2 ∷ 5 ∷ text "((WBW....")
    ∷ (along (universe_of 2 1 2) "(((WB(WWW" 2 9 is 0 ∷ 1 ∷ 0 ∷ 1 ∷ 3 ∷ text "(BW......")
    ∷ (along (universe_of 2 2 1) "(((WW(BWW" 1 9 is 0 ∷ 1 ∷ 0 ∷ 1 ∷ 3 ∷ text "(WB......")
    ∷ (along (universe_of 2 2 1) "(((WW(BWW" 2 9 is 0 ∷ 1 ∷ 0 ∷ 2 ∷ 5 ∷ text "((BWW....")
    -- no bits along the other axes, along the last, along all; an axis without bits is dropped too
    ∷ (along (universe_of 2 0 2) "((WBW" 1 5 is 0 ∷ 1 ∷ 0 ∷ 2 ∷ 5 ∷ text "((WBW")
    ∷ (along (universe_of 2 0 2) "((WBW" 2 5 is 0 ∷ 1 ∷ 0 ∷ 0 ∷ 1 ∷ text "B....")
    ∷ (along (universe_of 2 2 0) "((WB(WW" 1 7 is 0 ∷ 1 ∷ 0 ∷ 0 ∷ 1 ∷ text "B......")
    ∷ (along (universe_of 2 2 0) "((WB(WW" 2 7 is 0 ∷ 1 ∷ 0 ∷ 2 ∷ 5 ∷ text "((WBW..")
    ∷ []

-- three axes
abbrev pub three_axes : List Asked
three_axes =
    -- each axis, where the frame axis has more bits than the others and where it has fewer
    (along (universe_of 3 1 2) "((((WW(WW(B(WWW" 1 15 is 0 ∷ 2 ∷ 1 ∷ 2 ∷ 5 ∷ text "(W(BW..........")
    ∷ (along (universe_of 3 1 2) "((((WW(WW(B(WWW" 2 15 is 0 ∷ 2 ∷ 1 ∷ 2 ∷ 5 ∷ text "((BWW..........")
    ∷ (along (universe_of 3 1 2) "((((WW(WW(B(WWW" 3 15 is 0 ∷ 2 ∷ 1 ∷ 1 ∷ 5 ∷ text "((WBW..........")
    ∷ (along (universe_of 3 2 1) "(W(W((W(BW((WW(BW" 1 17 is 0 ∷ 2 ∷ 2 ∷ 1 ∷ 9 ∷ text "(W((BW(BW........")
    ∷ (along (universe_of 3 2 1) "(W(W((W(BW((WW(BW" 2 17 is 0 ∷ 2 ∷ 2 ∷ 1 ∷ 9 ∷ text "(W((WB(WB........")
    ∷ (along (universe_of 3 2 1) "(W(W((W(BW((WW(BW" 3 17 is 0 ∷ 2 ∷ 2 ∷ 2 ∷ 9 ∷ text "(W(W(W(BW........")
    -- no bits along the other axes, along the last, along all; an axis without bits is dropped too
    ∷ (along (universe_of 3 2 0) "(((WBW(B(WW" 1 11 is 0 ∷ 2 ∷ 2 ∷ 0 ∷ 3 ∷ text "(BW........")
    ∷ (along (universe_of 3 2 0) "(((WBW(B(WW" 2 11 is 0 ∷ 2 ∷ 2 ∷ 0 ∷ 5 ∷ text "((WBB......")
    ∷ (along (universe_of 3 2 0) "(((WBW(B(WW" 3 11 is 0 ∷ 2 ∷ 2 ∷ 2 ∷ 9 ∷ text "(((WBW(BW..")
    ∷ (along (universe_of 3 0 0) "B" 1 1 is 0 ∷ 2 ∷ 0 ∷ 0 ∷ 1 ∷ text "B")
    ∷ (along (universe_of 3 0 0) "B" 2 1 is 0 ∷ 2 ∷ 0 ∷ 0 ∷ 1 ∷ text "B")
    ∷ (along (universe_of 3 0 0) "B" 3 1 is 0 ∷ 2 ∷ 0 ∷ 0 ∷ 1 ∷ text "B")
    ∷ []

-- four axes
abbrev pub four_axes : List Asked
four_axes =
    -- each axis, where the frame axis has more bits than the others and where it has fewer
    (along (universe_of 4 1 2) "(((B((WW(WW(((WW(WBWW" 1 21 is 0 ∷ 3 ∷ 1 ∷ 2 ∷ 11 ∷ text "((BW((W(WBW..........")
    ∷ (along (universe_of 4 1 2) "(((B((WW(WW(((WW(WBWW" 2 21 is 0 ∷ 3 ∷ 1 ∷ 2 ∷ 5 ∷ text "((BWW................")
    ∷ (along (universe_of 4 1 2) "(((B((WW(WW(((WW(WBWW" 3 21 is 0 ∷ 3 ∷ 1 ∷ 2 ∷ 9 ∷ text "((B(W(WBW............")
    ∷ (along (universe_of 4 1 2) "(((B((WW(WW(((WW(WBWW" 4 21 is 0 ∷ 3 ∷ 1 ∷ 1 ∷ 9 ∷ text "(((BW(BWW............")
    ∷ (along (universe_of 4 2 1) "((W(((((WBW((WW(WW(((WW(WWB(BBW" 1 15 is 0 ∷ 3 ∷ 2 ∷ 1 ∷ 11 ∷ text "(W((((WBWBB....")
    ∷ (along (universe_of 4 2 1) "((W(((((WBW((WW(WW(((WW(WWB(BBW" 2 15 is 0 ∷ 3 ∷ 2 ∷ 1 ∷ 13 ∷ text "(((((WBW(WBBW..")
    ∷ (along (universe_of 4 2 1) "((W(((((WBW((WW(WW(((WW(WWB(BBW" 3 15 is 0 ∷ 3 ∷ 2 ∷ 1 ∷ 5 ∷ text "((WBW..........")
    ∷ (along (universe_of 4 2 1) "((W(((((WBW((WW(WW(((WW(WWB(BBW" 4 15 is 0 ∷ 3 ∷ 2 ∷ 2 ∷ 13 ∷ text "((W((((WBWBBW..")
    -- no bits along the other axes, along the last, along all; an axis without bits is dropped too
    ∷ (along (universe_of 4 0 2) "(W(BW" 1 5 is 0 ∷ 3 ∷ 0 ∷ 2 ∷ 5 ∷ text "(W(BW")
    ∷ (along (universe_of 4 0 2) "(W(BW" 2 5 is 0 ∷ 3 ∷ 0 ∷ 2 ∷ 5 ∷ text "(W(BW")
    ∷ (along (universe_of 4 0 2) "(W(BW" 3 5 is 0 ∷ 3 ∷ 0 ∷ 2 ∷ 5 ∷ text "(W(BW")
    ∷ (along (universe_of 4 0 2) "(W(BW" 4 5 is 0 ∷ 3 ∷ 0 ∷ 0 ∷ 1 ∷ text "B....")
    ∷ (along (universe_of 4 1 0) "(((WW(WB((WW(WW" 1 15 is 0 ∷ 3 ∷ 1 ∷ 0 ∷ 5 ∷ text "(W(WB..........")
    ∷ (along (universe_of 4 1 0) "(((WW(WB((WW(WW" 2 15 is 0 ∷ 3 ∷ 1 ∷ 0 ∷ 5 ∷ text "((WBW..........")
    ∷ (along (universe_of 4 1 0) "(((WW(WB((WW(WW" 3 15 is 0 ∷ 3 ∷ 1 ∷ 0 ∷ 5 ∷ text "((WBW..........")
    ∷ (along (universe_of 4 1 0) "(((WW(WB((WW(WW" 4 15 is 0 ∷ 3 ∷ 1 ∷ 1 ∷ 7 ∷ text "((W(WBW........")
    ∷ []

-- what is the same, and what is refused
abbrev pub edges : List Asked
edges =
    -- raw or merged, the same
    (along (universe_of 2 2 2) "(W(((WBW((BWW" 1 19 is 0 ∷ 1 ∷ 0 ∷ 2 ∷ 7 ∷ text "((WB(BW............")
    ∷ (along (universe_of 2 2 2) "(W(((WBW((BWW" 2 19 is 0 ∷ 1 ∷ 0 ∷ 2 ∷ 5 ∷ text "(W(BW..............")
    ∷ (along (universe_of 2 2 2) "((WW(((WB(WW((BW(WW" 1 19 is 0 ∷ 1 ∷ 0 ∷ 2 ∷ 7 ∷ text "((WB(BW............")
    ∷ (along (universe_of 2 2 2) "((WW(((WB(WW((BW(WW" 2 19 is 0 ∷ 1 ∷ 0 ∷ 2 ∷ 5 ∷ text "(W(BW..............")
    -- 2 where there is one axis alone, the axis is none of them or the universe is refused; it comes before 7
    ∷ (along (universe_of 1 0 2) "(WB" 1 3 is 2 ∷ 0 ∷ 0 ∷ 0 ∷ 0 ∷ text "...")
    ∷ (along (universe_of 2 2 2) "(W(((WBW((BWW" 0 4 is 2 ∷ 0 ∷ 0 ∷ 0 ∷ 0 ∷ text "....")
    ∷ (along (universe_of 2 2 2) "(W(((WBW((BWW" 3 4 is 2 ∷ 0 ∷ 0 ∷ 0 ∷ 0 ∷ text "....")
    ∷ (along (universe_of 2 2 2) "(W" 0 4 is 2 ∷ 0 ∷ 0 ∷ 0 ∷ 0 ∷ text "....")
    ∷ (along (universe_of 2 2 2) "(W" 1 4 is 7 ∷ 0 ∷ 0 ∷ 0 ∷ 0 ∷ text "....")
    ∷ (along (universe_of 3 1 2) "B" 4 4 is 2 ∷ 0 ∷ 0 ∷ 0 ∷ 0 ∷ text "....")
    ∷ (along (universe_of 2 11 2) "B" 1 4 is 2 ∷ 0 ∷ 0 ∷ 0 ∷ 0 ∷ text "....")
    ∷ (along (universe_of 2 1 13) "B" 1 4 is 2 ∷ 0 ∷ 0 ∷ 0 ∷ 0 ∷ text "....")
    ∷ (along (universe_of 5 1 1) "B" 1 4 is 2 ∷ 0 ∷ 0 ∷ 0 ∷ 0 ∷ text "....")
    -- 6 last, with the need, and the room as it was; at the need, and past the end
    ∷ (along (universe_of 2 2 2) "(W(((WBW((BWW" 1 0 is 6 ∷ 0 ∷ 0 ∷ 0 ∷ 7 ∷ text "")
    ∷ (along (universe_of 2 2 2) "(W(((WBW((BWW" 1 6 is 6 ∷ 0 ∷ 0 ∷ 0 ∷ 7 ∷ text "......")
    ∷ (along (universe_of 2 2 2) "(W(((WBW((BWW" 1 7 is 0 ∷ 1 ∷ 0 ∷ 2 ∷ 7 ∷ text "((WB(BW")
    ∷ (along (universe_of 2 2 2) "(W(((WBW((BWW" 1 9 is 0 ∷ 1 ∷ 0 ∷ 2 ∷ 7 ∷ text "((WB(BW..")
    ∷ []

-- sweeping an intersection is not intersecting two sweeps
abbrev pub scene : List Asked
scene =
    -- the program's scene: each tree is somewhere at every frame, and both are at one place at two of them alone
    (of_one moving is text "((((BWBW(((WBW((BWB")
    ∷ (along square "((((BWBW(((WBW((BWB" 1 1 is 0 ∷ 1 ∷ 0 ∷ 2 ∷ 1 ∷ text "B")
    ∷ (of_one standing is text "(W((BW(BW")
    ∷ (along square "(W((BW(BW" 1 1 is 0 ∷ 1 ∷ 0 ∷ 2 ∷ 1 ∷ text "B")
    ∷ (of_both is text "(W(((WBW((BWW")
    ∷ (along square "(W(((WBW((BWW" 1 7 is 0 ∷ 1 ∷ 0 ∷ 2 ∷ 7 ∷ text "((WB(BW")
    ∷ []

-- every one is answered as it must be
abbrev pub Hold : List Asked → Type 0
Hold asked = map (λ c. c.answered) asked ≡ map (λ c. c.expected) asked
