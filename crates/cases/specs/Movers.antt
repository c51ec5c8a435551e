-- Section 15 of the rules: keyed movers, worked out from the rules. A case is one line: what is asked, and the number,
-- 1 for Hit with its first frame, its last and its voxels, the length, and what is left in the room, `.` where it was.
use Rattle.std.specs.Prelude.{ℕ, ◌≡◌, List, [], ◌∷◌, map, ℤ, pos, negsuc, true, false, Float}
use Rattle.std.specs.Float.{fin}
use Rattle.universe.specs.declared.Universe.{Universe}
use Rattle.bintree.specs.declared.Verdict.{Verdict}
use Rattle.bintree.specs.declared.Verdict.TheVariants.{Clear, Hit}
use Rattle.csg.specs.Surfaces.{surfaces_of}
use Rattle.convert.specs.Told.{ClearanceAnswer}
use Rattle.standin.specs.declared.Triple.{Triple}
use Rattle.standin.specs.declared.Solid.TheVariants.{Box}
use Rattle.standin.specs.declared.Proxy.{Proxy}
use Rattle.mover.specs.Keys.{mover_of}
use Rattle.mover.specs.Answers.{mover_answer, mover_buffer}
use Rattle.cases.specs.Cases.{text}
use Rattle.cases.specs.FrameBits.{Asked, ◌is◌, universe_of}
use Rattle.cases.specs.Swept.{dots}

abbrev pub of_verdict : Verdict → List ℕ → List ℕ
of_verdict Clear more = 0 ∷ 0 ∷ 0 ∷ 0 ∷ more
of_verdict (Hit c) more = 1 ∷ c.first ∷ c.last ∷ c.voxels ∷ more

abbrev pub told : ClearanceAnswer → List ℕ → List ℕ
told answer left = answer.refusal ∷ of_verdict answer.verdict (answer.length ∷ left)

-- whole numbers as floats, and a thirty-second
abbrev pub plus : ℕ → Float
plus n = fin false n (pos 0)

abbrev pub less : ℕ → Float
less n = fin true n (pos 0)

abbrev pub thirty_second : Float
thirty_second = fin false 1 (negsuc 4)

abbrev pub three : Float → Float → Float → Triple
three x y z = record { x = x; y = y; z = z }

-- a cube of one unit, displaced along x
abbrev pub cube : Float → Proxy
cube v =
    record {
      solid = Box (record { near = three (plus 0) (plus 0) (plus 0); far = three (plus 1) (plus 1) (plus 1) });
      displacement = three v (plus 0) (less 0);
    }

-- a corner on the x axis, and more corners behind it
abbrev pub on_x : Float → List Float → List Float
on_x x more = x ∷ plus 0 ∷ plus 0 ∷ more

-- the cube with its keys, against a tree of these rows and words
abbrev pub moves : Universe → Float → List ℕ → List Float → List ℤ → List ℕ → ℕ → List ℕ
moves u v moments corners rows words lent =
    let m = mover_of (cube v) moments corners in
    let surfaces = surfaces_of rows [] in
    told (mover_answer u m surfaces words (dots lent)) (mover_buffer u m surfaces words (dots lent))

-- two places along each axis, and four frames
abbrev pub small : Universe
small = universe_of 4 1 2

abbrev pub black : List ℕ
black = 1 ∷ []

-- the cube comes from −3 in one frame and then stands at 1 for two; it stands there for two, and goes to −3 in one
abbrev pub comes : List ℤ → List ℕ → ℕ → List ℕ
comes = moves small (plus 0) (0 ∷ 1 ∷ 3 ∷ []) (on_x (less 3) (on_x (plus 1) (on_x (plus 1) [])))

abbrev pub goes : ℕ → List ℕ
goes = moves small (plus 0) (0 ∷ 2 ∷ 3 ∷ []) (on_x (plus 1) (on_x (plus 1) (on_x (less 3) []))) [] black

abbrev pub mover_cases : List Asked
mover_cases =
    -- two stretches: frame 0 by the first, at −1 where the cube then is, frames 1 and 2 by the second, which is written
    -- over the longer first
    (comes [] black 20 is 0 ∷ 1 ∷ 1 ∷ 2 ∷ 2 ∷ 7 ∷ text "(W((BWWWWW((((WWWWW.")
    ∷ (goes 21 is 0 ∷ 1 ∷ 0 ∷ 1 ∷ 2 ∷ 21 ∷ text "((((W(WWWW((((WW(WWWW")
    -- the largest need, exact and one short
    ∷ (comes [] black 19 is 0 ∷ 1 ∷ 1 ∷ 2 ∷ 2 ∷ 7 ∷ text "(W((BWWWWW((((WWWWW")
    ∷ (comes [] black 18 is 6 ∷ 0 ∷ 0 ∷ 0 ∷ 0 ∷ 19 ∷ text "..................")
    -- the last key's moment is not judged
    ∷ (moves small (plus 0) (1 ∷ 2 ∷ []) (on_x (less 3) (on_x (plus 1) [])) [] black 21
    is 0 ∷ 0 ∷ 0 ∷ 0 ∷ 0 ∷ 21 ∷ text "(((((WWWWW((((WW(WWWW")
    -- each number with a fault behind it
    ∷ (moves (universe_of 3 1 2) (plus 1) (0 ∷ []) [] [] black 1 is 2 ∷ 0 ∷ 0 ∷ 0 ∷ 0 ∷ 0 ∷ text ".")
    ∷ (moves small (plus 1) (0 ∷ []) [] [] black 1 is 10 ∷ 0 ∷ 0 ∷ 0 ∷ 0 ∷ 0 ∷ text ".")
    ∷ (moves small (plus 0) (0 ∷ []) (thirty_second ∷ []) [] black 1 is 10 ∷ 0 ∷ 0 ∷ 0 ∷ 0 ∷ 0 ∷ text ".")
    ∷ (moves small (plus 0) (1 ∷ 1 ∷ []) (on_x (plus 0) (on_x (plus 65) [])) [] black 1
    is 11 ∷ 0 ∷ 0 ∷ 0 ∷ 0 ∷ 0 ∷ text ".")
    ∷ (moves small (plus 0) (0 ∷ 5 ∷ []) (on_x (plus 0) (on_x (plus 0) [])) [] black 1
    is 11 ∷ 0 ∷ 0 ∷ 0 ∷ 0 ∷ 0 ∷ text ".")
    ∷ (moves small (plus 0) (3 ∷ 4 ∷ []) (on_x (plus 0) (on_x (plus 65) [])) (pos 0 ∷ []) black 1
    is 12 ∷ 0 ∷ 0 ∷ 0 ∷ 0 ∷ 0 ∷ text ".")
    ∷ (comes (pos 0 ∷ []) (256 ∷ []) 1 is 3 ∷ 0 ∷ 0 ∷ 0 ∷ 0 ∷ 0 ∷ text ".")
    ∷ (comes [] (256 ∷ []) 1 is 4 ∷ 0 ∷ 0 ∷ 0 ∷ 0 ∷ 0 ∷ text ".")
    ∷ []

-- every one is answered as it must be
abbrev pub MoverCasesHold : Type 0
MoverCasesHold = map (λ c. c.answered) mover_cases ≡ map (λ c. c.expected) mover_cases
