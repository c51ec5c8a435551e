-- Section 14 of the rules: sure and possible contact, worked out from the rules. A case is one line: the number and the
-- sure, the centre and the possible count that the call answers, and what they must be.
use Rattle.std.specs.Prelude.{ℕ, ◌≡◌, List, [], ◌∷◌, map, ℤ, pos, replicate}
use Rattle.universe.specs.declared.Universe.{Universe}
use Rattle.csg.specs.Surfaces.{surfaces_of}
use Rattle.at_once.specs.Told.{ContactsAnswer}
use Rattle.at_once.specs.Contacts.{contacts_answer}
use Rattle.cases.specs.Cases.{minus, row}
use Rattle.cases.specs.FrameBits.{Asked, ◌is◌, universe_of}
use Rattle.cases.specs.Balls.{ball}

abbrev pub told : ContactsAnswer → List ℕ
told a = a.refusal ∷ a.sure ∷ a.centre ∷ a.possible ∷ []

-- of two trees over rows and balls, in the frames from `from` to `to`
abbrev pub shared : Universe → List ℤ → List ℤ → List ℕ → List ℕ → ℕ → ℕ → List ℕ
shared u rows balls first second from to = told (contacts_answer u (surfaces_of rows balls) first second from to)

-- four places and four frames; BLACK alone, the first row alone, and BLACK less it
abbrev pub strip : Universe
strip = universe_of 2 2 2

abbrev pub black : List ℕ
black = 1 ∷ []

abbrev pub plane : List ℕ
plane = 256 ∷ []

abbrev pub less_plane : List ℕ
less_plane = 1 ∷ 256 ∷ 4 ∷ []

abbrev pub plane_less_itself : List ℕ
plane_less_itself = 256 ∷ 256 ∷ 4 ∷ []

-- a plane through the centres of a place's voxels, one through their faces, and the row of five zeros
abbrev pub through_centres : List ℤ
through_centres = row (minus 3) (pos 2) (pos 0) []

abbrev pub through_faces : List ℤ
through_faces = row (minus 2) (pos 1) (pos 0) []

abbrev pub zeros : List ℤ
zeros = row (pos 0) (pos 0) (pos 0) []

-- a wall that ends a quarter into the place where another begins
abbrev pub quarter : List ℤ
quarter = row (pos 5) (minus 4) (pos 0) (row (minus 1) (pos 1) (pos 0) [])

-- the mover and the wall of the program's scene, in a window
abbrev pub moved : ℕ → ℕ → List ℕ
moved from to =
    shared strip
    (row (pos 0) (pos 1) (minus 1)
    (row (pos 1) (minus 1) (pos 1) (row (minus 2) (pos 1) (pos 0) (row (pos 3) (minus 1) (pos 0) []))))
    [] (256 ∷ 257 ∷ 3 ∷ []) (258 ∷ 259 ∷ 3 ∷ []) from to

-- a ball of two places about a point
abbrev pub corner : List ℤ
corner = ball (pos 4) (pos 4) (pos 0) (pos 0) []

abbrev pub contact_cases : List Asked
contact_cases =
    -- a plane through centres: doubt in one place, where the centre is black, and white once the plane is reversed
    (shared strip through_centres [] plane black 0 3 is 0 ∷ 8 ∷ 12 ∷ 12 ∷ [])
    ∷ (shared strip through_centres [] less_plane black 0 3 is 0 ∷ 4 ∷ 4 ∷ 8 ∷ [])
    -- one through faces leaves no doubt, and neither does the row of zeros, which is BLACK, reversed WHITE
    ∷ (shared strip through_faces [] plane black 0 3 is 0 ∷ 8 ∷ 8 ∷ 8 ∷ [])
    ∷ (shared strip through_faces [] less_plane black 0 3 is 0 ∷ 8 ∷ 8 ∷ 8 ∷ [])
    ∷ (shared strip zeros [] plane black 0 3 is 0 ∷ 16 ∷ 16 ∷ 16 ∷ [])
    ∷ (shared strip zeros [] less_plane black 0 3 is 0 ∷ 0 ∷ 0 ∷ 0 ∷ [])
    -- A MINUS A: nothing sure, nothing at a centre, and its skin possible
    ∷ (shared strip through_centres [] plane_less_itself black 0 3 is 0 ∷ 0 ∷ 0 ∷ 4 ∷ [])
    ∷ (shared strip through_faces [] plane_less_itself black 0 3 is 0 ∷ 0 ∷ 0 ∷ 0 ∷ [])
    -- contact that centres miss, in all frames and in one
    ∷ (shared strip quarter [] plane (257 ∷ []) 0 3 is 0 ∷ 0 ∷ 0 ∷ 4 ∷ [])
    ∷ (shared strip quarter [] plane (257 ∷ []) 2 2 is 0 ∷ 0 ∷ 0 ∷ 1 ∷ [])
    -- a mover: windows at both ends, within, and all frames
    ∷ (moved 0 0 is 0 ∷ 0 ∷ 0 ∷ 0 ∷ [])
    ∷ (moved 3 3 is 0 ∷ 0 ∷ 0 ∷ 0 ∷ [])
    ∷ (moved 1 1 is 0 ∷ 0 ∷ 1 ∷ 1 ∷ [])
    ∷ (moved 2 3 is 0 ∷ 0 ∷ 1 ∷ 1 ∷ [])
    ∷ (moved 0 3 is 0 ∷ 0 ∷ 2 ∷ 2 ∷ [])
    -- a ball that touches a voxel in one point from outside: the voxel is possible and not sure, reversed too
    ∷ (shared (universe_of 2 2 1) [] (ball (pos 1) (pos 0) (pos 0) (pos 1) []) (512 ∷ []) black 0 1
    is 0 ∷ 4 ∷ 4 ∷ 6 ∷ [])
    ∷ (shared (universe_of 3 2 1) [] corner (512 ∷ []) black 0 0 is 0 ∷ 0 ∷ 0 ∷ 1 ∷ [])
    ∷ (shared (universe_of 3 2 1) [] corner (1 ∷ 512 ∷ 4 ∷ []) black 0 0 is 0 ∷ 15 ∷ 16 ∷ 16 ∷ [])
    -- no bits: one voxel, in doubt or not; and one axis, which counts frames
    ∷ (shared (universe_of 2 0 0) (row (minus 1) (pos 2) (pos 0) []) [] plane black 0 0 is 0 ∷ 0 ∷ 1 ∷ 1 ∷ [])
    ∷ (shared (universe_of 2 0 0) [] [] black black 0 0 is 0 ∷ 1 ∷ 1 ∷ 1 ∷ [])
    ∷ (shared (universe_of 1 0 2) through_centres [] plane black 0 3 is 0 ∷ 2 ∷ 3 ∷ 3 ∷ [])
    ∷ (shared (universe_of 1 0 2) through_centres [] plane black 1 1 is 0 ∷ 0 ∷ 1 ∷ 1 ∷ [])
    -- each number with a fault behind it, the last without
    ∷ (shared (universe_of 5 2 2) (pos 0 ∷ []) [] plane black 0 3 is 2 ∷ 0 ∷ 0 ∷ 0 ∷ [])
    ∷ (shared strip (pos 0 ∷ []) (pos 0 ∷ []) plane black 0 3 is 3 ∷ 0 ∷ 0 ∷ 0 ∷ [])
    ∷ (shared strip [] (pos 0 ∷ []) plane black 0 3 is 3 ∷ 0 ∷ 0 ∷ 0 ∷ [])
    ∷ (shared strip [] [] plane (replicate 256 1) 0 3 is 4 ∷ 0 ∷ 0 ∷ 0 ∷ [])
    ∷ (shared strip [] [] (replicate 256 1) [] 0 3 is 5 ∷ 0 ∷ 0 ∷ 0 ∷ [])
    ∷ (shared strip [] [] black [] 0 4 is 4 ∷ 0 ∷ 0 ∷ 0 ∷ [])
    ∷ (shared strip [] [] black (replicate 256 1) 2 1 is 5 ∷ 0 ∷ 0 ∷ 0 ∷ [])
    ∷ (shared strip [] [] black black 0 4 is 9 ∷ 0 ∷ 0 ∷ 0 ∷ [])
    ∷ (shared strip [] [] black black 2 1 is 9 ∷ 0 ∷ 0 ∷ 0 ∷ [])
    ∷ []

-- every one is answered as it must be
abbrev pub ContactCasesHold : Type 0
ContactCasesHold = map (λ c. c.answered) contact_cases ≡ map (λ c. c.expected) contact_cases
