-- The scene of examples/program.txt, bare scenes of every version and scenes with balls, computed by the definitions: what they say, and which number each
-- change is refused with.
use Prim.Native.Nat.{ℕ, ◌+◌, ◌-◌, ◌*◌, ◌^◌}
use mathlib.Core.Path.{◌≡◌, refl}
use mathlib.Core.List.{List, [], ◌∷◌, ◌++◌}
use lib.IntN.{ℤ, pos, negsuc}
use lib.ListN.{set, take, replicate}
use Rattle.lemmas.specs.Sums.{every}
use Rattle.lemmas.specs.Grid.{listed}
use Rattle.universe.specs.Universe.{universe_refusal, bits_along, equal_bits}
use Rattle.universe.specs.Voxel.{window_refusal}
use Rattle.csg.specs.Halfspace.{within_limits, rows_refusal}
use Rattle.csg.specs.Ball.{ball_within, balls_refusal}
use Rattle.csg.specs.Words.{meaning, step, finish, run, parse, tree_refusal}
use Rattle.files.specs.Numbers.{from_bits, ball_number, u16_bytes, has_header}
use Rattle.files.specs.Scenes.{balls_said, rows_place, has_version, is_scene, scene_header, scene_refusal, scene_answer}
use Rattle.files.specs.Scenes.{rows_of, balls_of, first_words_of, second_words_of}

-- a small whole number in eight bytes, and a word in two
bytes_of : ℤ → List ℕ
bytes_of (pos n) = n ∷ replicate 7 0
bytes_of (negsuc n) = (255 - n) ∷ replicate 7 255

numbers_bytes : List ℤ → List ℕ
numbers_bytes [] = []
numbers_bytes (z ∷ zs) = bytes_of z ++ numbers_bytes zs

-- a strip that moves a voxel a frame, and one that stands from 2 to 3
rows : List ℤ
rows =
    pos 0 ∷ pos 1 ∷ negsuc 0 ∷ pos 0 ∷ pos 0
    ∷ pos 1 ∷ negsuc 0 ∷ pos 1 ∷ pos 0 ∷ pos 0
    ∷ negsuc 1 ∷ pos 1 ∷ pos 0 ∷ pos 0 ∷ pos 0
    ∷ pos 3 ∷ negsuc 0 ∷ pos 0 ∷ pos 0 ∷ pos 0
    ∷ []

-- the two strips, each of its two halfspaces intersected, over all four frames
scene : List ℕ
scene =
    72 ∷ 83 ∷ 67 ∷ 1 ∷ 0 ∷ 2 ∷ 2 ∷ 0
    ∷ 4 ∷ 0 ∷ 3 ∷ 0 ∷ 3 ∷ 0
    ∷ 0 ∷ 0 ∷ 3 ∷ 0
    ∷ numbers_bytes rows
    ++ (0 ∷ 1 ∷ 1 ∷ 1 ∷ 3 ∷ 0 ∷ 2 ∷ 1 ∷ 3 ∷ 1 ∷ 3 ∷ 0 ∷ [])

-- the refusals of the scene as it is, and after changes: too short, one byte more, mark, version 2 with no frame bits and with two, version 3, which is
-- longer, zero byte, an axis too many, too long as well, a row beyond its limit, tree 1 with an index past the rows, tree 2 with an operator first, a last
-- frame past the universe, a window backward
refusals : List ℕ
refusals =
    scene_refusal scene
    ∷ scene_refusal (take 17 scene)
    ∷ scene_refusal (take 189 scene)
    ∷ scene_refusal (scene ++ (10 ∷ []))
    ∷ scene_refusal []
    ∷ scene_refusal (set scene 0 104)
    ∷ scene_refusal (set scene 3 2)
    ∷ scene_refusal (set (set scene 3 2) 7 2)
    ∷ scene_refusal (set scene 3 3)
    ∷ scene_refusal (set scene 7 1)
    ∷ scene_refusal (set scene 5 5)
    ∷ scene_refusal (set scene 5 5 ++ (0 ∷ []))
    ∷ scene_refusal (set scene 25 1)
    ∷ scene_refusal (set scene 180 4)
    ∷ scene_refusal (set (set scene 184 3) 185 0)
    ∷ scene_refusal (set scene 16 4)
    ∷ scene_refusal (set (set scene 14 2) 16 1)
    ∷ []

-- a scene of no rows whose two trees are BLACK, over frames 0 to the last: what reading it says of refusal, version, axes, bits and frame bits
bare : ℕ → ℕ → ℕ → ℕ → ℕ → List ℕ
bare version d k f last =
    72 ∷ 83 ∷ 67 ∷ u16_bytes version
    ++ (d ∷ k ∷ f ∷ 0 ∷ 0 ∷ 1 ∷ 0 ∷ 1 ∷ 0 ∷ 0 ∷ 0 ∷ [])
    ++ u16_bytes last
    ++ (1 ∷ 0 ∷ 1 ∷ 0 ∷ [])

said : List ℕ → List ℕ
said bytes =
    let s = scene_answer bytes in
    s.refusal ∷ s.version ∷ s.universe.axes ∷ s.universe.bits ∷ s.universe.frame_bits ∷ []

-- version 1: its bits are the frame bits too, and at one axis the frame bits alone; each byte at both sides of its limit
first_scenes : List (List ℕ)
first_scenes =
    said (bare 1 1 0 0 0)
    ∷ said (bare 1 1 10 0 (2 ^ 10 - 1))
    ∷ said (bare 1 1 10 0 (2 ^ 10))
    ∷ said (bare 1 1 11 0 0)
    ∷ said (bare 1 1 12 0 0)
    ∷ said (bare 1 0 10 0 0)
    ∷ said (bare 1 2 10 0 (2 ^ 10 - 1))
    ∷ said (bare 1 2 10 0 (2 ^ 10))
    ∷ said (bare 1 2 11 0 0)
    ∷ said (bare 1 4 10 0 0)
    ∷ said (bare 1 5 10 0 0)
    ∷ said (bare 1 2 2 1 0)
    ∷ []

-- version 2: frame bits of their own; and versions that are not read, or not at this length
later_scenes : List (List ℕ)
later_scenes =
    said (bare 2 1 0 12 (2 ^ 12 - 1))
    ∷ said (bare 2 1 0 12 (2 ^ 12))
    ∷ said (bare 2 1 0 13 0)
    ∷ said (bare 2 1 1 12 0)
    ∷ said (bare 2 2 6 11 1_099)
    ∷ said (bare 2 2 10 0 0)
    ∷ said (bare 2 2 10 0 1)
    ∷ said (bare 2 2 11 0 0)
    ∷ said (bare 2 4 10 12 (2 ^ 12 - 1))
    ∷ said (bare 2 4 10 13 0)
    ∷ said (bare 2 5 10 12 0)
    ∷ said (bare 2 0 0 0 0)
    ∷ said (bare 0 2 2 0 0)
    ∷ said (bare 3 2 2 2 0)
    ∷ said (bare 4 2 2 2 0)
    ∷ said (bare 256 2 2 0 0)
    ∷ said (bare 257 2 2 0 0)
    ∷ said (bare 258 2 2 2 0)
    ∷ []

-- a scene's refusals after one byte of the mark, of a count or of the window is changed
changes : List ℕ → List ℕ
changes bytes =
    scene_refusal (set bytes 0 73)
    ∷ scene_refusal (set bytes 1 84)
    ∷ scene_refusal (set bytes 2 66)
    ∷ scene_refusal (set bytes 8 1)
    ∷ scene_refusal (set bytes 9 1)
    ∷ scene_refusal (set bytes 10 0)
    ∷ scene_refusal (set bytes 10 2)
    ∷ scene_refusal (set bytes 11 1)
    ∷ scene_refusal (set bytes 12 0)
    ∷ scene_refusal (set bytes 12 2)
    ∷ scene_refusal (set bytes 13 1)
    ∷ scene_refusal (set bytes 14 3)
    ∷ scene_refusal (set bytes 14 4)
    ∷ scene_refusal (set bytes 15 1)
    ∷ scene_refusal (set bytes 16 4)
    ∷ scene_refusal (set bytes 17 1)
    ∷ []

-- numbers of two bytes each; and a negative one
shorts : List ℕ → List ℕ
shorts [] = []
shorts (n ∷ ns) = u16_bytes n ++ shorts ns

less : ℕ → ℕ
less n = 2 ^ 16 - n

-- a scene of version 3 with no rows, so many balls and these numbers of theirs, whose tree 1 is one word and tree 2 BLACK, over frames 0 to 3
balled : ℕ → ℕ → List ℕ → ℕ → List ℕ
balled d count numbers word =
    72 ∷ 83 ∷ 67 ∷ 3 ∷ 0 ∷ d ∷ 2 ∷ 2
    ∷ 0 ∷ 0 ∷ 1 ∷ 0 ∷ 1 ∷ 0
    ∷ 0 ∷ 0 ∷ 3 ∷ 0
    ∷ u16_bytes count
    ++ shorts numbers
    ++ shorts (word ∷ 1 ∷ [])

-- its header alone, which counts nothing
header : List ℕ
header = set (set (take 20 (balled 2 0 [] 1)) 10 0) 12 0

-- headers of version 3 of 18 to 21 bytes, of version 2 of 17 to 20, and of versions 4 and 259: one that is whole has no words
headers : List ℕ
headers =
    scene_refusal (take 18 header)
    ∷ scene_refusal (take 19 header)
    ∷ scene_refusal header
    ∷ scene_refusal (header ++ (0 ∷ []))
    ∷ scene_refusal (set (take 17 header) 3 2)
    ∷ scene_refusal (set (take 18 header) 3 2)
    ∷ scene_refusal (set (take 19 header) 3 2)
    ∷ scene_refusal (set header 3 2)
    ∷ scene_refusal (set header 3 4)
    ∷ scene_refusal (set header 4 1)
    ∷ []

-- no ball, and counts that the length does not have: one ball too many or too few, and 256; then 64 balls and 65, and 65 with a tree that is none
counts : List ℕ
counts =
    scene_refusal (balled 2 0 [] 1)
    ∷ scene_refusal (balled 2 1 [] 1)
    ∷ scene_refusal (balled 2 0 (replicate 4 0) 1)
    ∷ scene_refusal (balled 2 2 (replicate 4 0) 1)
    ∷ scene_refusal (set (balled 2 0 [] 1) 19 1)
    ∷ scene_refusal (balled 2 64 (replicate (4 * 64) 0) 1)
    ∷ scene_refusal (balled 2 65 (replicate (4 * 65) 0) 1)
    ∷ scene_refusal (balled 2 65 (replicate (4 * 65) 0) 2)
    ∷ []

-- one ball by its numbers
one_ball : ℕ → ℕ → ℕ → ℕ → ℕ → ℕ
one_ball d x y z radius = scene_refusal (balled d 1 (x ∷ y ∷ z ∷ radius ∷ []) 512)

-- a centre and a radius at both sides of their limits, each number of a centre along an axis that is a place axis and one that is none; at one axis none is
limits : List ℕ
limits =
    one_ball 2 (less (2 ^ 10)) 0 0 0
    ∷ one_ball 2 (less (2 ^ 10 + 1)) 0 0 0
    ∷ one_ball 2 (2 ^ 10) 0 0 0
    ∷ one_ball 2 (2 ^ 10 + 1) 0 0 0
    ∷ one_ball 2 (2 ^ 15) 0 0 0
    ∷ one_ball 2 0 0 0 (2 ^ 10)
    ∷ one_ball 2 0 0 0 (2 ^ 10 + 1)
    ∷ one_ball 2 0 0 0 (less 1)
    ∷ one_ball 2 0 1 0 0
    ∷ one_ball 2 0 (less 1) 0 0
    ∷ one_ball 3 0 1 0 0
    ∷ one_ball 3 0 0 1 0
    ∷ one_ball 4 0 0 (less 1) 0
    ∷ scene_refusal (set (balled 1 1 (0 ∷ 0 ∷ 0 ∷ 1 ∷ []) 512) 6 0)
    ∷ scene_refusal (set (balled 1 1 (1 ∷ 0 ∷ 0 ∷ 1 ∷ []) 512) 6 0)
    ∷ []

-- ball words: in versions 1 and 2, in version 3 with no ball, with one, and with 64
ball_words : List ℕ
ball_words =
    scene_refusal (set (set (bare 1 2 2 0 3) 18 0) 19 2)
    ∷ scene_refusal (set (set (bare 2 2 2 2 3) 18 0) 19 2)
    ∷ scene_refusal (balled 2 0 [] 512)
    ∷ scene_refusal (balled 2 1 (replicate 4 0) 512)
    ∷ scene_refusal (balled 2 1 (replicate 4 0) 513)
    ∷ scene_refusal (balled 2 64 (replicate (4 * 64) 0) 575)
    ∷ scene_refusal (balled 2 64 (replicate (4 * 64) 0) 576)
    ∷ []

-- a row, two balls and both trees, one behind the other
mixed : List ℕ
mixed =
    72 ∷ 83 ∷ 67 ∷ 3 ∷ 0 ∷ 4 ∷ 2 ∷ 3
    ∷ 1 ∷ 0 ∷ 3 ∷ 0 ∷ 1 ∷ 0
    ∷ 1 ∷ 0 ∷ 7 ∷ 0
    ∷ 2 ∷ 0
    ∷ numbers_bytes (pos 1 ∷ negsuc 1 ∷ pos 3 ∷ negsuc 3 ∷ pos 5 ∷ [])
    ++ shorts (less (2 ^ 10) ∷ less 1 ∷ 2 ^ 10 ∷ 6 ∷ 7 ∷ 8 ∷ 9 ∷ 2 ^ 10 ∷ [])
    ++ shorts (256 ∷ 513 ∷ 4 ∷ 512 ∷ [])

-- what a scene says that is refused
refused : ℕ → List ℕ
refused number = number ∷ replicate 4 0

-- THEOREM: what the scene says, and the refusals
scene_said :
    scene_answer scene
    ≡ record {
      refusal = 0;
      version = 1;
      universe = record { axes = 2; bits = 2; frame_bits = 2 };
      counts = record { rows = 4; balls = 0; first = 3; second = 3 };
      window = record { first = 0; last = 3 };
    }
unfolding has_header numbers_bytes bytes_of rows scene every from_bits listed universe_refusal bits_along window_refusal within_limits rows_refusal balls_refusal
    meaning step finish run parse tree_refusal equal_bits balls_said rows_place has_version is_scene scene_header scene_refusal scene_answer
scene_said = refl

rows_said : rows_of scene (scene_header scene) ≡ rows
unfolding every has_header numbers_bytes bytes_of rows scene from_bits listed balls_said rows_place has_version is_scene scene_header
rows_said = refl

words_said : first_words_of scene (scene_header scene) ++ second_words_of scene (scene_header scene) ≡ 256 ∷ 257 ∷ 3 ∷ 258 ∷ 259 ∷ 3 ∷ []
unfolding every has_header numbers_bytes bytes_of rows scene listed balls_said rows_place has_version is_scene scene_header
words_said = refl

scenes_refused : refusals ≡ 0 ∷ 1 ∷ 1 ∷ 1 ∷ 1 ∷ 1 ∷ 9 ∷ 0 ∷ 1 ∷ 1 ∷ 2 ∷ 1 ∷ 3 ∷ 4 ∷ 4 ∷ 9 ∷ 9 ∷ []
unfolding has_header refusals numbers_bytes bytes_of rows scene every from_bits listed universe_refusal bits_along window_refusal within_limits rows_refusal
    balls_refusal meaning step finish run parse tree_refusal equal_bits balls_said rows_place has_version is_scene scene_header scene_refusal
scenes_refused = refl

scenes_of_version_1 :
    first_scenes
    ≡ (0 ∷ 1 ∷ 1 ∷ 0 ∷ 0 ∷ [])
    ∷ (0 ∷ 1 ∷ 1 ∷ 0 ∷ 10 ∷ [])
    ∷ refused 9
    ∷ refused 2
    ∷ refused 2
    ∷ refused 2
    ∷ (0 ∷ 1 ∷ 2 ∷ 10 ∷ 10 ∷ [])
    ∷ refused 9
    ∷ refused 2
    ∷ (0 ∷ 1 ∷ 4 ∷ 10 ∷ 10 ∷ [])
    ∷ refused 2
    ∷ refused 1
    ∷ []
unfolding has_header bare said refused every from_bits listed equal_bits universe_refusal bits_along window_refusal within_limits rows_refusal balls_refusal meaning
    step finish run parse tree_refusal balls_said rows_place has_version is_scene scene_header scene_refusal scene_answer first_scenes
scenes_of_version_1 = refl

scenes_of_version_2 :
    later_scenes
    ≡ (0 ∷ 2 ∷ 1 ∷ 0 ∷ 12 ∷ [])
    ∷ refused 9
    ∷ refused 2
    ∷ refused 2
    ∷ (0 ∷ 2 ∷ 2 ∷ 6 ∷ 11 ∷ [])
    ∷ (0 ∷ 2 ∷ 2 ∷ 10 ∷ 0 ∷ [])
    ∷ refused 9
    ∷ refused 2
    ∷ (0 ∷ 2 ∷ 4 ∷ 10 ∷ 12 ∷ [])
    ∷ refused 2
    ∷ refused 2
    ∷ refused 2
    ∷ refused 1
    ∷ refused 1
    ∷ refused 1
    ∷ refused 1
    ∷ refused 1
    ∷ refused 1
    ∷ []
unfolding has_header bare said refused every from_bits listed equal_bits universe_refusal bits_along window_refusal within_limits rows_refusal balls_refusal meaning
    step finish run parse tree_refusal balls_said rows_place has_version is_scene scene_header scene_refusal scene_answer later_scenes
scenes_of_version_2 = refl

changed_alike :
    changes (bare 1 2 2 0 3) ++ changes (bare 2 2 2 2 3) ++ changes (balled 2 0 [] 1)
    ≡ (1 ∷ 1 ∷ 1 ∷ 1 ∷ 1 ∷ 1 ∷ 1 ∷ 1 ∷ 1 ∷ 1 ∷ 1 ∷ 0 ∷ 9 ∷ 9 ∷ 9 ∷ 9 ∷ [])
    ++ (1 ∷ 1 ∷ 1 ∷ 1 ∷ 1 ∷ 1 ∷ 1 ∷ 1 ∷ 1 ∷ 1 ∷ 1 ∷ 0 ∷ 9 ∷ 9 ∷ 9 ∷ 9 ∷ [])
    ++ (1 ∷ 1 ∷ 1 ∷ 1 ∷ 1 ∷ 1 ∷ 1 ∷ 1 ∷ 1 ∷ 1 ∷ 1 ∷ 0 ∷ 9 ∷ 9 ∷ 9 ∷ 9 ∷ [])
unfolding has_header bare shorts balled changes every from_bits listed equal_bits universe_refusal bits_along window_refusal within_limits rows_refusal balls_refusal
    meaning step finish run parse tree_refusal balls_said rows_place has_version is_scene scene_header scene_refusal
changed_alike = refl

scenes_with_balls :
    headers ++ counts ++ limits ++ ball_words
    ≡ (1 ∷ 1 ∷ 4 ∷ 1 ∷ 1 ∷ 4 ∷ 1 ∷ 1 ∷ 1 ∷ 1 ∷ [])
    ++ (0 ∷ 1 ∷ 1 ∷ 1 ∷ 1 ∷ 0 ∷ 3 ∷ 3 ∷ [])
    ++ (0 ∷ 3 ∷ 0 ∷ 3 ∷ 3 ∷ 0 ∷ 3 ∷ 3 ∷ 3 ∷ 3 ∷ 0 ∷ 3 ∷ 0 ∷ 0 ∷ 3 ∷ [])
    ++ (4 ∷ 4 ∷ 4 ∷ 0 ∷ 4 ∷ 0 ∷ 4 ∷ [])
unfolding every has_header from_bits ball_number listed universe_refusal bits_along window_refusal within_limits rows_refusal ball_within balls_refusal meaning step
    finish run parse tree_refusal equal_bits balls_said rows_place has_version is_scene scene_header scene_refusal header headers counts one_ball limits ball_words
    shorts less balled bare
scenes_with_balls = refl

mixed_said :
    scene_answer mixed
    ≡ record {
      refusal = 0;
      version = 3;
      universe = record { axes = 4; bits = 2; frame_bits = 3 };
      counts = record { rows = 1; balls = 2; first = 3; second = 1 };
      window = record { first = 1; last = 7 };
    }
unfolding every has_header from_bits ball_number listed universe_refusal bits_along window_refusal within_limits rows_refusal ball_within balls_refusal meaning step
    finish run parse tree_refusal equal_bits balls_said rows_place has_version is_scene scene_header scene_refusal numbers_bytes bytes_of shorts less mixed scene_answer
mixed_said = refl

surfaces_said :
    rows_of mixed (scene_header mixed) ++ balls_of mixed (scene_header mixed)
    ≡ (pos 1 ∷ negsuc 1 ∷ pos 3 ∷ negsuc 3 ∷ pos 5 ∷ [])
    ++ (negsuc (2 ^ 10 - 1) ∷ negsuc 0 ∷ pos (2 ^ 10) ∷ pos 6 ∷ pos 7 ∷ pos 8 ∷ pos 9 ∷ pos (2 ^ 10) ∷ [])
unfolding every has_header from_bits ball_number listed universe_refusal bits_along window_refusal within_limits rows_refusal ball_within balls_refusal meaning step
    finish run parse tree_refusal equal_bits balls_said rows_place has_version is_scene scene_header scene_refusal numbers_bytes bytes_of shorts less mixed
surfaces_said = refl

mixed_words : first_words_of mixed (scene_header mixed) ++ second_words_of mixed (scene_header mixed) ≡ 256 ∷ 513 ∷ 4 ∷ 512 ∷ []
unfolding every has_header from_bits ball_number listed universe_refusal bits_along window_refusal within_limits rows_refusal ball_within balls_refusal meaning step
    finish run parse tree_refusal equal_bits balls_said rows_place has_version is_scene scene_header scene_refusal numbers_bytes bytes_of shorts less mixed
mixed_words = refl

-- a radius is unsigned, a centre is not
radius_unsigned :
    let bytes = balled 2 1 (less 1 ∷ 2 ^ 15 ∷ (2 ^ 15 - 1) ∷ less 1 ∷ []) 512 in
    balls_of bytes (scene_header bytes) ≡ negsuc 0 ∷ negsuc (2 ^ 15 - 1) ∷ pos (2 ^ 15 - 1) ∷ pos (2 ^ 16 - 1) ∷ []
unfolding every has_header from_bits ball_number listed universe_refusal bits_along window_refusal within_limits rows_refusal ball_within balls_refusal meaning step
    finish run parse tree_refusal equal_bits balls_said rows_place has_version is_scene scene_header scene_refusal shorts less balled
radius_unsigned = refl
