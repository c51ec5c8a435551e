-- Rules 9.1 to 9.3: which lines a scene gets. What reading, converting and the room question answer is said by the
-- definitions that their own contracts cite, here and nowhere else.
use Rattle.std.specs.Prelude.{ℕ, ◌+◌, ◌*◌, cond, List, ◌++◌, ltb, eqb, pos, length, take, replicate}
use Rattle.universe.specs.declared.Universe.{Universe}
use Rattle.universe.specs.Refusals.{bad_file, no_room}
use Rattle.universe.specs.Room.{room_answer}
use Rattle.csg.specs.Halfspace.{most_rows, row_length}
use Rattle.csg.specs.Ball.{most_balls, ball_length}
use Rattle.csg.specs.Surfaces.{Surfaces, surfaces_of}
use Rattle.csg.specs.Words.{most_words, halfspace_words, ball_words}
use Rattle.convert.specs.Told.{ClearanceAnswer}
use Rattle.convert.specs.Answers.{clearance_answer}
use Rattle.files.specs.Told.{SceneAnswer}
use Rattle.files.specs.Scenes.{scene_answer, rows_after, balls_after, first_words_after, second_words_after}
use Rattle.lines.specs.Lines.{refused_line, short_line, universe_line, counts_line, verdict_line}

-- rule 9.1: 64 KiB; a scene of more bytes is refused
abbrev pub most_scene_bytes : ℕ
most_scene_bytes = 65_536

-- rule 9.1: the room that the conversion is lent, in symbols
abbrev pub lent_symbols : ℕ
lent_symbols = 32_768

-- three lines, of a scene of a version with so many words that name a halfspace and so many that name a ball, or the
-- one line of the number that refuses, with the symbols needed where that is no_room
unfoldable pub clearance_lines : ℕ → Universe → ℕ → ℕ → ClearanceAnswer → List ℕ
clearance_lines version u leaves balls c =
    cond (eqb c.refusal no_room) (short_line c.length)
    (cond (eqb c.refusal 0)
    (universe_line version u
    ++ counts_line leaves c.length (room_answer u leaves balls).symbols
    ++ verdict_line c.verdict)
    (refused_line c.refusal))

-- those of a scene that was read, with its surfaces and words: its two trees are intersected and judged over its window
unfoldable pub judged_lines : SceneAnswer → Surfaces → List ℕ → List ℕ → List ℕ
judged_lines s surfaces first second =
    clearance_lines s.version s.universe
    (halfspace_words first + halfspace_words second)
    (ball_words first + ball_words second)
    (clearance_answer s.universe surfaces first second s.window.first s.window.last (replicate lent_symbols 0))

-- the surfaces and the words that reading a scene leaves at the front of arrays of zeros
abbrev pub scene_surfaces : List ℕ → Surfaces
scene_surfaces bytes =
    let counts = (scene_answer bytes).counts in
    surfaces_of
    (take (row_length * counts.rows) (rows_after bytes (replicate (most_rows * row_length) (pos 0))))
    (take (ball_length * counts.balls) (balls_after bytes (replicate (most_balls * ball_length) (pos 0))))

abbrev pub scene_first : List ℕ → List ℕ
scene_first bytes = take (scene_answer bytes).counts.first (first_words_after bytes (replicate most_words 0))

abbrev pub scene_second : List ℕ → List ℕ
scene_second bytes = take (scene_answer bytes).counts.second (second_words_after bytes (replicate most_words 0))

-- the lines of a scene, or the one line of the number that refuses to read it
unfoldable pub scene_lines : List ℕ → List ℕ
scene_lines bytes =
    cond (eqb (scene_answer bytes).refusal 0)
    (judged_lines (scene_answer bytes) (scene_surfaces bytes) (scene_first bytes) (scene_second bytes))
    (refused_line (scene_answer bytes).refusal)

-- what is printed for the bytes of a scene; those over 64 KiB are not looked at
unfoldable pub program_lines : List ℕ → List ℕ
program_lines bytes = cond (ltb most_scene_bytes (length bytes)) (refused_line bad_file) (scene_lines bytes)
