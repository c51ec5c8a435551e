-- Rules 7.2 and 7.4 to 7.6: the scene. Behind what every file begins with, `scene_header`, by `is_scene` and
-- `scene_header_of`, alone knows its versions and places.
use Rattle.std.specs.Prelude.{ℕ, ◌+◌, ◌*◌, Bool, cond, ◌&&◌, ◌||◌, List, [], ◌∷◌, eqb, ℤ, length, get_or}
use Rattle.universe.specs.Refusals.{first_refusal}
use Rattle.universe.specs.Lent.{overwritten}
use Rattle.universe.specs.Universe.{universe_refusal}
use Rattle.universe.specs.Voxel.{window_refusal}
use Rattle.bintree.specs.Answers.{unless_refused}
use Rattle.csg.specs.Halfspace.{row_length, rows_refusal}
use Rattle.csg.specs.Ball.{ball_length, balls_refusal}
use Rattle.csg.specs.Surfaces.{Named}
use Rattle.csg.specs.Words.{tree_refusal}
use Rattle.files.specs.declared.Counts.{Counts}
use Rattle.files.specs.Told.{SceneAnswer, SceneHeaderAnswer, refused_scene, no_scene_header}
use Rattle.files.specs.Numbers.{u16_at, i64s_at, u16s_at, balls_at, number_bytes, word_bytes, short_bytes}
use Rattle.files.specs.Numbers.{mark_of, version_of, universe_said, has_header}

-- rule 7.2: a scene's mark, `HSC`
abbrev pub scene_mark : List ℕ
scene_mark = mark_of 72 83 67

-- rule 7.6: the version that has balls; the length of the header by its version, of which only this one counts balls;
-- and how many balls there are
abbrev pub ball_version : ℕ
ball_version = 3

abbrev pub scene_header_length : ℕ → ℕ
scene_header_length version = cond (eqb version ball_version) 20 18

unfoldable pub balls_said : List ℕ → ℕ
balls_said bytes = cond (eqb (version_of bytes) ball_version) (u16_at bytes 18) 0

-- rules 7.2 and 7.6: the length of a row, and of a ball; where the rows begin, the balls behind them and the words
-- behind those; and the length of the file
abbrev pub row_bytes : ℕ
row_bytes = number_bytes * row_length

abbrev pub ball_bytes : ℕ
ball_bytes = short_bytes * ball_length

unfoldable pub rows_place : List ℕ → ℕ
rows_place bytes = scene_header_length (version_of bytes)

abbrev pub balls_place : List ℕ → ℕ
balls_place bytes = rows_place bytes + row_bytes * u16_at bytes 8

abbrev pub words_place : List ℕ → ℕ
words_place bytes = balls_place bytes + ball_bytes * balls_said bytes

abbrev pub scene_length : List ℕ → ℕ
scene_length bytes = words_place bytes + word_bytes * (u16_at bytes 10 + u16_at bytes 12)

-- rules 7.5 and 7.6: version 1, whose byte for the frame bits is 0, version 2, or version 3
unfoldable pub has_version : List ℕ → Bool
has_version bytes =
    cond (eqb (version_of bytes) 1) (eqb (get_or bytes 7 0) 0)
    (eqb (version_of bytes) 2 || eqb (version_of bytes) ball_version)

-- whether bytes are a scene by mark, version, zero byte and length
unfoldable pub is_scene : List ℕ → Bool
is_scene bytes =
    has_header bytes (rows_place bytes) scene_mark && has_version bytes && eqb (length bytes) (scene_length bytes)

-- what the header says of the scene, and where the rows, the balls, the words of tree 1 and those of tree 2 begin
abbrev pub scene_header_of : List ℕ → SceneHeaderAnswer
scene_header_of bytes =
    record {
      scene =
          record {
            refusal = 0;
            version = version_of bytes;
            universe = universe_said bytes;
            counts =
                record {
                  rows = u16_at bytes 8;
                  balls = balls_said bytes;
                  first = u16_at bytes 10;
                  second = u16_at bytes 12;
                };
            window = record { first = u16_at bytes 14; last = u16_at bytes 16 };
          };
      places =
          record {
            rows = rows_place bytes;
            balls = balls_place bytes;
            first = words_place bytes;
            second = words_place bytes + word_bytes * u16_at bytes 10;
          };
    }

unfoldable pub scene_header : List ℕ → SceneHeaderAnswer
scene_header bytes = cond (is_scene bytes) (scene_header_of bytes) no_scene_header

-- the rows, the balls, and the words of each tree
abbrev pub rows_of : List ℕ → SceneHeaderAnswer → List ℤ
rows_of bytes h = i64s_at bytes h.places.rows (row_length * h.scene.counts.rows)

abbrev pub balls_of : List ℕ → SceneHeaderAnswer → List ℤ
balls_of bytes h = balls_at bytes h.places.balls h.scene.counts.balls

abbrev pub first_words_of : List ℕ → SceneHeaderAnswer → List ℕ
first_words_of bytes h = u16s_at bytes h.places.first h.scene.counts.first

abbrev pub second_words_of : List ℕ → SceneHeaderAnswer → List ℕ
second_words_of bytes h = u16s_at bytes h.places.second h.scene.counts.second

-- what the words of both trees may name
abbrev pub named_by : Counts → Named
named_by counts = record { halfspaces = counts.rows; balls = counts.balls }

-- rule 8.5: 1, 2, 3 for the rows, 3 for the balls, tree 1, tree 2, 9
abbrev pub scene_checks : List ℕ → SceneHeaderAnswer → List ℕ
scene_checks bytes h =
    h.scene.refusal
    ∷ universe_refusal h.scene.universe
    ∷ rows_refusal h.scene.universe (rows_of bytes h)
    ∷ balls_refusal h.scene.universe (balls_of bytes h)
    ∷ tree_refusal (named_by h.scene.counts) (first_words_of bytes h)
    ∷ tree_refusal (named_by h.scene.counts) (second_words_of bytes h)
    ∷ window_refusal h.scene.universe h.scene.window.first h.scene.window.last
    ∷ []

unfoldable pub scene_refusal : List ℕ → ℕ
scene_refusal bytes = first_refusal (scene_checks bytes (scene_header bytes))

-- rule 7.4: what reading a scene answers
unfoldable pub scene_answer : List ℕ → SceneAnswer
scene_answer bytes = unless_refused (scene_refusal bytes) refused_scene (scene_header bytes).scene

-- what the lent arrays hold afterwards
abbrev pub rows_after : List ℕ → List ℤ → List ℤ
rows_after bytes = overwritten (scene_refusal bytes) (rows_of bytes (scene_header bytes))

abbrev pub balls_after : List ℕ → List ℤ → List ℤ
balls_after bytes = overwritten (scene_refusal bytes) (balls_of bytes (scene_header bytes))

abbrev pub first_words_after : List ℕ → List ℕ → List ℕ
first_words_after bytes = overwritten (scene_refusal bytes) (first_words_of bytes (scene_header bytes))

abbrev pub second_words_after : List ℕ → List ℕ → List ℕ
second_words_after bytes = overwritten (scene_refusal bytes) (second_words_of bytes (scene_header bytes))
