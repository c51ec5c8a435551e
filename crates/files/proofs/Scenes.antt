-- Scene files: what a header tells of is there; each check decides where those before it accept; an accepted scene is accepted by every check
-- (`scene_accepts`); and the answer and the lent arrays of both outcomes.
use Prim.Native.Nat.{ℕ, ◌+◌, ◌*◌, ◌≤◌, ◌<◌}
use native.Mathlib.Omega.{arith}
use mathlib.Core.Path.{◌≡◌, refl, sym, ap, ◌∙◌}
use mathlib.Core.Bool.{Bool, true, false, cond}
use mathlib.Core.List.{List, ◌++◌}
use lib.IntN.{ℤ}
use lib.ListN.{length, drop}
use Rattle.lemmas.specs.Grid.{listed}
use Rattle.lemmas.proofs.Grid.{listed_length}
use Rattle.universe.specs.declared.Universe.{Universe}
use Rattle.universe.specs.Refusals.{first_refusal, bad_rows, overfull_tree}
use Rattle.universe.specs.Lent.{overwritten}
use Rattle.universe.specs.Universe.{universe_refusal}
use Rattle.universe.specs.Voxel.{window_refusal}
use Rattle.universe.proofs.Lent.{untouched, written}
use Rattle.universe.proofs.Telling.{number-pos, number-not_zero}
use Rattle.bintree.proofs.Answers.{is_refused, is_done}
use Rattle.csg.specs.Halfspace.{most_rows, row_length, rows_refusal}
use Rattle.csg.specs.Ball.{most_balls, ball_length, balls_refusal}
use Rattle.csg.specs.Surfaces.{Named}
use Rattle.csg.specs.Words.{most_words, tree_refusal}
use Rattle.csg.proofs.Rows.{rows_too_many}
use Rattle.csg.proofs.BallChecks.{balls_too_many}
use Rattle.csg.proofs.Words.{too_long}
use Rattle.universe.specs.declared.refusal.Refusal.{Refusal}
use Rattle.universe.specs.Told.{number_of}
use Rattle.files.specs.Told.{SceneHeaderAnswer, refused_scene, refused_scene_header, no_scene_header}
use Rattle.files.specs.Numbers.{word_bytes}
use Rattle.files.specs.Scenes.{row_bytes, ball_bytes, is_scene}
use Rattle.files.specs.Scenes.{scene_header_of, scene_header}
use Rattle.files.specs.Scenes.{rows_of, balls_of, first_words_of, second_words_of, named_by, scene_checks, scene_refusal, scene_answer}
use Rattle.files.specs.Scenes.{rows_after, balls_after, first_words_after, second_words_after}
use Rattle.files.proofs.Refusals.{Left, left_refused, left_accepts, left_others}
use Rattle.files.proofs.SceneHeaders.{scene_whole}

-- ---- rows, balls and words

-- more of them than there may be are refused whatever they hold
pub rows_many : (u : Universe) (n : ℕ) (f : ℕ → ℤ) → most_rows < n → bad_rows ≡ rows_refusal u (listed (row_length * n) f)
rows_many u n f h =
    let l = listed_length (row_length * n) f in
    sym (rows_too_many u (listed (row_length * n) f) (omega (arith, l)) (omega (arith, l)))

pub balls_many : (u : Universe) (n : ℕ) (f : ℕ → ℤ) → most_balls < n → bad_rows ≡ balls_refusal u (listed (ball_length * n) f)
balls_many u n f h =
    let l = listed_length (ball_length * n) f in
    sym (balls_too_many u (listed (ball_length * n) f) (omega (arith, l)) (omega (arith, l)))

pub words_many : (names : Named) (n : ℕ) (f : ℕ → ℕ) → most_words < n → overfull_tree ≡ tree_refusal names (listed n f)
words_many names n f h = sym (too_long names (listed n f) (omega (arith, listed_length n f)))

-- those that are accepted fit the lent arrays
rows_few : (u : Universe) (n : ℕ) (f : ℕ → ℤ) → rows_refusal u (listed (row_length * n) f) ≡ 0 → n ≤ most_rows
rows_few u n f e = let few : most_rows < n → ⊥ = λ h. omega (arith, rows_many u n f h) in omega arith

balls_few : (u : Universe) (n : ℕ) (f : ℕ → ℤ) → balls_refusal u (listed (ball_length * n) f) ≡ 0 → n ≤ most_balls
balls_few u n f e = let few : most_balls < n → ⊥ = λ h. omega (arith, balls_many u n f h) in omega arith

words_few : (names : Named) (n : ℕ) (f : ℕ → ℕ) → tree_refusal names (listed n f) ≡ 0 → n ≤ most_words
words_few names n f e = let few : most_words < n → ⊥ = λ h. omega (arith, words_many names n f h) in omega arith

-- the rows, balls and words that a header tells of are there
record Holds (bytes : List ℕ) (h : SceneHeaderAnswer) : Type 0 where
  rows : h.places.rows + row_bytes * h.scene.counts.rows ≤ length bytes
  balls : h.places.balls + ball_bytes * h.scene.counts.balls ≤ length bytes
  first : h.places.first + word_bytes * h.scene.counts.first ≤ length bytes
  second : h.places.second + word_bytes * h.scene.counts.second ≤ length bytes

holds : (bytes : List ℕ) (b : Bool) → is_scene bytes ≡ b → Holds bytes (cond b (scene_header_of bytes) no_scene_header)
holds bytes true is =
    let w = scene_whole bytes is in
    record { rows = omega arith; balls = omega arith; first = omega arith; second = omega arith }
holds bytes false is = record { rows = omega arith; balls = omega arith; first = omega arith; second = omega arith }

module _ (bytes : List ℕ) {h : SceneHeaderAnswer} (e : h ≡ scene_header bytes) where
  header_holds : Holds bytes h
  unfolding scene_header
  header_holds = rw e (holds bytes (is_scene bytes) refl)

  pub rows_there : h.places.rows + row_bytes * h.scene.counts.rows ≤ length bytes
  rows_there = header_holds.rows

  pub balls_there : h.places.balls + ball_bytes * h.scene.counts.balls ≤ length bytes
  balls_there = header_holds.balls

  pub first_there : h.places.first + word_bytes * h.scene.counts.first ≤ length bytes
  first_there = header_holds.first

  pub second_there : h.places.second + word_bytes * h.scene.counts.second ≤ length bytes
  second_there = header_holds.second

-- ---- the checks of a scene, one after the other

module _ (bytes : List ℕ) {h : SceneHeaderAnswer} (e : h ≡ scene_header bytes) where
  scene_checks_lem : Left (scene_refusal bytes) (scene_checks bytes h)
  unfolding scene_refusal
  scene_checks_lem = record { same = ap (λ (g : SceneHeaderAnswer). first_refusal (scene_checks bytes g)) (sym e) }

-- ---- acceptance

-- an accepted scene: every check accepts what is read, and it fits the lent arrays
pub record Accepts (bytes : List ℕ) (h : SceneHeaderAnswer) : Type 0 where
  pub file : h.scene.refusal ≡ 0
  pub universe : universe_refusal h.scene.universe ≡ 0
  pub rows : rows_refusal h.scene.universe (rows_of bytes h) ≡ 0
  pub balls : balls_refusal h.scene.universe (balls_of bytes h) ≡ 0
  pub first : tree_refusal (named_by h.scene.counts) (first_words_of bytes h) ≡ 0
  pub second : tree_refusal (named_by h.scene.counts) (second_words_of bytes h) ≡ 0
  pub window : window_refusal h.scene.universe h.scene.window.first h.scene.window.last ≡ 0

module _ (bytes : List ℕ) {h : SceneHeaderAnswer} (e : h ≡ scene_header bytes) (z : scene_refusal bytes ≡ 0) where
  header_accepts : Accepts bytes h
  header_accepts =
      let a = scene_checks_lem bytes e in
      let b = left_others a z in
      let c = left_others b z in
      let d = left_others c z in
      let f = left_others d z in
      let g = left_others f z in
      record {
        file = left_accepts a z;
        universe = left_accepts b z;
        rows = left_accepts c z;
        balls = left_accepts d z;
        first = left_accepts f z;
        second = left_accepts g z;
        window = left_accepts (left_others g z) z;
      }

  pub header_rows_few : h.scene.counts.rows ≤ most_rows
  header_rows_few = rows_few _ _ _ header_accepts.rows

  pub header_balls_few : h.scene.counts.balls ≤ most_balls
  header_balls_few = balls_few _ _ _ header_accepts.balls

  pub header_first_few : h.scene.counts.first ≤ most_words
  header_first_few = words_few _ _ _ header_accepts.first

  pub header_second_few : h.scene.counts.second ≤ most_words
  header_second_few = words_few _ _ _ header_accepts.second

-- THEOREM: what was read needs no further check
pub scene_accepts : (bytes : List ℕ) → scene_refusal bytes ≡ 0 → Accepts bytes (scene_header bytes)
scene_accepts bytes z = header_accepts bytes refl z

-- ---- the answer and the lent memory of a refused scene, and of an accepted one

-- a file with no header is refused by that
pub header_refused : (bytes : List ℕ) (r : Refusal) → refused_scene_header (number_of r) ≡ scene_header bytes → number_of r ≡ scene_refusal bytes
header_refused bytes r e = left_refused (scene_checks_lem bytes e) refl (number-not_zero r)

module _ (bytes : List ℕ) (r : Refusal) (number : number_of r ≡ scene_refusal bytes) where
  pub answer_refused : refused_scene (number_of r) ≡ scene_answer bytes
  unfolding scene_answer
  answer_refused = rw (← number) (is_refused refused_scene _ (number_of r) (number-not_zero r))

module _ (bytes : List ℕ) (refuses : 0 < scene_refusal bytes) where
  kept : {A : Type 0} (values before : List A) → before ≡ overwritten (scene_refusal bytes) values before
  kept values before = untouched values before (λ z. absurd (omega arith))

  pub rows_kept : (before : List ℤ) → before ≡ rows_after bytes before
  rows_kept before = kept _ before

  pub balls_kept : (before : List ℤ) → before ≡ balls_after bytes before
  balls_kept before = kept _ before

  pub first_kept : (before : List ℕ) → before ≡ first_words_after bytes before
  first_kept before = kept _ before

  pub second_kept : (before : List ℕ) → before ≡ second_words_after bytes before
  second_kept before = kept _ before

module _ (bytes : List ℕ) {h : SceneHeaderAnswer} (e : h ≡ scene_header bytes) (accepts : 0 ≡ scene_refusal bytes) where
  pub answer_accepted : h.scene ≡ scene_answer bytes
  unfolding scene_answer
  answer_accepted = ap (λ (g : SceneHeaderAnswer). g.scene) e ∙ rw (← accepts) (is_done refused_scene _ 0 refl)

  filled : {A : Type 0} (n : ℕ) (f : ℕ → A) (before : List A) → listed n f ++ drop n before ≡ overwritten (scene_refusal bytes) (listed n f) before
  filled n f before = written (listed n f) before (sym accepts) (sym (listed_length n f))

  pub rows_accepted : (before : List ℤ) {now : List ℤ}
      → now ≡ rows_of bytes h ++ drop (row_length * h.scene.counts.rows) before
      → now ≡ rows_after bytes before
  rows_accepted before q = rw (← e) (q ∙ filled _ _ before)

  pub balls_accepted : (before : List ℤ) {now : List ℤ}
      → now ≡ balls_of bytes h ++ drop (ball_length * h.scene.counts.balls) before
      → now ≡ balls_after bytes before
  balls_accepted before q = rw (← e) (q ∙ filled _ _ before)

  pub first_accepted : (before : List ℕ) {now : List ℕ}
      → now ≡ first_words_of bytes h ++ drop h.scene.counts.first before
      → now ≡ first_words_after bytes before
  first_accepted before q = rw (← e) (q ∙ filled _ _ before)

  pub second_accepted : (before : List ℕ) {now : List ℕ}
      → now ≡ second_words_of bytes h ++ drop h.scene.counts.second before
      → now ≡ second_words_after bytes before
  second_accepted before q = rw (← e) (q ∙ filled _ _ before)

  -- what is read fits the lent arrays
  pub few_rows : h.scene.counts.rows ≤ most_rows
  few_rows = header_rows_few bytes e (sym accepts)

  pub few_balls : h.scene.counts.balls ≤ most_balls
  few_balls = header_balls_few bytes e (sym accepts)

  pub few_first : h.scene.counts.first ≤ most_words
  few_first = header_first_few bytes e (sym accepts)

  pub few_second : h.scene.counts.second ≤ most_words
  few_second = header_second_few bytes e (sym accepts)

pub ruleset refusal_laws = (rows_there, balls_there, first_there, second_there, number-not_zero)

pub ruleset read_laws = (
  rows_there,
  balls_there,
  first_there,
  second_there,
  header_refused,
  answer_refused,
  number-pos,
  rows_kept,
  balls_kept,
  first_kept,
  second_kept,
  answer_accepted,
  rows_accepted,
  balls_accepted,
  first_accepted,
  second_accepted,
  few_rows,
  few_balls,
  few_first,
  few_second,
)
