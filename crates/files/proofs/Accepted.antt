-- What a caller of `read_scene` knows by its contract: the number is scene_refusal; where it is 0, every check accepts the scene's rows, balls and words,
-- so that no further refusal is needed, and the lent arrays are long enough for them.
use Prim.Native.Nat.{ℕ, ◌*◌, ◌/◌, ◌≤◌}
use native.Mathlib.Omega.{arith}
use native.Mathlib.Decide.{ℕ_discrete}
use mathlib.Core.Path.{◌≡◌, refl, sym, ap, ◌∙◌}
use mathlib.Core.Bool.{Bool, true, false, cond}
use mathlib.Core.List.{List}
use lib.IntN.{ℤ}
use lib.ListN.{length, take, length-take}
use Rattle.lemmas.specs.Grid.{listed}
use Rattle.lemmas.proofs.Grid.{listed_length}
use Rattle.universe.specs.Lent.{overwritten}
use Rattle.universe.specs.Universe.{universe_refusal}
use Rattle.universe.specs.Voxel.{window_refusal}
use Rattle.universe.proofs.Lent.{written}
use Rattle.bintree.proofs.Answers.{is_refused, is_done, number_of}
use Rattle.csg.specs.Halfspace.{most_rows, row_length, row_count, rows_refusal}
use Rattle.csg.specs.Ball.{most_balls, ball_length, ball_count, balls_refusal}
use Rattle.csg.specs.Words.{tree_refusal}
use Rattle.files.specs.Told.{SceneAnswer, refused_scene, no_scene_header}
use Rattle.files.specs.Scenes.{is_scene, scene_header_of}
use Rattle.files.specs.Scenes.{scene_header, rows_of, balls_of, first_words_of, second_words_of, named_by, scene_refusal, scene_answer}
use Rattle.files.specs.Scenes.{rows_after, balls_after, first_words_after, second_words_after}
use Rattle.files.proofs.Numbers.{front_is}
use Rattle.files.proofs.Scenes.{scene_accepts, header_rows_few, header_balls_few}

-- a scene with its rows, balls and words that every check accepts
pub record Ready (s : SceneAnswer) (numbers spheres : List ℤ) (first second : List ℕ) : Type 0 where
  pub universe : universe_refusal s.universe ≡ 0
  pub rows : rows_refusal s.universe numbers ≡ 0
  pub balls : balls_refusal s.universe spheres ≡ 0
  pub counted : row_count numbers ≡ s.counts.rows
  pub balls_counted : ball_count spheres ≡ s.counts.balls
  pub tree : tree_refusal (named_by s.counts) first ≡ 0
  pub other : tree_refusal (named_by s.counts) second ≡ 0
  pub window : window_refusal s.universe s.window.first s.window.last ≡ 0
  pub few_rows : s.counts.rows ≤ most_rows
  pub few_balls : s.counts.balls ≤ most_balls

-- what the header tells of is ready
abbrev HeaderReady : List ℕ → SceneAnswer → Type 0
HeaderReady bytes s =
    let h = scene_header bytes in Ready s (rows_of bytes h) (balls_of bytes h) (first_words_of bytes h) (second_words_of bytes h)

header_ready : (bytes : List ℕ) → scene_refusal bytes ≡ 0 → HeaderReady bytes (scene_header bytes).scene
header_ready bytes z =
    let a = scene_accepts bytes z in
    let n = (scene_header bytes).scene.counts.rows in
    let m = (scene_header bytes).scene.counts.balls in
    record {
      universe = a.universe;
      rows = a.rows;
      balls = a.balls;
      counted = ap (λ (k : ℕ). k / row_length) (listed_length (row_length * n) _) ∙ omega arith;
      balls_counted = ap (λ (k : ℕ). k / ball_length) (listed_length (ball_length * m) _) ∙ omega arith;
      tree = a.first;
      other = a.second;
      window = a.window;
      few_rows = header_rows_few bytes refl z;
      few_balls = header_balls_few bytes refl z;
    }

-- so many numbers, or words, stand at the front of a lent array
abbrev pub Held : {A : Type 0} → ℕ → List A → Type 0
Held n now = (n ≤ length now) × (n ≡ length (take n now))

held : {A : Type 0} (n : ℕ) (now : List A) (f : ℕ → A) → take n now ≡ listed n f → Held n now
held n now f e = let k : n ≡ length (take n now) = sym (ap length e ∙ listed_length n f) in (omega (arith, length-take n now), k)

module _ (bytes : List ℕ) {s : SceneAnswer} (e : s ≡ scene_answer bytes) where
  pub answer_number : s.refusal ≡ scene_refusal bytes
  unfolding scene_answer
  answer_number =
      ap (λ (r : SceneAnswer). r.refusal) e ∙ by (ℕ_discrete (scene_refusal bytes) 0)
    where
      by : Dec (scene_refusal bytes ≡ 0) → (scene_answer bytes).refusal ≡ scene_refusal bytes
      by (yes z) = number_of refused_scene (scene_header bytes).scene (scene_refusal bytes) (λ r. r.refusal) (λ m. refl) (scene_accepts bytes z).file
      by (no n) = sym (ap (λ (r : SceneAnswer). r.refusal) (is_refused refused_scene (scene_header bytes).scene (scene_refusal bytes) n))

  module _ (accepted : s.refusal ≡ 0) where
    none : scene_refusal bytes ≡ 0
    none = sym answer_number ∙ accepted

    pub answer_scene : s ≡ (scene_header bytes).scene
    unfolding scene_answer
    answer_scene = e ∙ sym (is_done refused_scene (scene_header bytes).scene (scene_refusal bytes) none)

    is_scene_lem : is_scene bytes ≡ true
    unfolding scene_header
    is_scene_lem = by (is_scene bytes) refl (scene_accepts bytes none).file
      where
        by : (b : Bool) → is_scene bytes ≡ b → (cond b (scene_header_of bytes) no_scene_header).scene.refusal ≡ 0 → is_scene bytes ≡ true
        by true is z = is
        by false is z = absurd (omega arith)

    -- it is what stands in the header's bytes
    pub answer_said : s ≡ (scene_header_of bytes).scene
    unfolding scene_header
    answer_said = answer_scene ∙ rw is_scene_lem

    pub answer_ready : HeaderReady bytes s
    answer_ready = rw answer_scene (header_ready bytes none)

    front_of : {A : Type 0} (n : ℕ) (f : ℕ → A) (before : List A) {now : List A} →
        now ≡ overwritten (scene_refusal bytes) (listed n f) before → Held n now
    front_of n f before {now} q = held n now f (front_is n f _ (q ∙ sym (written (listed n f) before none (sym (listed_length n f)))))

    pub rows_held : (before : List ℤ) {now : List ℤ} → now ≡ rows_after bytes before → Held (row_length * s.counts.rows) now
    rows_held before q = rw answer_scene (front_of _ _ before q)

    pub balls_held : (before : List ℤ) {now : List ℤ} → now ≡ balls_after bytes before → Held (ball_length * s.counts.balls) now
    balls_held before q = rw answer_scene (front_of _ _ before q)

    pub first_held : (before : List ℕ) {now : List ℕ} → now ≡ first_words_after bytes before → Held s.counts.first now
    first_held before q = rw answer_scene (front_of _ _ before q)

    pub second_held : (before : List ℕ) {now : List ℕ} → now ≡ second_words_after bytes before → Held s.counts.second now
    second_held before q = rw answer_scene (front_of _ _ before q)
