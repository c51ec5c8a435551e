-- Which lines a scene gets, by what the calls answer on the way. What is cited of reading, converting and the room question stands here.
use Prim.Native.Nat.{ℕ, zero, suc, ◌+◌, ◌*◌, ◌≤◌}
use native.Mathlib.Omega.{arith}
use mathlib.Core.Path.{◌≡◌, refl, sym, ap, ◌∙◌}
use mathlib.Core.List.{List, [], ◌∷◌, ◌++◌}
use lib.IntN.{ℤ, pos}
use lib.ListN.{length, get_or, take, drop, replicate, length-append}
use lib.Seq.{length-take-le}
use borrow.Author.Tests.{eq-eqb, ne_eqb}
use Rattle.std.specs.Prelude.{Result, Ok, Err}
use Rattle.universe.specs.declared.refusal.Refusal.{Refusal}
use Rattle.universe.specs.declared.refusal.Unwritten.{Unwritten}
use Rattle.universe.specs.declared.refusal.Unwritten.TheVariants.{Refused, NoRoom}
use Rattle.universe.specs.Refusals.{no_room, first_refusal}
use Rattle.universe.specs.Told.{number_of, RoomAnswer, room_told}
use Rattle.universe.specs.Lent.{room_refusal}
use Rattle.universe.specs.Voxel.{window_refusal}
use Rattle.universe.specs.Universe.{universe_refusal, equal_bits}
use Rattle.universe.specs.Room.{room_answer}
use Rattle.universe.proofs.Telling.{number-not_zero, number-not_room}
use Rattle.bintree.specs.declared.Verdict.{Verdict}
use Rattle.bintree.specs.Told.{WrittenAnswer}
use Rattle.bintree.proofs.Answers.{written_number}
use Rattle.csg.specs.Halfspace.{most_rows, row_length}
use Rattle.csg.specs.Ball.{most_balls, ball_length}
use Rattle.csg.specs.Surfaces.{Surfaces, surfaces_of}
use Rattle.csg.specs.Words.{most_words, first_halfspace, first_ball, halfspace_words, ball_words}
use Rattle.csg.proofs.Words.{count_words_most}
use Rattle.convert.specs.declared.verdict.Clearance.{Clearance}
use Rattle.convert.specs.Told.{ClearanceAnswer, clearance_told}
use Rattle.convert.specs.Answers.{two_trees_checks, two_trees_refusal, raw_of_two, clearance_checks, clearance_refusal, clearance_of, clearance_answer}
use Rattle.files.specs.declared.Scene.{Scene}
use Rattle.files.specs.Told.{SceneAnswer, accepted_scene, scene_told}
use Rattle.files.specs.Numbers.{version_of}
use Rattle.files.specs.Scenes.{scene_answer, rows_after, balls_after, first_words_after, second_words_after}
use Rattle.files.proofs.Accepted.{answer_said}
use Rattle.lines.specs.Lines.{text, labelled, bits_of, refused_line, universe_line}
use Rattle.lines.specs.Told.{three_lines, lines_told}
use Rattle.lines.specs.Program.{lent_symbols, clearance_lines, judged_lines, scene_lines, program_lines}

-- ---- a scene that was read

-- a verdict that is given is of a universe that is one
first_accepts : (n : ℕ) (ns : List ℕ) → first_refusal (n ∷ ns) ≡ 0 → n ≡ 0
first_accepts zero ns e = refl
first_accepts (suc n) ns e = let no : suc n ≡ 0 → ⊥ = λ z. absurd (omega arith) in absurd (no (rw (ne_eqb (suc n) 0 no) at e))

given : (n : ℕ) (v : Verdict) (w : WrittenAnswer) → w.refusal ≡ n → (clearance_of w v).refusal ≡ n
given zero v w e = rw (eq-eqb w.refusal 0 e)
given (suc n) v w e = let no : w.refusal ≡ 0 → ⊥ = λ z. absurd (omega arith) in rw (ne_eqb w.refusal 0 no) e

module _ (s : Scene) (surfaces : Surfaces) (first second : List ℕ) where
  abbrev answered : ClearanceAnswer
  answered = clearance_answer s.universe surfaces first second s.window.first s.window.last (replicate lent_symbols 0)

  judged_accepts : answered.refusal ≡ 0 → universe_refusal s.universe ≡ 0
  unfolding clearance_answer clearance_checks two_trees_checks
  judged_accepts e =
      let out = replicate lent_symbols 0 in
      let n = clearance_refusal s.universe surfaces first second s.window.first s.window.last in
      let w = given _ _ _ (written_number n out (raw_of_two s.universe surfaces first second)) in
      let trees = two_trees_refusal s.universe surfaces first second in
      let symbols = raw_of_two s.universe surfaces first second in
      let a = first_accepts n (room_refusal (length out) (length symbols) ∷ []) (sym w ∙ e) in
      let b = first_accepts trees (window_refusal s.universe s.window.first s.window.last ∷ []) a in
      first_accepts (universe_refusal s.universe) (drop 1 (two_trees_checks s.universe surfaces first second)) b

  -- what refuses the verdict is the one line
  pub refused_judged : (w : Unwritten) → clearance_told (Err w) ≡ answered → lines_told (Err w) ≡ judged_lines (accepted_scene s) surfaces first second
  unfolding judged_lines clearance_lines
  refused_judged (NoRoom n) e = rw (← e)
  refused_judged (Refused r) e = rw (← e, ne_eqb (number_of r) no_room (number-not_room r), ne_eqb (number_of r) 0 (number-not_zero r))

  -- and a verdict that is given the third of three
  module _ (c : Clearance) (e : clearance_told (Ok c) ≡ answered) where
    pub room_given : (a : Result ℕ Refusal) (r : Refusal) (leaves balls : ℕ) → a ≡ Err r → room_told a ≡ room_answer s.universe leaves balls → ⊥
    unfolding room_answer
    room_given a r leaves balls g h =
        let f : room_told (Err r) ≡ room_answer s.universe leaves balls = ap room_told (sym g) ∙ h in
        let z = judged_accepts (sym (ap (λ (a : ClearanceAnswer). a.refusal) e)) in
        number-not_zero r (ap (λ (a : RoomAnswer). a.refusal) (rw (eq-eqb (universe_refusal s.universe) 0 z) at f))

    pub three_judged : {leaves balls room : ℕ} → leaves ≡ halfspace_words first + halfspace_words second → balls ≡ ball_words first + ball_words second
        → room_told (Ok room) ≡ room_answer s.universe leaves balls
        → three_lines (record { version = s.version; universe = s.universe; leaves = leaves; raw = c.length; room = room; verdict = c.verdict })
        ≡ judged_lines (accepted_scene s) surfaces first second
    unfolding judged_lines clearance_lines
    three_judged l b f = rw (← e, ← l, ← b, ← f)

-- the words of two trees that name a halfspace, or a ball, are no more than their words
pub halfspace_words_most : (words : List ℕ) → halfspace_words words ≤ length words
halfspace_words_most words = count_words_most first_halfspace most_rows words

pub ball_words_most : (words : List ℕ) → ball_words words ≤ length words
ball_words_most words = count_words_most first_ball most_balls words

pub ruleset judge_laws = (refused_judged, three_judged, halfspace_words_most, ball_words_most)

-- ---- a scene

module _ (bytes : List ℕ) where
  pub unread_lines : (r : Refusal) → scene_told (Err r) ≡ scene_answer bytes → refused_line (number_of r) ≡ scene_lines bytes
  unfolding scene_lines
  unread_lines r e = rw (← e, ne_eqb (number_of r) 0 (number-not_zero r))

  pub read_lines : (s : Scene) → scene_told (Ok s) ≡ scene_answer bytes → {rows balls : List ℤ} {first second : List ℕ}
      → rows ≡ rows_after bytes (replicate (most_rows * row_length) (pos 0))
      → balls ≡ balls_after bytes (replicate (most_balls * ball_length) (pos 0))
      → first ≡ first_words_after bytes (replicate most_words 0)
      → second ≡ second_words_after bytes (replicate most_words 0)
      → judged_lines (accepted_scene s) (surfaces_of (take (row_length * s.counts.rows) rows) (take (ball_length * s.counts.balls) balls))
      (take s.counts.first first) (take s.counts.second second)
      ≡ scene_lines bytes
  unfolding scene_lines
  read_lines s e p b q r = rw (← e, p, b, q, r)

-- ---- line 1 of a scene that was read says the bytes of its file

module _ (bytes : List ℕ) {s : SceneAnswer} (e : s ≡ scene_answer bytes) (accepted : s.refusal ≡ 0) where
  -- THEOREM: of version 1 the number printed as bits is the file's own
  pub first_version_line : version_of bytes ≡ 1
      → universe_line s.version s.universe ≡ labelled "axes " (get_or bytes 5 0) ++ labelled " bits " (get_or bytes 6 0) ++ text "\n"
  unfolding bits_of equal_bits
  first_version_line v = rw (answer_said bytes e accepted, v)

  pub later_version_line : (version_of bytes ≡ 1 → ⊥)
      → universe_line s.version s.universe
      ≡ labelled "axes " (get_or bytes 5 0) ++ (labelled " bits " (get_or bytes 6 0) ++ labelled " frame " (get_or bytes 7 0)) ++ text "\n"
  unfolding bits_of
  later_version_line n = rw (answer_said bytes e accepted, ne_eqb (version_of bytes) 1 n)

-- ---- for whoever lends the array: what is printed is within it, and is as long as was answered
pub lines_held : (bytes before : List ℕ) {after : List ℕ} {n : ℕ} → n ≡ length (program_lines bytes)
    → after ≡ program_lines bytes ++ drop (length (program_lines bytes)) before
    → (n ≤ length after) × (n ≡ length (take n after))
lines_held bytes before {after} {n} e f =
    let some : n ≤ length after = omega (arith, simp length-append at (ap length f)) in
    (some, sym (length-take-le n after some))
