-- What judging the stretches comes to: what the conversion is asked of a stretch it answers with the stretch's raw expression and verdict; the needs are
-- compared and the verdicts joined one after the other. Each law takes its premises in the form that code leaves them.
use Prim.Native.Nat.{ℕ, zero, suc, ◌+◌, ◌-◌, ◌*◌, ◌^◌, ◌≤◌, ◌<◌}
use native.Mathlib.Omega.{arith}
use native.Mathlib.Numerals.{add-one}
use native.Mathlib.Decide.{dec_le, ℕ_discrete}
use mathlib.Core.Path.{◌≡◌, refl, sym, ap, ap₂, ◌∙◌}
use mathlib.Core.Bool.{Bool, true, false, cond}
use mathlib.Core.List.{List, [], ◌++◌}
use borrow.Author.Tests.{le-leb, lt-leb, lt-ltb, le-ltb}
use lib.Dec.{leb, eqb}
use lib.IntN.{ℤ}
use lib.ListN.{length, take, drop, length-append, length-drop}
use lib.Seq.{take-append_seam, length-take-le}
use Rattle.universe.specs.declared.Universe.{Universe}
use Rattle.std.proofs.Common.{Equal, Greater}
use Rattle.std.specs.Ordering.{ord_max, nat_cmp, is_lt}
use Rattle.universe.specs.Universe.{frame_count}
use Rattle.universe.specs.Voxel.{window_refusal}
use Rattle.universe.specs.Room.{room}
use Rattle.bintree.specs.declared.Verdict.{Verdict}
use Rattle.bintree.specs.declared.Verdict.TheVariants.{Clear}
use Rattle.bintree.specs.Told.{WrittenAnswer}
use Rattle.bintree.specs.Answers.{written_answer}
use Rattle.bintree.proofs.Answers.{written_short, written_all, left_all}
use Rattle.csg.specs.Halfspace.{row_length, row_count}
use Rattle.csg.specs.Surfaces.{Surfaces, surfaces_of}
use Rattle.csg.specs.Words.{most_words, halfspace_words}
use Rattle.csg.proofs.Words.{count_words_most}
use Rattle.convert.specs.Told.{ClearanceAnswer}
use Rattle.convert.specs.Answers.{raw_of_two_answer, clearance_checks, clearance_refusal, done_clearance, clearance_answer}
use Rattle.convert.specs.Answers.{clearance_buffer}
use Rattle.mover.specs.Keys.{Mover, moment_at}
use Rattle.mover.specs.Stretches.{stretches, stretch_rows, with_box}
use Rattle.mover.specs.Frames.{box_words, stretch_raw, stretch_verdict, joined, mover_verdict}
use Rattle.mover.specs.Answers.{box_rows, most_static, larger, largest, largest_need, after_stretches}
use Rattle.mover.specs.Ready.{HasBox, most_numbers, ReadyAt, Fits, Joining}
use Rattle.mover.proofs.Accepted.{ready_keys, ready_box, ready_few}
use Rattle.mover.proofs.Trees.{static_few, trees_accepted, raw_is, verdict_is_lem}
use Rattle.mover.proofs.Own.{up_to, up_start, up_next, up_end, up_fits}

-- ---- one stretch
module _ {u : Universe} {m : Mover} {surfaces : Surfaces} {words : List ℕ} {i : ℕ} (q : ReadyAt u m surfaces words i) where
  abbrev symbols : List ℕ
  symbols = stretch_raw u m surfaces words i

  abbrev numbers : List ℤ
  numbers = surfaces.rows ++ stretch_rows m i

  abbrev box : List ℕ
  box = box_words (row_count surfaces.rows)

  abbrev first : ℕ
  first = moment_at m.moments i

  abbrev last : ℕ
  last = moment_at m.moments (i + 1) - 1

  pub stretch_box : HasBox m i
  stretch_box = ready_box q.ready i q.there

  pub stretch_room : length surfaces.rows + box_rows * row_length ≤ most_numbers
  stretch_room = static_few q.ready i q.there

  pub stretch_few : row_count surfaces.rows ≤ most_static
  stretch_few = ready_few q.ready

  pub stretch_later : 1 ≤ moment_at m.moments (i + 1)
  stretch_later = omega (arith, (ready_keys q.ready).rising i q.there)

  window : window_refusal u (moment_at m.moments i) (moment_at m.moments (i + 1) - 1) ≡ 0
  unfolding window_refusal
  window =
      let f = moment_at m.moments i in let g = moment_at m.moments (i + 1) in
      let rise = (ready_keys q.ready).rising i q.there in
      let within = (ready_keys q.ready).within (i + 1) q.there in
      rw (le-leb f (g - 1) (omega arith), lt-ltb (g - 1) (frame_count u) (omega arith))

  pub stretch_accepted : clearance_refusal u (with_box surfaces m i) words box (moment_at m.moments i) (moment_at m.moments (i + 1) - 1) ≡ 0
  unfolding clearance_checks
  stretch_accepted = rw (trees_accepted q.ready i q.there, window)

  module _ (before : List ℤ) {end : ℕ} {now : List ℤ} (e : end ≡ length numbers) (f : now ≡ numbers ++ drop (length numbers) before) where
    pub front_in : end ≤ length now
    front_in = omega (arith, e, ap length f, length-append numbers (drop (length numbers) before))

    pub front_length : end ≡ length (take end now)
    front_length = sym (length-take-le end now front_in)

    front_is : take end now ≡ numbers
    front_is = rw (e, f) (take-append_seam numbers (drop (length numbers) before))

    module _ {own : List ℕ} (g : own ≡ box) where
      scene : surfaces_of (take end now) surfaces.balls ≡ with_box surfaces m i
      scene = ap (λ (rows : List ℤ). surfaces_of rows surfaces.balls) front_is

      -- with no room lent the length is the need
      pub need_is : {w : WrittenAnswer} → w ≡ raw_of_two_answer u (surfaces_of (take end now) surfaces.balls) words own [] → w.length ≡ length symbols
      unfolding raw_of_two_answer
      need_is {w} h = ap (λ (x : WrittenAnswer). x.length) is ∙ go (dec_le (length symbols) 0)
        where
          is : w ≡ written_answer 0 [] symbols
          is = h ∙ rw (scene, g, trees_accepted q.ready i q.there, raw_is q.ready i q.there)

          go : Dec (length symbols ≤ 0) → (written_answer 0 [] symbols).length ≡ length symbols
          go (yes l) = sym (ap (λ (x : WrittenAnswer). x.length) (written_all 0 [] symbols refl l))
          go (no l) = sym (ap (λ (x : WrittenAnswer). x.length) (written_short 0 [] symbols refl (omega arith)))

      module _ (out : List ℕ) (fits : length symbols ≤ length out) where
        pub judged_is : {answer : ClearanceAnswer} → answer ≡ clearance_answer u (surfaces_of (take end now) surfaces.balls) words own first last out →
            answer ≡ done_clearance (stretch_verdict u m surfaces words i) (length symbols)
        unfolding clearance_answer stretch_verdict
        judged_is h =
            h
            ∙ ap₂ (λ (x : Surfaces) (o : List ℕ). clearance_answer u x words o first last out) scene g
            ∙ rw (stretch_accepted, raw_is q.ready i q.there, ← written_all 0 out symbols refl fits)
            (ap (λ (v : Verdict). done_clearance v (length symbols)) (verdict_is_lem q.ready i q.there first last))

        pub judged_left : {left : List ℕ} → left ≡ clearance_buffer u (surfaces_of (take end now) surfaces.balls) words own first last out →
            left ≡ symbols ++ drop (length symbols) out
        unfolding clearance_buffer
        judged_left h = h ∙ rw (scene, g, stretch_accepted, raw_is q.ready i q.there) (sym (left_all 0 out symbols refl fits))

-- ---- `has_room`
pub room_leaves : (words : List ℕ) {leaves : ℕ} → leaves ≡ halfspace_words words → length words ≤ most_words → leaves + box_rows < 2 ^ 64
room_leaves words e h = omega (arith, e, count_words_most 256 256 words)

-- ---- `largest_need`: the largest of the first i needs
pub larger_second : (a b : ℕ) → a ≤ b → b ≡ larger a b
larger_second a b h = rw (le-leb a b h)

-- the library's larger number
larger_lem : (a b : ℕ) → ord_max nat_cmp a b ≡ larger a b
larger_lem a b = go (dec_le a b)
  where
    second : (t : Bool) → cond (is_lt (cond t Equal Greater)) a b ≡ b
    second true = refl
    second false = refl

    go : Dec (a ≤ b) → ord_max nat_cmp a b ≡ larger a b
    go (yes h) = rw (le-leb a b h, le-ltb b a h) (second (eqb b a))
    go (no h) = rw (lt-leb a b (omega arith), lt-ltb b a (omega arith))

pub largest_more : (f : ℕ → ℕ) {i need new next : ℕ} → need ≡ largest i f → new ≡ f i → next ≡ ord_max nat_cmp need new → next ≡ largest (i + 1) f
unfolding largest
largest_more f {i} {need} {new} s e h = h ∙ larger_lem need new ∙ rw (s, e, add-one i)

-- each need is at most the largest
larger_left : (a b : ℕ) → a ≤ larger a b
larger_left a b = go (dec_le a b)
  where
    go : Dec (a ≤ b) → a ≤ larger a b
    go (yes h) = rw (le-leb a b h) h
    go (no h) = rw (lt-leb a b (omega arith)) (omega arith)

larger_right : (a b : ℕ) → b ≤ larger a b
larger_right a b = go (dec_le a b)
  where
    go : Dec (a ≤ b) → b ≤ larger a b
    go (yes h) = rw (le-leb a b h) (omega arith)
    go (no h) = rw (lt-leb a b (omega arith)) (omega arith)

larger_least : (a b n : ℕ) → a ≤ n → b ≤ n → larger a b ≤ n
larger_least a b n h k = go (leb a b)
  where
    go : (t : Bool) → cond t b a ≤ n
    go true = k
    go false = h

pub need_most : (n : ℕ) (f : ℕ → ℕ) (i : ℕ) → i < n → f i ≤ largest n f
unfolding largest
need_most zero f i l = absurd (omega arith)
need_most (suc n) f i l = go (ℕ_discrete i n) (need_most n f i)
  where
    go : Dec (i ≡ n) → (i < n → f i ≤ largest n f) → f i ≤ larger (largest n f) (f n)
    go (yes e) ih = rw e (larger_right (largest n f) (f n))
    go (no e) ih = omega (arith, ih (omega arith), larger_left (largest n f) (f n))

pub most_needs : (n : ℕ) (f : ℕ → ℕ) (room : ℕ) → ((i : ℕ) → i < n → f i ≤ room) → largest n f ≤ room
unfolding largest
most_needs zero f room h = omega arith
most_needs (suc n) f room h = larger_least (largest n f) (f n) room (most_needs n f room (λ i l. h i (omega arith))) (h n (omega arith))

-- ---- `judge_all`: the first i stretches are judged, and their raw expressions written one over the other
pub record JudgedSofar (u : Universe) (m : Mover) (surfaces : Surfaces) (words before : List ℕ)
    (i : ℕ) (verdict : Verdict) (long : ℕ) (now : List ℕ) : Type 0 where
  pub fits : Fits u m surfaces words before
  pub few : i ≤ length m.moments - 1
  pub told : verdict ≡ up_to fits.ready i
  pub length_last : 1 ≤ i → long ≡ length (stretch_raw u m surfaces words (i - 1))
  pub left : now ≡ after_stretches u m surfaces words before i
  pub kept : length now ≡ length before

pub judged_start : {u : Universe} {m : Mover} {surfaces : Surfaces} {words before : List ℕ} → Fits u m surfaces words before →
    JudgedSofar u m surfaces words before 0 Clear 0 before
unfolding after_stretches
judged_start f =
    record { fits = f; few = omega arith; told = sym (up_start f.ready); length_last = λ h. absurd (omega arith); left = refl; kept = refl }

module _ {u : Universe} {m : Mover} {surfaces : Surfaces} {words before : List ℕ} {i : ℕ} {verdict : Verdict} {long : ℕ} {now : List ℕ}
    (s : JudgedSofar u m surfaces words before i verdict long now) where
  module _ (l : i + 1 < length m.moments) where
    pub next_ready : ReadyAt u m surfaces words i
    next_ready = record { ready = s.fits.ready; there = l }

    pub next_room : length (stretch_raw u m surfaces words i) ≤ length now
    unfolding largest_need
    next_room =
        omega (
          arith,
          s.kept,
          s.fits.room,
          need_most (stretches m.moments) (λ j. length (stretch_raw u m surfaces words j)) i (omega arith),
        )

    module _ {answer : ClearanceAnswer} (a : answer ≡ done_clearance (stretch_verdict u m surfaces words i) (length (stretch_raw u m surfaces words i))) where
      told_is : answer.verdict ≡ stretch_verdict u m surfaces words i
      told_is = ap (λ (x : ClearanceAnswer). x.verdict) a

      pub next_joins : Joining verdict answer.verdict
      next_joins = rw (s.told, told_is) (up_fits s.fits.ready i l)

      module _ {after : List ℕ} (b : after ≡ stretch_raw u m surfaces words i ++ drop (length (stretch_raw u m surfaces words i)) now) where
        pub next_sofar : {joint : Verdict} → joint ≡ joined verdict answer.verdict →
            JudgedSofar u m surfaces words before (i + 1) joint answer.length after
        unfolding after_stretches
        next_sofar e =
            let symbols = stretch_raw u m surfaces words i in
            record {
              fits = s.fits;
              few = omega arith;
              told = e ∙ rw (s.told, told_is) (up_next s.fits.ready i l);
              length_last = λ h. let p : i + 1 - 1 ≡ i = omega arith in rw p (ap (λ (x : ClearanceAnswer). x.length) a);
              left = rw (add-one i, ← s.left) b;
              kept = omega (arith, ap length b, length-append symbols (drop (length symbols) now), length-drop (length symbols) now, next_room, s.kept);
            }

  module _ (e : length m.moments ≤ i + 1) where
    all_of : i ≡ stretches m.moments
    all_of = omega (arith, s.few)

    pub judged_all : ◌≡◌ {A = ClearanceAnswer} (record { refusal = 0; verdict = verdict; length = long })
        (done_clearance (mover_verdict u m surfaces words) (length (stretch_raw u m surfaces words (stretches m.moments - 1))))
    judged_all =
        ap₂ done_clearance
        (s.told ∙ ap (up_to s.fits.ready) all_of ∙ up_end s.fits.ready)
        (rw (all_of) at (s.length_last (omega (arith, all_of, (ready_keys s.fits.ready).some))))

    pub left_all_of : now ≡ after_stretches u m surfaces words before (stretches m.moments)
    left_all_of = s.left ∙ ap (after_stretches u m surfaces words before) all_of
