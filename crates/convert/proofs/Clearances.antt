-- The verdict of two trees: the checks of their conversion, then the window, then room; where all accept, the front of the room holds the raw expression,
-- which reads as the raw shape, and its verdict is the answer's.
use Prim.Native.Nat.{ℕ, ◌≤◌}
use mathlib.Core.Path.{◌≡◌, refl, sym, ap, ◌∙◌}
use mathlib.Core.Bool.{false}
use mathlib.Core.List.{List, ◌++◌}
use native.Mathlib.Omega.{arith}
use native.Mathlib.Decide.{dec_le}
use borrow.Author.Tests.{eq-eqb, ne_eqb}
use lib.ListN.{length, take, drop, length-append}
use lib.Seq.{take-append_seam}
use Rattle.universe.specs.declared.Universe.{Universe}
use Rattle.universe.specs.Voxel.{window_refusal}
use Rattle.bintree.specs.Told.{WrittenAnswer, NumbersAnswer}
use Rattle.bintree.specs.declared.Verdict.{Verdict}
use Rattle.bintree.specs.Reading.{read, expression}
use Rattle.bintree.specs.Counts.{volume}
use Rattle.bintree.specs.Verdicts.{verdict, done_numbers, numbers_answer}
use Rattle.bintree.specs.Answers.{refused_writing}
use Rattle.bintree.proofs.Answers.{written_short, written_all, left_all}
use Rattle.bintree.proofs.Verdicts.{numbers_accepted}
use Rattle.csg.specs.Surfaces.{Surfaces}
use Rattle.csg.specs.Raw.{raw}
use Rattle.demands.proofs.Colours.{raw_shows}
use Rattle.convert.specs.Told.{ClearanceAnswer}
use Rattle.convert.specs.Blocks.{Ready, trees_of}
use Rattle.convert.specs.Answers.{two_trees_refusal, raw_of_two, written_of_two}
use Rattle.convert.specs.Answers.{refused_clearance, done_clearance, clearance_checks, clearance_refusal, clearance_of, clearance_answer, clearance_buffer}
use Rattle.convert.proofs.Answers.{Ends, ends_refused, raw_written}

module _ (u : Universe) (surfaces : Surfaces) (first second : List ℕ) (from to : ℕ) (out : List ℕ) where
  abbrev written : List ℕ
  written = raw_of_two u surfaces first second

  abbrev v : Verdict
  v = verdict u (raw u surfaces (trees_of surfaces first second)) from to

  abbrev Answered : ClearanceAnswer → List ℕ → Type 0
  Answered answer now = (answer ≡ clearance_answer u surfaces first second from to out) × (now ≡ clearance_buffer u surfaces first second from to out)

  -- a conversion that ends so: a refused verdict is Clear
  answered : {w : WrittenAnswer} {now : List ℕ} {answer : ClearanceAnswer} → Ends out written (clearance_refusal u surfaces first second from to) w now →
      answer ≡ clearance_of w v → Answered answer now
  unfolding clearance_answer clearance_buffer
  answered e a = (a ∙ ap (λ (x : WrittenAnswer). clearance_of x v) e.0, e.1)

  refused_clear : (w : WrittenAnswer) → (w.refusal ≡ 0 → ⊥) → {answer : ClearanceAnswer} → answer ≡ refused_clearance w.refusal w.length →
      answer ≡ clearance_of w v
  refused_clear w h a = a ∙ rw (ne_eqb w.refusal 0 h)

  -- a check before 6 refuses
  stopped : {n : ℕ} → n ≡ clearance_refusal u surfaces first second from to → (n ≡ 0 → ⊥) → {answer : ClearanceAnswer} →
      answer ≡ refused_clearance n 0 → Answered answer out
  stopped {n} e h a = answered (ends_refused out written e h refl) (refused_clear (refused_writing n) h a)

  module _ {m : ℕ} (p : m ≡ two_trees_refusal u surfaces first second) where
    pub stopped_early : (m ≡ 0 → ⊥) → {answer : ClearanceAnswer} → answer ≡ refused_clearance m 0 → Answered answer out
    unfolding clearance_checks
    stopped_early h = stopped (rw (← p, ne_eqb m 0 h)) h

    module _ (z : m ≡ 0) {nine : ℕ} (q : nine ≡ window_refusal u from to) where
      pub stopped_window : (nine ≡ 0 → ⊥) → {answer : ClearanceAnswer} → answer ≡ refused_clearance nine 0 → Answered answer out
      unfolding clearance_checks
      stopped_window h = stopped (rw (← p, eq-eqb m 0 z, ← q, ne_eqb nine 0 h)) h

      module _ (y : nine ≡ 0) {w : WrittenAnswer} {now : List ℕ} (e : Ends out (written_of_two false u surfaces first second) 0 w now) where
        ends : Ends out written 0 w now
        ends = rw raw_written at e

        -- no check refuses
        accepted : Ends out written (clearance_refusal u surfaces first second from to) w now
        unfolding clearance_checks
        accepted = rw (← p, eq-eqb m 0 z, ← q, eq-eqb nine 0 y) ends

        -- there is too little room
        pub stopped_short : (w.refusal ≡ 0 → ⊥) → {answer : ClearanceAnswer} →
            answer ≡ refused_clearance w.refusal w.length → Answered answer now
        stopped_short h a = answered accepted (refused_clear w h a)

        module _ (done : w.refusal ≡ 0) where
          fits : length written ≤ length out
          fits = go (dec_le (length written) (length out))
            where
              go : Dec (length written ≤ length out) → length written ≤ length out
              go (yes f) = f
              go (no f) = absurd (omega (arith, ap (λ (x : WrittenAnswer). x.refusal) (ends.0 ∙ sym (written_short 0 out written refl (omega arith)))))

          long : w.length ≡ length written
          long = ap (λ (x : WrittenAnswer). x.length) (ends.0 ∙ sym (written_all 0 out written refl fits))

          now_is : now ≡ written ++ drop (length written) out
          now_is = ends.1 ∙ sym (left_all 0 out written refl fits)

          pub front_within : w.length ≤ length now
          front_within = omega (arith, long, ap length now_is, length-append written (drop (length written) out))

          -- the front of the room is the raw expression
          front : take w.length now ≡ written
          front = rw (long, now_is) (take-append_seam written (drop (length written) out))

          module _ (r : Ready u surfaces first second) {judged : NumbersAnswer} (j : judged ≡ numbers_answer u (take w.length now) from to) where
            -- it reads, so that its numbers are those of the raw shape
            numbers_are : judged ≡ done_numbers (volume u (raw u surfaces (trees_of surfaces first second))) v
            unfolding raw_of_two
            numbers_are =
                let t = trees_of surfaces first second in
                let reads : expression u written ≡ read (raw u surfaces t) = (raw_shows u r.accepted_universe surfaces t).reads in
                let a = numbers_accepted u written from to (raw u surfaces t) r.accepted_universe reads (sym q ∙ y) in
                j ∙ ap (λ (s : List ℕ). numbers_answer u s from to) front ∙ a

            pub front_accepted : judged.refusal ≡ 0
            front_accepted = ap (λ (x : NumbersAnswer). x.refusal) numbers_are

            pub judged_front : {answer : ClearanceAnswer} → answer ≡ done_clearance judged.verdict w.length → Answered answer now
            judged_front k =
                let d : judged.verdict ≡ v = ap (λ (x : NumbersAnswer). x.verdict) numbers_are in
                answered accepted (k ∙ rw (eq-eqb w.refusal 0 done) (ap (λ (x : Verdict). done_clearance x w.length) d))
