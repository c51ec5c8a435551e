-- The verdict of two trees by way of their raw conversion: with a window that is accepted the checks are the conversion's own, so a refusal of the
-- conversion is the verdict's; where there is none, crate `convert` has the rest.
use Prim.Native.Nat.{ℕ, ◌≤◌}
use mathlib.Core.Path.{◌≡◌, refl, sym, ap, ◌∙◌}
use mathlib.Core.Bool.{false}
use mathlib.Core.List.{List}
use native.Mathlib.Decide.{ℕ_discrete}
use borrow.Author.Tests.{eq-eqb, ne_eqb}
use lib.ListN.{length, take}
use Rattle.universe.specs.declared.Universe.{Universe}
use Rattle.universe.specs.Voxel.{window_refusal}
use Rattle.bintree.specs.Told.{WrittenAnswer, NumbersAnswer}
use Rattle.bintree.specs.Verdicts.{verdict, numbers_answer}
use Rattle.bintree.proofs.Answers.{written_refused}
use Rattle.csg.specs.Surfaces.{Surfaces}
use Rattle.csg.specs.Raw.{raw}
use Rattle.convert.specs.Told.{ClearanceAnswer}
use Rattle.convert.specs.Blocks.{Ready, trees_of}
use Rattle.convert.specs.Answers.{two_trees_refusal, raw_of_two, written_of_two, raw_of_two_answer, raw_of_two_buffer}
use Rattle.convert.specs.Answers.{refused_clearance, done_clearance, clearance_checks, clearance_refusal, clearance_of, clearance_answer, clearance_buffer}
use Rattle.convert.proofs.Answers.{Ends, ready_of, raw_written}
use Rattle.convert.proofs.Clearances.{front_within, front_accepted, judged_front}

module _ (u : Universe) (surfaces : Surfaces) (first second : List ℕ) (from to : ℕ) (out : List ℕ) {nine : ℕ}
    (q : nine ≡ window_refusal u from to) (y : nine ≡ 0) where
  abbrev before : ℕ
  before = two_trees_refusal u surfaces first second

  abbrev Answered : ClearanceAnswer → List ℕ → Type 0
  Answered answer now = (answer ≡ clearance_answer u surfaces first second from to out) × (now ≡ clearance_buffer u surfaces first second from to out)

  -- an accepted window checks nothing more
  same_checks : clearance_refusal u surfaces first second from to ≡ before
  unfolding clearance_checks
  same_checks = by (ℕ_discrete before 0)
    where
      by : Dec (before ≡ 0) → clearance_refusal u surfaces first second from to ≡ before
      by (yes z) = rw (z, ← q, eq-eqb nine 0 y)
      by (no n) = rw (ne_eqb before 0 n)

  module _ {w : WrittenAnswer} {now : List ℕ}
      (e : (w ≡ raw_of_two_answer u surfaces first second out) × (now ≡ raw_of_two_buffer u surfaces first second out)) where
    -- the conversion is refused
    pub raw_stopped : (w.refusal ≡ 0 → ⊥) → {answer : ClearanceAnswer} → answer ≡ refused_clearance w.refusal w.length → Answered answer now
    unfolding clearance_answer clearance_buffer raw_of_two_answer raw_of_two_buffer
    raw_stopped h a =
        let v = verdict u (raw u surfaces (trees_of surfaces first second)) from to in
        let refused : refused_clearance w.refusal w.length ≡ clearance_of w v = rw (ne_eqb w.refusal 0 h) in
        rw same_checks (a ∙ refused ∙ ap (λ (x : WrittenAnswer). clearance_of x v) e.0, e.1)

    module _ (done : w.refusal ≡ 0) where
      no_refusal : before ≡ 0
      unfolding raw_of_two_answer
      no_refusal = by (ℕ_discrete before 0)
        where
          by : Dec (before ≡ 0) → before ≡ 0
          by (yes z) = z
          by (no n) = absurd (n (ap (λ (x : WrittenAnswer). x.refusal) (written_refused before out (raw_of_two u surfaces first second) n ∙ sym e.0) ∙ done))

      ends : Ends out (written_of_two false u surfaces first second) 0 w now
      unfolding raw_of_two_answer raw_of_two_buffer
      ends = rw (raw_written, ← no_refusal) e

      ready : Ready u surfaces first second
      ready = ready_of u surfaces first second (sym no_refusal)

      pub raw_within : w.length ≤ length now
      raw_within = front_within u surfaces first second from to out refl no_refusal q y ends done

      -- it is judged
      module _ {judged : NumbersAnswer} (j : judged ≡ numbers_answer u (take w.length now) from to) where
        pub raw_accepted : judged.refusal ≡ 0
        raw_accepted = front_accepted u surfaces first second from to out refl no_refusal q y ends done ready j

        pub raw_judged : {answer : ClearanceAnswer} → answer ≡ done_clearance judged.verdict w.length → Answered answer now
        raw_judged k = judged_front u surfaces first second from to out refl no_refusal q y ends done ready j k
