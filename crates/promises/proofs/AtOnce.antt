-- The answers at once, of the calls: the verdict is that of the trees' raw shape, which is what the voxels' colours say and what the call in lent room answers
-- wherever it is not refused for room; and the ends are its ends.
use Prim.Native.Nat.{ℕ}
use mathlib.Core.Path.{◌≡◌, sym, ap, ◌∙◌}
use mathlib.Core.List.{List, []}
use native.Mathlib.Decide.{ℕ_discrete}
use borrow.Author.Tests.{eq-eqb, ne_eqb}
use Rattle.universe.specs.declared.Universe.{Universe}
use Rattle.universe.specs.Refusals.{no_room}
use Rattle.bintree.specs.declared.Verdict.{Verdict}
use Rattle.bintree.specs.Verdicts.{verdict}
use Rattle.csg.specs.Surfaces.{Surfaces, named}
use Rattle.csg.specs.Words.{tree_of}
use Rattle.csg.specs.Raw.{raw}
use Rattle.demands.specs.Verdicts.{Judges}
use Rattle.demands.proofs.Theorems.{verdict_of_trees}
use Rattle.convert.specs.Blocks.{trees_of}
use Rattle.convert.specs.Answers.{clearance_refusal, clearance_answer}
use Rattle.at_once.specs.Told.{JudgedAnswer, SpannedAnswer}
use Rattle.at_once.specs.Answers.{refused_judged, done_judged, verdict_at_once, span_of, refused_spanned, done_spanned, ends_at_once}
use Rattle.promises.specs.Contacts.{shared_colour}
use Rattle.promises.specs.AtOnce.{AtOnce}
use Rattle.promises.proofs.Contacts.{never}
use Rattle.promises.proofs.Promises.{accepts, window_accepted, verdict_is_lem, verdict_refused, verdict_number}

module _ (u : Universe) (surfaces : Surfaces) (first second : List ℕ) (from to : ℕ) where
  abbrev before : ℕ
  before = clearance_refusal u surfaces first second from to

  abbrev judged : JudgedAnswer
  judged = verdict_at_once u surfaces first second from to

  abbrev spanned : SpannedAnswer
  spanned = ends_at_once u surfaces first second from to

  abbrev shown : Verdict
  shown = verdict u (raw u surfaces (trees_of surfaces first second)) from to

  judged_done : before ≡ 0 → judged ≡ done_judged shown
  unfolding verdict_at_once
  judged_done z = rw (eq-eqb before 0 z)

  judged_refused : (before ≡ 0 → ⊥) → judged ≡ refused_judged before
  unfolding verdict_at_once
  judged_refused n = rw (ne_eqb before 0 n)

  spanned_done : before ≡ 0 → spanned ≡ done_spanned (span_of shown)
  unfolding ends_at_once
  spanned_done z = rw (eq-eqb before 0 z)

  spanned_refused : (before ≡ 0 → ⊥) → spanned ≡ refused_spanned before
  unfolding ends_at_once
  spanned_refused n = rw (ne_eqb before 0 n)

  -- ---- the numbers
  numbers : (judged.refusal ≡ before) × (spanned.refusal ≡ before)
  numbers = by (ℕ_discrete before 0)
    where
      by : Dec (before ≡ 0) → (judged.refusal ≡ before) × (spanned.refusal ≡ before)
      by (yes z) = (ap (λ (x : JudgedAnswer). x.refusal) (judged_done z) ∙ sym z, ap (λ (x : SpannedAnswer). x.refusal) (spanned_done z) ∙ sym z)
      by (no n) = (ap (λ (x : JudgedAnswer). x.refusal) (judged_refused n), ap (λ (x : SpannedAnswer). x.refusal) (spanned_refused n))

  ends_are : spanned.span ≡ span_of judged.verdict
  ends_are = by (ℕ_discrete before 0)
    where
      by : Dec (before ≡ 0) → spanned.span ≡ span_of judged.verdict
      by (yes z) = ap (λ (x : SpannedAnswer). x.span) (spanned_done z) ∙ sym (ap (λ (x : JudgedAnswer). span_of x.verdict) (judged_done z))
      by (no n) = ap (λ (x : SpannedAnswer). x.span) (spanned_refused n) ∙ sym (ap (λ (x : JudgedAnswer). span_of x.verdict) (judged_refused n))

  judges_window : before ≡ 0 → Judges u (shared_colour u surfaces first second) from to shown
  judges_window z =
      let w = window_accepted u surfaces first second [] from to z in
      verdict_of_trees u (accepts u surfaces first second w.0).0 surfaces (tree_of (named surfaces) first) (tree_of (named surfaces) second) from to w.1

  -- ---- the call in lent room
  module _ (out : List ℕ) (n : (clearance_answer u surfaces first second from to out).refusal ≡ no_room → ⊥) where
    its_number : (clearance_answer u surfaces first second from to out).refusal ≡ before
    its_number = verdict_number u surfaces first second out from to n

    same_verdict : judged.verdict ≡ (clearance_answer u surfaces first second from to out).verdict
    same_verdict = by (ℕ_discrete before 0)
      where
        by : Dec (before ≡ 0) → judged.verdict ≡ (clearance_answer u surfaces first second from to out).verdict
        by (yes z) =
            ap (λ (x : JudgedAnswer). x.verdict) (judged_done z)
            ∙ sym (verdict_is_lem u surfaces first second out from to (its_number ∙ z))
        by (no k) =
            ap (λ (x : JudgedAnswer). x.verdict) (judged_refused k)
            ∙ sym (verdict_refused u surfaces first second out from to (λ z. k (sym its_number ∙ z)))

  -- THEOREM
  pub at_once : AtOnce u surfaces first second from to judged spanned
  at_once = record {
    number = numbers.0;
    same_number = numbers.1 ∙ sym numbers.0;
    never_six = λ e. never u surfaces first second from to (sym numbers.0 ∙ e);
    clear = λ n. ap (λ (x : JudgedAnswer). x.verdict) (judged_refused (λ z. n (numbers.0 ∙ z)));
    judges = λ z.
        let b = sym numbers.0 ∙ z in
        rw (judged_done b) (judges_window b);
    same_verdict = λ out n. (numbers.0 ∙ sym (its_number out n), same_verdict out n);
    ends = ends_are;
  }
