-- What src/window.rt answers of a whole expression: the checks in the order 2, 7, 9, then the walk's volume and the verdict that its contact is. Each law takes
-- its premises in the form that code leaves them.
use mathlib.Core.Path.{◌≡◌, refl, sym, ap, ap₂, ◌∙◌}
use mathlib.Core.List.{List, [], ◌∷◌}
use Prim.Native.Nat.{ℕ, ◌≤◌, ◌<◌}
use native.Mathlib.Decide.{ℕ_discrete}
use native.Mathlib.Omega.{arith}
use borrow.Author.Tests.{ne_eqb, leb-true, ltb-true}
use lib.Dec.{leb, ltb}
use lib.ListN.{length}
use Rattle.lemmas.proofs.Sums.{and_left, and_right}
use Rattle.std.specs.Prelude.{Some, None}
use Rattle.universe.specs.declared.Universe.{Universe}
use Rattle.universe.specs.declared.accepted.Accepted.{Accepted}
use Rattle.universe.specs.Accepting.{accepted_answer}
use Rattle.universe.specs.Refusals.{bad_expression, outside}
use Rattle.universe.specs.Universe.{levels, frame_count}
use Rattle.universe.specs.Voxel.{window_refusal}
use Rattle.universe.proofs.Acceptance.{accepted_number, accepted_same}
use Rattle.universe.proofs.Refusing.{unless_holds}
use Rattle.universe.proofs.Universes.{accepted}
use Rattle.bintree.specs.Told.{NumbersAnswer}
use Rattle.bintree.specs.declared.Verdict.{Verdict}
use Rattle.bintree.specs.declared.Verdict.TheVariants.{Clear}
use Rattle.bintree.specs.declared.window.Window.{Window}
use Rattle.bintree.specs.declared.window.Watched.{Watched}
use Rattle.bintree.specs.Shape.{Shape}
use Rattle.bintree.specs.Reading.{none, read, read_at, expression}
use Rattle.bintree.specs.Answers.{unless_refused}
use Rattle.bintree.specs.Counts.{volume}
use Rattle.bintree.specs.Verdicts.{verdict, refused_numbers, done_numbers, numbers_answer}
use Rattle.bintree.specs.Windows.{no_contact, contact_from, watched, verdict_of}
use Rattle.bintree.proofs.Answers.{is_refused, is_done, answer_universe, answer_none, answer_last}
use Rattle.bintree.proofs.Reading.{expression_none, expression_rest, expression_read, read_is}
use Rattle.bintree.proofs.Windows.{contact_tells, verdict_is_lem}
use Rattle.bintree.proofs.Watches.{nothing_none, Reached, reached}

-- a window that is accepted
pub record InUniverse (u : Universe) (first last : ℕ) : Type 0 where
  pub order : first ≤ last
  pub inside : last < frame_count u

pub window_accepted : (u : Universe) (first last : ℕ) → window_refusal u first last ≡ 0 → InUniverse u first last
unfolding window_refusal
window_accepted u first last e =
    let both = unless_holds _ outside (omega arith) e in
    record {
      order = leb-true _ _ (and_left (leb first last) (ltb last (frame_count u)) both);
      inside = ltb-true _ _ (and_right (leb first last) (ltb last (frame_count u)) both);
    }

-- the laws of `numbers_of`: a universe that is refused, and an accepted one
pub numbers_refused :
    (u : Universe) (s : List ℕ) (first last : ℕ) {n : ℕ} {v : Universe} → record { refusal = n; universe = v } ≡ accepted_answer u → (n ≡ 0 → ⊥) →
    refused_numbers n ≡ numbers_answer u s first last
unfolding numbers_answer
numbers_refused u s first last {n} told h =
    answer_universe u n (accepted_number u told) s (window_refusal u first last ∷ []) refused_numbers _ _ h refl

module _
    (asked : Universe) (its : Accepted) (s : List ℕ) (first last : ℕ) (told : record { refusal = 0; universe = its.universe } ≡ accepted_answer asked)
  where
    abbrev u : Universe
    u = its.universe

    abbrev window : Window
    window = record { accepted = its; first = first; last = last }

    same_numbers : numbers_answer u s first last ≡ numbers_answer asked s first last
    same_numbers = ap (λ v. numbers_answer v s first last) (accepted_same asked told refl)

    seven : expression u s ≡ none → refused_numbers bad_expression ≡ numbers_answer asked s first last
    unfolding numbers_answer
    seven x = answer_none u 0 (sym its.not_refused) s (window_refusal u first last ∷ []) refused_numbers _ _ refl x refl ∙ same_numbers

    pub numbers_nothing : None ≡ watched window (read_at s (levels u) 0) → refused_numbers bad_expression ≡ numbers_answer asked s first last
    numbers_nothing f = seven (expression_none u s (nothing_none window (read_at s (levels u) 0) f))

    module _ (t : Watched) (f : Some t ≡ watched window (read_at s (levels u) 0)) where
      all_reached : Reached window t (read_at s (levels u) 0)
      all_reached = reached window t (read_at s (levels u) 0) f

      pub numbers_rest : (t.end ≡ length s → ⊥) → refused_numbers bad_expression ≡ numbers_answer asked s first last
      numbers_rest n = let w = all_reached in seven (expression_rest u s w.shape w.is (λ j. n (omega (arith, w.after))))

      -- the contact tells the verdict of the shape, where the window is accepted
      module _ (j : t.end ≡ length s) (nine : ℕ) (i : nine ≡ window_refusal asked first last) where
        here : nine ≡ window_refusal u first last
        here = i ∙ ap (λ v. window_refusal v first last) (sym (accepted_same asked told refl))

        a : Shape
        a = all_reached.shape

        all_read : expression u s ≡ read a
        unfolding a
        all_read = let w = all_reached in expression_read u s w.shape w.is (omega (arith, w.after))

        voxels_are : t.volume ≡ volume u a
        unfolding a
        voxels_are = all_reached.voxels

        contact_is : t.contact ≡ contact_from u first last 0 0 a (no_contact first last)
        unfolding a
        contact_is = all_reached.contact

        judged : nine ≡ 0 → verdict_of t.contact ≡ verdict u a first last
        judged n =
            let w = window_accepted u first last (sym here ∙ n) in
            let some = (accepted u its.not_refused).some_axes in
            let tells = contact_tells u some first last w.order a (read_is u s a all_read).1 w.inside in
            ap verdict_of contact_is
            ∙ sym (verdict_is_lem u a first last w.order (contact_from u first last 0 0 a (no_contact first last)) tells)

        by_window :
            (v : Verdict) {answer : NumbersAnswer} → (nine ≡ 0 → v ≡ verdict u a first last) →
            answer ≡ unless_refused nine refused_numbers (done_numbers t.volume v) → answer ≡ numbers_answer asked s first last
        unfolding numbers_answer
        by_window v {answer} h k =
            answer_last u 0 (sym its.not_refused) refused_numbers _ answer s (window_refusal u first last) a refl all_read
            (k ∙ rw (all_read, ← here) (go (ℕ_discrete nine 0)))
            ∙ same_numbers
          where
            go :
                Dec (nine ≡ 0) →
                unless_refused nine refused_numbers (done_numbers t.volume v)
                ≡ unless_refused nine refused_numbers (done_numbers (volume u a) (verdict u a first last))
            go (yes n) = ap₂ (λ x y. unless_refused nine refused_numbers (done_numbers x y)) voxels_are (h n)
            go (no n) = rw (ne_eqb nine 0 n)

        pub numbers_outside : (nine ≡ 0 → ⊥) → refused_numbers nine ≡ numbers_answer asked s first last
        numbers_outside n = by_window Clear (λ y. absurd (n y)) (is_refused refused_numbers _ nine n)

        pub numbers_found : nine ≡ 0 → (v : Verdict) → v ≡ verdict_of t.contact → done_numbers t.volume v ≡ numbers_answer asked s first last
        numbers_found y v g = by_window v (λ n. g ∙ judged n) (is_done refused_numbers (done_numbers t.volume v) nine y)
