-- The checks of a verdict in their order, and the answers: a refusal, or what the whole universe comes to.
use Prim.Native.Nat.{ℕ}
use mathlib.Core.Path.{◌≡◌, sym, ap}
use mathlib.Core.List.{List, [], ◌∷◌}
use native.Mathlib.Decide.{ℕ_discrete}
use borrow.Author.Tests.{eq-eqb, ne_eqb}
use Rattle.std.specs.Prelude.{Option, Ok, Err}
use Rattle.universe.specs.declared.Universe.{Universe}
use Rattle.universe.specs.declared.refusal.Refusal.{Refusal}
use Rattle.universe.specs.Refusals.{first_refusal}
use Rattle.universe.specs.Told.{number_of}
use Rattle.universe.specs.Voxel.{window_refusal}
use Rattle.universe.proofs.Refusing.{last_check}
use Rattle.universe.proofs.Telling.{number-not_zero}
use Rattle.bintree.specs.declared.Verdict.{Verdict}
use Rattle.bintree.specs.Verdicts.{verdict}
use Rattle.csg.specs.Surfaces.{Surfaces}
use Rattle.csg.specs.Raw.{raw}
use Rattle.convert.specs.Blocks.{trees_of}
use Rattle.convert.specs.Answers.{two_trees_refusal, clearance_checks, clearance_refusal}
use Rattle.pruned.proofs.Conversions.{all_accepted}
use Rattle.at_once.specs.declared.answer.Ends.{Ends}
use Rattle.at_once.specs.declared.answer.Contacts.{Contacts}
use Rattle.at_once.specs.Whole.{WholeReady}
use Rattle.at_once.specs.Told.{judged_told, spanned_told, contacts_told}
use Rattle.at_once.specs.Answers.{done_judged, verdict_at_once, span_of, done_spanned, ends_at_once}
use Rattle.at_once.specs.Contacts.{contacts_answer, WholeTally}

first_zero : (n : ℕ) (ns : List ℕ) → first_refusal (n ∷ ns) ≡ 0 → (n ≡ 0) × (first_refusal ns ≡ 0)
first_zero n ns z = by (ℕ_discrete n 0)
  where
    by : Dec (n ≡ 0) → (n ≡ 0) × (first_refusal ns ≡ 0)
    by (yes y) = (y, rw (eq-eqb n 0 y) at z)
    by (no h) = absurd (h (rw (ne_eqb n 0 h) at z))

module _ (u : Universe) (surfaces : Surfaces) (words₁ words₂ : List ℕ) (from to : ℕ) where
  abbrev refusal : ℕ
  refusal = clearance_refusal u surfaces words₁ words₂ from to

  -- the first check that refuses, and the last where it is reached
  pub refused_scene : (r : Refusal) → number_of r ≡ two_trees_refusal u surfaces words₁ words₂ → number_of r ≡ refusal
  unfolding clearance_checks
  refused_scene r e = rw (← e, ne_eqb (number_of r) 0 (number-not_zero r))

  pub checked_window : 0 ≡ two_trees_refusal u surfaces words₁ words₂ → {m : ℕ} → m ≡ window_refusal u from to → m ≡ refusal
  unfolding clearance_checks
  checked_window e {m} w = rw (← e, ← w) (sym (last_check m))

  module _ (r : Refusal) (e : number_of r ≡ refusal) where
    pub judged_refused : judged_told (Err r) ≡ verdict_at_once u surfaces words₁ words₂ from to
    unfolding verdict_at_once
    judged_refused = rw (← e, ne_eqb (number_of r) 0 (number-not_zero r))

    pub spanned_refused : spanned_told (Err r) ≡ ends_at_once u surfaces words₁ words₂ from to
    unfolding ends_at_once
    spanned_refused = rw (← e, ne_eqb (number_of r) 0 (number-not_zero r))

    pub contacts_refused : contacts_told (Err r) ≡ contacts_answer u surfaces words₁ words₂ from to
    unfolding contacts_answer
    contacts_refused = rw (← e, ne_eqb (number_of r) 0 (number-not_zero r))

  module _ (e : 0 ≡ refusal) where
    pub all_ready : WholeReady u surfaces words₁ words₂ from to
    unfolding clearance_checks
    all_ready =
        let a = first_zero (two_trees_refusal u surfaces words₁ words₂) (window_refusal u from to ∷ []) (sym e) in
        let b = first_zero (window_refusal u from to) [] a.1 in
        let c = all_accepted u surfaces words₁ words₂ a.0 in
        record { scene = c.0; accepted_first = c.1.0; accepted_second = c.1.1; window = b.0 }

    pub judged_done : {v : Verdict} → v ≡ verdict u (raw u surfaces (trees_of surfaces words₁ words₂)) from to →
        judged_told (Ok v) ≡ verdict_at_once u surfaces words₁ words₂ from to
    unfolding verdict_at_once
    judged_done f = rw (← e) (ap done_judged f)

    pub spanned_done : {s : Option Ends} → s ≡ span_of (verdict u (raw u surfaces (trees_of surfaces words₁ words₂)) from to) →
        spanned_told (Ok s) ≡ ends_at_once u surfaces words₁ words₂ from to
    unfolding ends_at_once
    spanned_done f = rw (← e) (ap done_spanned f)

    pub contacts_done : {k : Contacts} → WholeTally u surfaces words₁ words₂ from to k →
        contacts_told (Ok k) ≡ contacts_answer u surfaces words₁ words₂ from to
    unfolding contacts_answer
    contacts_done w = rw (w.sure, w.centre, w.possible, ← e)
