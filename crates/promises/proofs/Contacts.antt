-- Sure and possible contact, of the call: each field is a theorem of crate `contacts` on the definitions that the answer is made of.
use Prim.Native.Nat.{ℕ, ◌≤◌}
use mathlib.Core.Path.{◌≡◌, sym, ap, ◌∙◌, fun_ext}
use mathlib.Core.Bool.{◌&&◌}
use mathlib.Core.List.{List, []}
use native.Mathlib.Decide.{ℕ_discrete}
use native.Mathlib.Omega.{arith}
use borrow.Author.Tests.{eq-eqb, ne_eqb}
use lib.Dec.{leb, ltb}
use Rattle.universe.specs.declared.Universe.{Universe}
use Rattle.universe.specs.Refusals.{outside, no_room}
use Rattle.universe.specs.Universe.{universe_refusal, frame_count}
use Rattle.universe.specs.Voxel.{window_refusal}
use Rattle.csg.specs.Surfaces.{Surfaces, named}
use Rattle.csg.specs.Tree.{Tree}
use Rattle.csg.specs.Words.{tree_refusal, tree_of}
use Rattle.csg.specs.Marks.{tree_colour}
use Rattle.demands.specs.Voxels.{Colouring}
use Rattle.demands.proofs.Colours.{both_colour}
use Rattle.contacts.specs.Contacts.{sure_colour, possible_colour, window_voxels}
use Rattle.contacts.proofs.Contacts as contacts
use Rattle.contacts.proofs.Middle.{verdict_middle, no_contact_lem}
use Rattle.convert.specs.Blocks.{trees_of}
use Rattle.convert.specs.Answers.{two_trees_checks, clearance_checks, clearance_refusal}
use Rattle.at_once.specs.Told.{ContactsAnswer}
use Rattle.at_once.specs.Contacts.{refused_contacts, done_contacts, contacts_answer}
use Rattle.promises.specs.Contacts.{shared_colour, Contacted}
use Rattle.promises.proofs.Never.{NoneIs, no_more, and_then, unless_not, first_not, universe_not, rows_not, balls_not, tree_not}
use Rattle.promises.proofs.Located.{point_held}
use Rattle.promises.proofs.Promises.{accepts, window_accepted, verdict_passed, verdict_is_lem}

module _ (u : Universe) (surfaces : Surfaces) (first second : List ℕ) (from to : ℕ) where
  pub never : clearance_refusal u surfaces first second from to ≡ no_room → ⊥
  unfolding clearance_checks two_trees_checks window_refusal
  never =
      first_not no_room
      (and_then (first_not no_room trees_none (omega arith))
      (and_then (unless_not no_room (leb from to && ltb to (frame_count u)) outside (λ e. omega arith) (omega arith)) no_more))
      (omega arith)
    where
      words_not : (words : List ℕ) → tree_refusal (named surfaces) words ≡ no_room → ⊥
      words_not = tree_not no_room (named surfaces) (λ e. omega arith) (λ e. omega arith) (omega arith)

      trees_none : NoneIs no_room (two_trees_checks u surfaces first second)
      trees_none =
          and_then (universe_not no_room u (λ e. omega arith) (omega arith))
          (and_then (rows_not no_room u surfaces.rows (λ e. omega arith) (omega arith))
          (and_then (balls_not no_room u surfaces.balls (λ e. omega arith) (omega arith))
          (and_then (words_not first) (and_then (words_not second) no_more))))

  -- ---- the answer, refused or done
  abbrev answer : ContactsAnswer
  answer = contacts_answer u surfaces first second from to

  abbrev before : ℕ
  before = clearance_refusal u surfaces first second from to

  abbrev trees : Tree
  trees = trees_of surfaces first second

  abbrev done : ContactsAnswer
  done =
      done_contacts (window_voxels u (sure_colour surfaces u trees) from to) (window_voxels u (tree_colour surfaces u trees) from to)
      (window_voxels u (possible_colour surfaces u trees) from to)

  is_done : before ≡ 0 → answer ≡ done
  unfolding contacts_answer
  is_done z = rw (eq-eqb before 0 z)

  is_refused : (before ≡ 0 → ⊥) → answer ≡ refused_contacts before
  unfolding contacts_answer
  is_refused n = rw (ne_eqb before 0 n)

  number_is : answer.refusal ≡ before
  number_is = by (ℕ_discrete before 0)
    where
      by : Dec (before ≡ 0) → answer.refusal ≡ before
      by (yes z) = ap (λ (x : ContactsAnswer). x.refusal) (is_done z) ∙ sym z
      by (no n) = ap (λ (x : ContactsAnswer). x.refusal) (is_refused n)

  counts : answer.refusal ≡ 0 → answer ≡ done
  counts z = is_done (sym number_is ∙ z)

  ordered : (answer.sure ≤ answer.centre) × (answer.centre ≤ answer.possible)
  ordered = by (ℕ_discrete before 0)
    where
      by : Dec (before ≡ 0) → (answer.sure ≤ answer.centre) × (answer.centre ≤ answer.possible)
      by (yes z) = rw (is_done z) (contacts.sure_centre surfaces u trees from to, contacts.centre_possible surfaces u trees from to)
      by (no n) = rw (is_refused n) (omega arith, omega arith)

  accepted : before ≡ 0 → (universe_refusal u ≡ 0) × (window_refusal u from to ≡ 0)
  accepted z = let w = window_accepted u surfaces first second [] from to z in ((accepts u surfaces first second w.0).0, w.1)

  -- THEOREM
  pub contacted : Contacted u surfaces first second from to answer
  contacted = record {
    number = number_is;
    never_six = λ e. never (sym number_is ∙ e);
    zeros = λ n. let e = is_refused (λ z. n (number_is ∙ z)) in
        (ap (λ (x : ContactsAnswer). x.sure) e, ap (λ (x : ContactsAnswer). x.centre) e, ap (λ (x : ContactsAnswer). x.possible) e);
    sure = λ z. ap (λ (x : ContactsAnswer). x.sure) (counts z);
    centre = λ z. ap (λ (x : ContactsAnswer). x.centre) (counts z) ∙ shared;
    possible = λ z. ap (λ (x : ContactsAnswer). x.possible) (counts z);
    sure_centre = ordered.0;
    centre_possible = ordered.1;
    middle = λ out r.
        let b = verdict_passed u surfaces first second out from to r in
        let w = accepted b in
        rw (is_done b, verdict_is_lem u surfaces first second out from to r) (verdict_middle u w.0 from to w.1 surfaces trees);
    apart = λ z none q p at x y.
        let w = accepted (sym number_is ∙ z) in
        no_contact_lem u w.0 from to w.1 surfaces (tree_of (named surfaces) first) (tree_of (named surfaces) second)
        (sym (ap (λ (c : ContactsAnswer). c.possible) (counts z)) ∙ none) q p (point_held u w.0 from to w.1 q p at) x y;
  }
    where
      shared : window_voxels u (tree_colour surfaces u trees) from to ≡ window_voxels u (shared_colour u surfaces first second) from to
      shared =
          ap (λ (c : Colouring). window_voxels u c from to)
          (fun_ext (both_colour surfaces u (tree_of (named surfaces) first) (tree_of (named surfaces) second)))
