-- Rules 14.2 and 14.3: what the question for sure and possible contact answers: a refusal, as a verdict is refused but
-- for 6, or the three counts of the window's voxels.
use Rattle.std.specs.Prelude.{ℕ, ◌≡◌, List}
use Rattle.universe.specs.declared.Universe.{Universe}
use Rattle.bintree.specs.Answers.{unless_refused}
use Rattle.csg.specs.Surfaces.{Surfaces}
use Rattle.csg.specs.Marks.{tree_colour}
use Rattle.contacts.specs.Contacts.{sure_colour, possible_colour, window_voxels}
use Rattle.convert.specs.Blocks.{trees_of}
use Rattle.convert.specs.Answers.{clearance_refusal}
use Rattle.at_once.specs.Told.{ContactsAnswer}
use Rattle.at_once.specs.declared.answer.Contacts.{Contacts}

abbrev pub refused_contacts : ℕ → ContactsAnswer
refused_contacts number = record { refusal = number; sure = 0; centre = 0; possible = 0 }

abbrev pub done_contacts : ℕ → ℕ → ℕ → ContactsAnswer
done_contacts sure centre possible = record { refusal = 0; sure = sure; centre = centre; possible = possible }

unfoldable pub contacts_answer : Universe → Surfaces → List ℕ → List ℕ → ℕ → ℕ → ContactsAnswer
contacts_answer u surfaces first second from to =
    let t = trees_of surfaces first second in
    unless_refused (clearance_refusal u surfaces first second from to) refused_contacts
    (done_contacts
    (window_voxels u (sure_colour surfaces u t) from to)
    (window_voxels u (tree_colour surfaces u t) from to)
    (window_voxels u (possible_colour surfaces u t) from to))

-- the tally of the whole universe
pub record WholeTally (u : Universe) (surfaces : Surfaces) (first second : List ℕ) (from to : ℕ)
    (t : Contacts) : Type 0 where
  pub sure : t.sure ≡ window_voxels u (sure_colour surfaces u (trees_of surfaces first second)) from to
  pub centre : t.centre ≡ window_voxels u (tree_colour surfaces u (trees_of surfaces first second)) from to
  pub possible : t.possible ≡ window_voxels u (possible_colour surfaces u (trees_of surfaces first second)) from to
