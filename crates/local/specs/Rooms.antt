-- Work room of a call's own (rule 16.4): its largest size, in nodes, and when so many nodes suffice. With work room that
-- suffices, a pruned conversion's number and length are all that is left of its answer.
use Rattle.std.specs.Prelude.{ℕ, ◌≤◌, ◌≡◌, Bool, cond, List}
use Rattle.universe.specs.declared.Universe.{Universe}
use Rattle.universe.specs.Universe.{universe_refusal}
use Rattle.bintree.specs.Told.{WrittenAnswer}
use Rattle.csg.specs.Surfaces.{Surfaces}
use Rattle.convert.specs.Answers.{raw_of_one_answer, raw_of_one_buffer, raw_of_two_answer, raw_of_two_buffer}
use Rattle.pruned.specs.Told.{ConversionAnswer}
use Rattle.pruned.specs.Answers.{nodes_needed}

abbrev pub many : ℕ
many = 1248

-- room for so many nodes suffices for trees with so many words; of a refused universe no room is asked for
pub record Suffices (u : Universe) (words nodes : ℕ) : Type 0 where
  pub enough : universe_refusal u ≡ 0 → nodes_needed u words ≤ nodes

abbrev pub parts_of : ConversionAnswer → WrittenAnswer
parts_of found = record { refusal = found.refusal; length = found.length }

-- what a raw conversion of both trees, or of the first alone, answers, and what it leaves of the room lent
abbrev pub raw_answer : Bool → Universe → Surfaces → List ℕ → List ℕ → List ℕ → WrittenAnswer
raw_answer both u surfaces first second out =
    cond both (raw_of_two_answer u surfaces first second out) (raw_of_one_answer u surfaces first out)

abbrev pub raw_buffer : Bool → Universe → Surfaces → List ℕ → List ℕ → List ℕ → List ℕ
raw_buffer both u surfaces first second out =
    cond both (raw_of_two_buffer u surfaces first second out) (raw_of_one_buffer u surfaces first out)
