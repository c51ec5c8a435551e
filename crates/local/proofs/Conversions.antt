-- With work room that suffices a pruned conversion's number, length and symbols are the first conversion's: where no check refuses, the universe's own does
-- not, and then the work room's check accepts.
use Prim.Native.Nat.{ℕ, ◌+◌, ◌≤◌}
use mathlib.Core.Path.{◌≡◌, ap₂, ◌∙◌}
use mathlib.Core.Bool.{Bool, true, false}
use mathlib.Core.List.{List, [], ◌∷◌}
use lib.IntN.{ℤ}
use lib.ListN.{length}
use Rattle.universe.specs.declared.Universe.{Universe}
use Rattle.bintree.specs.Told.{WrittenAnswer}
use Rattle.csg.specs.Surfaces.{Surfaces}
use Rattle.convert.specs.Answers.{one_tree_refusal, two_trees_refusal, raw_of_one, raw_of_two}
use Rattle.convert.specs.Answers as convert
use Rattle.pruned.specs.Told.{ConversionAnswer}
use Rattle.pruned.specs.Answers.{nodes_lent, nodes_needed}
use Rattle.pruned.specs.Answers as pruned
use Rattle.pruned.proofs.Answers.{same}
use Rattle.pruned.proofs.Conversions.{all_accepted, one_refusal}
use Rattle.local.specs.Rooms.{Suffices, parts_of, raw_answer, raw_buffer}
use Rattle.local.proofs.Rooms.{fewer_suffice}

-- a writing by its two numbers
parts : {number long : ℕ} {w : WrittenAnswer} → number ≡ w.refusal → long ≡ w.length → record { refusal = number; length = long } ≡ w
parts {number} {long} {w} p q = ap₂ (λ (n k : ℕ). record { refusal = n; length = k }) p q

module _ (u : Universe) (surfaces : Surfaces) (words : List ℕ) (work : List ℤ) (out : List ℕ) (s : Suffices u (length words) (nodes_lent work)) where
  one_accepted : one_tree_refusal u surfaces words ≡ 0 → nodes_needed u (length words) ≤ nodes_lent work
  one_accepted z = s.enough (all_accepted u surfaces words (1 ∷ []) (one_refusal u surfaces words ∙ z)).0.accepted_universe

  pub one_as_first : {found : ConversionAnswer} {out' : List ℕ} →
      found ≡ pruned.raw_of_one_answer u surfaces words work out → out' ≡ pruned.raw_of_one_buffer u surfaces words work out → {w : WrittenAnswer} → w ≡ parts_of found →
      (w ≡ convert.raw_of_one_answer u surfaces words out) × (out' ≡ convert.raw_of_one_buffer u surfaces words out)
  unfolding convert.raw_of_one_answer convert.raw_of_one_buffer pruned.raw_of_one_answer pruned.raw_of_one_buffer
  one_as_first f g a =
      let k = same (one_tree_refusal u surfaces words) work (nodes_needed u (length words)) out (raw_of_one u surfaces words) _ one_accepted in
      (a ∙ rw f (parts k.number k.long), g ∙ k.room)

module _ (u : Universe) (surfaces : Surfaces) (first second : List ℕ) (work : List ℤ) (out : List ℕ)
    (s : Suffices u (length first + length second) (nodes_lent work)) where
  two_accepted : two_trees_refusal u surfaces first second ≡ 0 → nodes_needed u (length first + length second) ≤ nodes_lent work
  two_accepted z = s.enough (all_accepted u surfaces first second z).0.accepted_universe

  pub two_as_first : {found : ConversionAnswer} {out' : List ℕ} →
      found ≡ pruned.raw_of_two_answer u surfaces first second work out → out' ≡ pruned.raw_of_two_buffer u surfaces first second work out → {w : WrittenAnswer} →
      w ≡ parts_of found →
      (w ≡ convert.raw_of_two_answer u surfaces first second out) × (out' ≡ convert.raw_of_two_buffer u surfaces first second out)
  unfolding convert.raw_of_two_answer convert.raw_of_two_buffer pruned.raw_of_two_answer pruned.raw_of_two_buffer
  two_as_first f g a =
      let k = same (two_trees_refusal u surfaces first second) work (nodes_needed u (length first + length second)) out (raw_of_two u surfaces first second) _
      two_accepted in
      (a ∙ rw f (parts k.number k.long), g ∙ k.room)

  -- whichever of both is asked for
  pub first_alone : {both : Bool} → both ≡ false → {found : ConversionAnswer} {out' : List ℕ} →
      found ≡ pruned.raw_of_one_answer u surfaces first work out → out' ≡ pruned.raw_of_one_buffer u surfaces first work out → {w : WrittenAnswer} → w ≡ parts_of found →
      (w ≡ raw_answer both u surfaces first second out) × (out' ≡ raw_buffer both u surfaces first second out)
  first_alone b f g a = rw b (one_as_first u surfaces first work out (fewer_suffice _ _ s) f g a)

  pub both_together : {both : Bool} → both ≡ true → {found : ConversionAnswer} {out' : List ℕ} →
      found ≡ pruned.raw_of_two_answer u surfaces first second work out → out' ≡ pruned.raw_of_two_buffer u surfaces first second work out → {w : WrittenAnswer} →
      w ≡ parts_of found →
      (w ≡ raw_answer both u surfaces first second out) × (out' ≡ raw_buffer both u surfaces first second out)
  both_together b f g a = rw b (two_as_first f g a)
