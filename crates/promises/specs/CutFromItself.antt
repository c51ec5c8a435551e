-- A prop cut from itself, in terms of what the merged conversion of A MINUS A answers and leaves in the room lent.
use Rattle.std.specs.Prelude.{ℕ, ◌≤◌, ◌≡◌, List, ◌∷◌, length, drop}
use Rattle.universe.specs.declared.Universe.{Universe}
use Rattle.bintree.specs.declared.Colour.TheVariants.{White}
use Rattle.bintree.specs.Shape.{symbol_of}
use Rattle.csg.specs.Surfaces.{Surfaces}
use Rattle.csg.specs.Words.{minus_itself}
use Rattle.convert.specs.Answers.{merged_of_one_answer, merged_of_one_buffer}

-- it leaves no skin: one symbol, written or needed; where there is room for it, `W` stands at the front of the room,
-- and what is behind it is as it was
pub record NoSkin (u : Universe) (surfaces : Surfaces) (words out : List ℕ) : Type 0 where
  pub one_symbol : (merged_of_one_answer u surfaces (minus_itself words) out).length ≡ 1
  pub written : 1 ≤ length out → (merged_of_one_answer u surfaces (minus_itself words) out).refusal ≡ 0
  pub white : 1 ≤ length out
      → merged_of_one_buffer u surfaces (minus_itself words) out ≡ symbol_of White ∷ drop 1 out
