-- A PROP CUT FROM ITSELF LEAVES NO SKIN, of the call itself: where A A MINUS is accepted its tree is a tree MINUS itself, whose merged shape is one WHITE leaf;
-- so the merged conversion writes `W` and nothing else. `NoSkin` (specs/CutFromItself.antt) lists it.
use Prim.Native.Nat.{ℕ, ◌+◌, ◌*◌, ◌≤◌}
use mathlib.Core.Path.{◌≡◌, sym, ap, ◌∙◌}
use mathlib.Core.List.{List, [], ◌∷◌, ◌++◌}
use native.Mathlib.Omega.{arith}
use lib.ListN.{length, length-append}
use Rattle.universe.specs.declared.Universe.{Universe}
use Rattle.bintree.specs.declared.Colour.TheVariants.{White}
use Rattle.bintree.specs.Told.{WrittenAnswer}
use Rattle.bintree.specs.Shape.{symbol_of, symbols}
use Rattle.bintree.specs.Merging.{merged}
use Rattle.bintree.proofs.Answers.{written_all, left_all}
use Rattle.csg.specs.Surfaces.{Surfaces, named}
use Rattle.csg.specs.Words.{most_words, minus_word, minus_itself}
use Rattle.csg.specs.Raw.{raw}
use Rattle.csg.proofs.Words.{accepted_length}
use Rattle.csg.proofs.Beneath.{tree_minus_itself}
use Rattle.demands.proofs.Theorems.{minus_itself_lem}
use Rattle.convert.specs.Answers.{one_tree_refusal, merged_of_one, merged_of_one_answer, merged_of_one_buffer}
use Rattle.promises.specs.CutFromItself.{NoSkin}
use Rattle.promises.proofs.Keeping.{length_told}
use Rattle.promises.proofs.Promises.{checks}

module _ (u : Universe) (surfaces : Surfaces) (words : List ℕ) (z : one_tree_refusal u surfaces (minus_itself words) ≡ 0) where
  -- A has at most 127 words
  pub few_words : 2 * length words + 1 ≤ most_words
  few_words =
      omega (
        arith,
        accepted_length (named surfaces) (minus_itself words) (checks u surfaces (minus_itself words) [] z).1,
        length-append words (words ++ (minus_word ∷ [])),
        length-append words (minus_word ∷ []),
      )

  white_alone : merged_of_one u surfaces (minus_itself words) ≡ symbol_of White ∷ []
  unfolding merged_of_one symbols
  white_alone =
      let k = checks u surfaces (minus_itself words) [] z in
      let t = tree_minus_itself (named surfaces) words k.1 in
      ap (λ a. symbols (merged (raw u surfaces a))) t.1 ∙ ap symbols (minus_itself_lem u k.0 surfaces t.0)

  module _ (out : List ℕ) where
    abbrev before : ℕ
    before = one_tree_refusal u surfaces (minus_itself words)

    -- THEOREM
    pub no_skin : NoSkin u surfaces words out
    unfolding merged_of_one_answer merged_of_one_buffer
    no_skin = record {
      one_symbol = length_told before out _ z ∙ ap length white_alone;
      written = λ h. sym (ap (λ (a : WrittenAnswer). a.refusal) (written_all before out _ z (rw white_alone h)));
      white = λ h. rw white_alone (sym (left_all before out (symbol_of White ∷ []) z h));
    }
