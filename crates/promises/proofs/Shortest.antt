-- THE MERGED EXPRESSION IS THE ONE TO KEEP, of the calls themselves: of all bytes that say given colours, those that merging and the merged conversions write
-- are the only shortest. `Shortest` (specs/Shortest.antt) lists it; `merged_shortest` and `tree_shortest` of the definitions give it, since bytes say colours,
-- by what the questions answer, exactly where they have them.
use Prim.Native.Nat.{ℕ, ◌≤◌, ◌<◌}
use mathlib.Core.Path.{◌≡◌, refl, sym, ap, ◌∙◌, fun_ext}
use mathlib.Core.List.{List, [], ◌∷◌, ◌++◌}
use native.Mathlib.Omega.{arith}
use native.Mathlib.Decide.{ℕ_discrete}
use lib.ListN.{length, drop}
use lib.Seq.{take-append_seam}
use Rattle.universe.specs.declared.Universe.{Universe}
use Rattle.universe.specs.Universe.{universe_refusal}
use Rattle.universe.specs.Voxel.{voxel_refusal}
use Rattle.bintree.specs.declared.Colour.{Colour}
use Rattle.bintree.specs.Told.{ColouredAnswer}
use Rattle.bintree.specs.Reading.{expression_refusal}
use Rattle.bintree.specs.Answers.{well_formed_refusal, short_writing, done_writing, written_answer, written_buffer}
use Rattle.bintree.specs.Merging.{merged_symbols, merge_answer, merge_buffer}
use Rattle.bintree.specs.Parts.{done_colour}
use Rattle.bintree.proofs.Reading.{accepted_shape}
use Rattle.bintree.proofs.Answers.{checks_read}
use Rattle.csg.specs.Surfaces.{Surfaces, named}
use Rattle.csg.specs.Words.{tree_of}
use Rattle.csg.specs.Marks.{tree_colour, intersection_colour}
use Rattle.demands.specs.Shortest.{Has, Fewest}
use Rattle.demands.proofs.Theorems.{merged_shortest, tree_shortest}
use Rattle.demands.proofs.Colours.{both_colour}
use Rattle.convert.specs.Answers.{one_tree_refusal, two_trees_refusal, merged_of_one, merged_of_two}
use Rattle.convert.specs.Answers.{merged_of_one_answer, merged_of_one_buffer, merged_of_two_answer, merged_of_two_buffer}
use Rattle.promises.specs.Shortest.{colours_of, Says, writing_of, Shortest}
use Rattle.promises.proofs.Keeping.{first_accepts, colour_accepted, at_its_end}
use Rattle.promises.proofs.Promises.{checks, accepts}

-- ---- bytes say colours exactly where they have them

pub colour_told : {a b : ColouredAnswer} → a ≡ b → a.colour ≡ b.colour
colour_told e = ap (λ (c : ColouredAnswer). c.colour) e

module _ (u : Universe) where
  both_checks : (x : List ℕ) → well_formed_refusal u x ≡ 0 → (universe_refusal u ≡ 0) × (expression_refusal u x ≡ 0)
  both_checks x z =
      let a = first_accepts (universe_refusal u) (expression_refusal u x ∷ []) z in
      (a.0, (first_accepts (expression_refusal u x) [] a.1).0)

  module _ (colours : List ℕ → Colour) (x : List ℕ) where
    pub has : well_formed_refusal u x ≡ 0 → ((v : List ℕ) → voxel_refusal u v ≡ 0 → colours_of u x v ≡ colours v) → Has u colours x
    has z same =
        let a = accepted_shape u x (both_checks x z).1 in
        record {
          shape = a.0;
          reads = a.1;
          shows = λ v f. sym (colour_told (colour_accepted u x v a.0 (both_checks x z).0 a.1 f)) ∙ same v f;
        }

    said : Says u colours x → Has u colours x
    said w = has w.well_formed (λ v f. colour_told (w.coloured v f))

    says : universe_refusal u ≡ 0 → Has u colours x → Says u colours x
    says ok w = record {
      well_formed = checks_read u (universe_refusal u) refl x w.shape ok w.reads;
      coloured = λ v f. colour_accepted u x v w.shape ok w.reads f ∙ ap done_colour (w.shows v f);
    }

-- ---- a call that writes the shortest expression

module _ (u : Universe) (ok : universe_refusal u ≡ 0) (colours : List ℕ → Colour) (out written : List ℕ) (s : Fewest u colours written) where
  none_shorter : (y : List ℕ) → Says u colours y → length written ≤ length y
  none_shorter y w = s.no_longer y (said u colours y w)

  others_longer : (y : List ℕ) → Says u colours y → (written ≡ y → ⊥) → length written < length y
  others_longer y w n = go (ℕ_discrete (length written) (length y))
    where
      go : Dec (length written ≡ length y) → length written < length y
      go (yes e) = absurd (n (s.only y (said u colours y w) e))
      go (no f) = omega (arith, none_shorter y w)

  short : length out < length written → Shortest u colours out (short_writing (length written)) out
  short h = record {
    itself = λ r. absurd (omega arith);
    no_longer = λ y w. omega (arith, none_shorter y w);
    only = λ y w e r. absurd (omega arith);
    others = λ r. absurd (omega arith);
  }

  done : Shortest u colours out (done_writing (length written)) (written ++ drop (length written) out)
  done =
      let seam = take-append_seam written (drop (length written) out) in
      record {
        itself = λ r. rw seam (says u colours written ok s.itself);
        no_longer = λ y w. omega (arith, none_shorter y w);
        only = λ y w e r. rw (← e, seam) (s.only y (said u colours y w) e);
        others = λ r y w n. others_longer y w (λ e. n (seam ∙ e));
      }

  shortest : (before : ℕ) → before ≡ 0 → Shortest u colours out (written_answer before out written) (written_buffer before out written)
  shortest before z = at_its_end before out written (Shortest u colours out) (λ n. absurd (n z)) (λ f. short) (λ f h. done)

-- ---- MERGING: of all bytes with the colours of a well-formed expression

pub merge_shortest : (u : Universe) (x out : List ℕ) → well_formed_refusal u x ≡ 0 →
    Shortest u (colours_of u x) out (writing_of (merge_answer u x out)) (merge_buffer u x out)
unfolding merge_answer merge_buffer
merge_shortest u x out z =
    let ok = (both_checks u x z).0 in
    let own = has u (colours_of u x) x z (λ v f. refl) in
    shortest u ok (colours_of u x) out (merged_symbols u x) (merged_shortest u ok (colours_of u x) x own) (well_formed_refusal u x) z

-- ---- THE TREES: of all bytes with the colours of a tree, and of two intersected

module _ (u : Universe) (surfaces : Surfaces) where
  -- the colour of the whole tree of those words at a voxel's centre
  abbrev colours : List ℕ → List ℕ → Colour
  colours words v = tree_colour surfaces u (tree_of (named surfaces) words) v

  pub merged_of_one_shortest : (words out : List ℕ) → one_tree_refusal u surfaces words ≡ 0 →
      Shortest u (colours words) out (merged_of_one_answer u surfaces words out) (merged_of_one_buffer u surfaces words out)
  unfolding merged_of_one_answer merged_of_one_buffer merged_of_one
  merged_of_one_shortest words out z =
      let ok = (checks u surfaces words out z).0 in
      shortest u ok (colours words) out _ (tree_shortest u ok surfaces (tree_of (named surfaces) words)) _ z

  -- a voxel is black where both trees are at its centre
  pub merged_of_two_shortest : (first second out : List ℕ) → two_trees_refusal u surfaces first second ≡ 0 →
      Shortest u (λ v. intersection_colour (colours first v) (colours second v)) out
      (merged_of_two_answer u surfaces first second out) (merged_of_two_buffer u surfaces first second out)
  unfolding merged_of_two_answer merged_of_two_buffer merged_of_two
  merged_of_two_shortest first second out z =
      let ok = (accepts u surfaces first second z).0 in
      rw (← fun_ext (both_colour surfaces u (tree_of (named surfaces) first) (tree_of (named surfaces) second)))
      (shortest u ok _ out _ (tree_shortest u ok surfaces _) _ z)
