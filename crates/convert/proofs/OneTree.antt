-- One tree is that tree intersected with BLACK: BLACK changes no mark, no colour and so nothing that is written, and is never refused.
use Prim.Native.Nat.{ℕ, zero, suc}
use mathlib.Core.Path.{◌≡◌, refl, sym, ap, ap₂, ◌∙◌}
use mathlib.Core.Bool.{true, false}
use mathlib.Core.List.{List, [], ◌∷◌}
use Rattle.universe.specs.declared.Universe.{Universe}
use Rattle.universe.specs.declared.Block.{Block}
use Rattle.universe.specs.Universe.{levels}
use Rattle.universe.specs.Block.{whole_block, low, high}
use Rattle.bintree.specs.declared.Colour.{Colour}
use Rattle.bintree.specs.declared.Colour.TheVariants.{White, Black}
use Rattle.bintree.specs.Told.{WrittenAnswer}
use Rattle.bintree.specs.Shape.{Shape, halved, symbols}
use Rattle.bintree.specs.Merging.{merged}
use Rattle.csg.specs.Halfspace.{Mark, decided, undecided}
use Rattle.csg.specs.Surfaces.{Surfaces, Named, named}
use Rattle.csg.specs.Tree.{Tree, leaf, black, plain}
use Rattle.csg.specs.Words.{meaning, step, finish, run, parse, tree_refusal, tree_of}
use Rattle.csg.specs.Marks.{intersection_mark, intersection_colour, plain_mark, plain_colour, tree_mark, tree_colour}
use Rattle.csg.specs.Raw.{both, examine, raw}
use Rattle.csg.proofs.Raw.{examine_decided, examine_undecided, examine_voxel}
use Rattle.convert.specs.Blocks.{trees_of}
use Rattle.convert.specs.Shapes.{shaped}
use Rattle.convert.specs.Answers.{one_tree_checks, one_tree_refusal, two_trees_checks, two_trees_refusal, raw_of_one, merged_of_one, written_of_two}
use Rattle.convert.specs.Answers.{raw_of_one_answer, raw_of_one_buffer, merged_of_one_answer, merged_of_one_buffer}
use Rattle.convert.proofs.Answers.{Ends}

-- BLACK as a list of words
abbrev black_words : List ℕ
black_words = 1 ∷ []

black_tree : (names : Named) → tree_of names black_words ≡ leaf black
unfolding tree_of parse run step finish meaning
black_tree names = refl

black_accepted : (names : Named) → tree_refusal names black_words ≡ 0
unfolding tree_refusal parse run step finish meaning
black_accepted names = refl

with_black : (m : Mark) → intersection_mark m (decided Black) ≡ m
unfolding intersection_mark
with_black (decided Black) = refl
with_black (decided White) = refl
with_black undecided = refl

colour_black : (c : Colour) → intersection_colour c Black ≡ c
unfolding intersection_colour
colour_black Black = refl
colour_black White = refl

module _ (surfaces : Surfaces) (t : Tree) where
  mark_same : (b : Block) → tree_mark surfaces (both t (leaf black)) b ≡ tree_mark surfaces t b
  unfolding plain plain_mark
  mark_same b = with_black (plain_mark surfaces (plain t) b)

  colour_same : (u : Universe) (v : List ℕ) → tree_colour surfaces u (both t (leaf black)) v ≡ tree_colour surfaces u t v
  unfolding plain plain_colour
  colour_same u v = colour_black (plain_colour surfaces u (plain t) v)

  abbrev Same : ℕ → Block → Type 0
  Same n b = examine surfaces (both t (leaf black)) n b ≡ examine surfaces t n b

  decided_same : (n : ℕ) (b : Block) (c : Colour) → tree_mark surfaces t b ≡ decided c → Same n b
  decided_same n b c e = examine_decided surfaces (both t (leaf black)) n b c (mark_same b ∙ e) ∙ sym (examine_decided surfaces t n b c e)

  examine_same : (n : ℕ) (b : Block) → Same n b
  examine_same zero b = by (tree_mark surfaces t b) refl
    where
      by : (m : Mark) → tree_mark surfaces t b ≡ m → Same 0 b
      by (decided c) e = decided_same 0 b c e
      by undecided e =
          examine_voxel surfaces (both t (leaf black)) b (mark_same b ∙ e)
          ∙ ap Shape.leaf (colour_same b.universe b.low)
          ∙ sym (examine_voxel surfaces t b e)
  examine_same (suc n) b = by (examine_same n (low b)) (examine_same n (high b)) (tree_mark surfaces t b) refl
    where
      by : Same n (low b) → Same n (high b) → (m : Mark) → tree_mark surfaces t b ≡ m → Same (suc n) b
      by l h (decided c) e = decided_same (suc n) b c e
      by l h undecided e =
          examine_undecided surfaces (both t (leaf black)) n b (mark_same b ∙ e) ∙ ap₂ halved l h ∙ sym (examine_undecided surfaces t n b e)

module _ (u : Universe) (surfaces : Surfaces) (words : List ℕ) where
  refusal_same : two_trees_refusal u surfaces words black_words ≡ one_tree_refusal u surfaces words
  unfolding two_trees_checks one_tree_checks
  refusal_same = rw (black_accepted (named surfaces))

  raw_same : raw u surfaces (trees_of surfaces words black_words) ≡ raw u surfaces (tree_of (named surfaces) words)
  raw_same = rw (black_tree (named surfaces)) (examine_same surfaces (tree_of (named surfaces) words) (levels u) (whole_block u))

  raw_written : written_of_two false u surfaces words black_words ≡ raw_of_one u surfaces words
  unfolding written_of_two raw_of_one shaped
  raw_written = ap symbols raw_same

  merged_written : written_of_two true u surfaces words black_words ≡ merged_of_one u surfaces words
  unfolding written_of_two merged_of_one shaped
  merged_written = ap (λ s. symbols (merged s)) raw_same

  -- the answer and the room of two trees, the second of which is BLACK, are those of one
  module _ (out : List ℕ) {r : WrittenAnswer} {now : List ℕ} where
    pub raw_ends : Ends out (written_of_two false u surfaces words black_words) (two_trees_refusal u surfaces words black_words) r now →
        (r ≡ raw_of_one_answer u surfaces words out) × (now ≡ raw_of_one_buffer u surfaces words out)
    unfolding raw_of_one_answer raw_of_one_buffer
    raw_ends e = rw (refusal_same, raw_written) at e

    pub merged_ends : Ends out (written_of_two true u surfaces words black_words) (two_trees_refusal u surfaces words black_words) r now →
        (r ≡ merged_of_one_answer u surfaces words out) × (now ≡ merged_of_one_buffer u surfaces words out)
    unfolding merged_of_one_answer merged_of_one_buffer
    merged_ends e = rw (refusal_same, merged_written) at e
