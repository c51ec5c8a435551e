-- The tally of the whole universe's block is the three counts of the window's voxels, since both trees that are carried into it have the marks and the colours
-- of their intersection.
use Prim.Native.Nat.{ℕ}
use mathlib.Core.Path.{◌≡◌, ap, ap₂, ◌∙◌}
use mathlib.Core.Bool.{true, false}
use mathlib.Core.List.{List}
use lib.IntN.{ℤ}
use lib.ListN.{length, replicate}
use Rattle.universe.specs.declared.Universe.{Universe}
use Rattle.universe.specs.Universe.{most_axes, levels}
use Rattle.universe.specs.Questions.{levels_answer}
use Rattle.universe.specs.Block.{whole_block}
use Rattle.csg.specs.Surfaces.{Surfaces, named}
use Rattle.csg.specs.Tree.{Tree, Plain}
use Rattle.csg.specs.Words.{tree_of}
use Rattle.csg.specs.Marks.{tree_mark, tree_colour}
use Rattle.demands.specs.Voxels.{Colouring}
use Rattle.contacts.specs.Contacts.{block_of, settled, sure_colour, possible_colour, window_voxels}
use Rattle.convert.specs.Blocks.{block_left, whole_sides, trees_of}
use Rattle.pruned.specs.Left.{all_mark, all_colour}
use Rattle.pruned.specs.Nodes.{most_shapes}
use Rattle.pruned.proofs.Looked.{two_stand}
use Rattle.masks.specs.Block.{voxel_at}
use Rattle.masks.specs.Own.{doubt_of}
use Rattle.masks.specs.Seen.{seen_in}
use Rattle.masks.proofs.Block.{left_whole}
use Rattle.masks.proofs.Seen.{seen_agree, seen_whole}
use Rattle.at_once.specs.declared.answer.Contacts.{Contacts}
use Rattle.at_once.specs.Words.{Tabled}
use Rattle.at_once.specs.Own.{all_own}
use Rattle.at_once.specs.Tallies.{tally_from, tally_over}
use Rattle.at_once.specs.Whole.{most_codes, both_trees, BothLoaded, WholeReady}
use Rattle.at_once.specs.Contacts.{WholeTally}
use Rattle.at_once.proofs.Wholes.{both_job, block_is, whole_job, whole_is_of}

module _ {u : Universe} {surfaces : Surfaces} {words₁ words₂ : List ℕ} {from to : ℕ} (r : WholeReady u surfaces words₁ words₂ from to) where
  abbrev trees : List Plain
  trees = both_trees (named surfaces) words₁ words₂

  abbrev t : Tree
  t = trees_of surfaces words₁ words₂

  -- a colouring that is the trees' at every voxel
  seen_as : (c d : Colouring) → ((v : List ℕ) → c v ≡ d v) → seen_in from to c (whole_block u) ≡ window_voxels u d from to
  seen_as c d h =
      seen_agree from to (levels u) (whole_block u) (left_whole u r.scene.accepted_universe) c d (λ i. h (voxel_at (levels u) (whole_block u) i))
      ∙ seen_whole from to d u r.scene.accepted_universe r.window

  marks : (v : List ℕ) → all_mark surfaces trees (block_of u v) ≡ tree_mark surfaces t (block_of u v)
  marks v = (two_stand surfaces (tree_of (named surfaces) words₁) (tree_of (named surfaces) words₂)).marks (block_of u v)

  all_tally : {k : Contacts} → k ≡ tally_from from to surfaces u trees (whole_block u) → WholeTally u surfaces words₁ words₂ from to k
  unfolding all_own sure_colour possible_colour
  all_tally e = rw e (record {
    sure = seen_as (all_own false surfaces u trees) (sure_colour surfaces u t) (λ v. ap (settled (doubt_of false)) (marks v));
    centre = seen_as (all_colour surfaces u trees) (tree_colour surfaces u t)
        (λ v. (two_stand surfaces (tree_of (named surfaces) words₁) (tree_of (named surfaces) words₂)).colours u v);
    possible = seen_as (all_own true surfaces u trees) (possible_colour surfaces u t) (λ v. ap (settled (doubt_of true)) (marks v));
  })

  pub whole_tally : {left : ℕ} (l : left ≡ levels_answer u) {table lengths side codes codes₁ starts starts₁ : List ℕ} {values₁ : List ℤ}
      (long : length codes ≡ most_codes) (shelf : length starts ≡ most_shapes) (tabled : Tabled u table lengths) (sides : side ≡ whole_sides u)
      (loaded : BothLoaded {codes = codes} {starts = starts} (both_job r {codes = codes} {starts = starts} long shelf) codes₁ starts₁ values₁) {k : Contacts} →
      k ≡ tally_over from to (whole_job r l long shelf tabled sides loaded) → WholeTally u surfaces words₁ words₂ from to k
  whole_tally {left} l long shelf tabled sides loaded e =
      let is = whole_is_of r l long shelf tabled sides loaded in
      all_tally
      (e
      ∙ ap₂ (λ (x : Universe) (ps : List Plain). tally_from from to surfaces x ps (block_left x left (replicate most_axes 0))) is.0 is.1
      ∙ ap (tally_from from to surfaces u trees) (block_is r l))
