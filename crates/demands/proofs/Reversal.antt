-- A tree less itself: at every centre it is WHITE, since the tree's reversal has the opposite colour there; and the one merged shape that is WHITE everywhere
-- is one leaf.
use Prim.Native.Nat.{ℕ}
use mathlib.Core.Path.{◌≡◌, refl, sym}
use mathlib.Core.List.{List}
use native.Mathlib.Omega.{arith}
use Rattle.universe.specs.declared.Universe.{Universe}
use Rattle.universe.specs.Universe.{universe_refusal}
use Rattle.bintree.specs.declared.Colour.{Colour}
use Rattle.bintree.specs.declared.Colour.TheVariants.{White, Black}
use Rattle.bintree.specs.Shape.{leaf, depth}
use Rattle.bintree.specs.Merging.{merged, is_merged}
use Rattle.bintree.specs.Parts.{part, colour_at}
use Rattle.bintree.proofs.Reading.{reads_back}
use Rattle.csg.specs.Surfaces.{Surfaces}
use Rattle.csg.specs.Tree.{Tree, node, minus, plain}
use Rattle.csg.specs.Marks.{intersection_colour, opposite_colour, plain_colour, tree_colour}
use Rattle.csg.specs.Raw.{raw}
use Rattle.csg.proofs.Marks.{reversal_mark, reversal_colour}
use Rattle.demands.specs.Colours.{Shows}
use Rattle.demands.specs.Reversal.{Opposite}
use Rattle.demands.proofs.Fixed.{merged_fixed}

pub opposite : (surfaces : Surfaces) (t : Tree) → Opposite surfaces t
opposite surfaces t = record { over_blocks = reversal_mark surfaces t; at_centres = reversal_colour surfaces t }

less_itself_lem : (c : Colour) → intersection_colour c (opposite_colour c) ≡ White
unfolding intersection_colour
less_itself_lem Black = refl
less_itself_lem White = refl

module _ (u : Universe) (surfaces : Surfaces) (t : Tree) where
  minus_white : (v : List ℕ) → tree_colour surfaces u (node minus t t) v ≡ White
  unfolding plain plain_colour
  minus_white v = rw (reversal_colour surfaces t u v) (less_itself_lem (plain_colour surfaces u (plain t) v))

  shows_white : Shows u surfaces (node minus t t) (leaf White)
  unfolding colour_at part depth
  shows_white = record { colours = λ v f. sym (minus_white v); reads = reads_back u (leaf White) (omega arith) }

  pub merged_white : universe_refusal u ≡ 0 → merged (raw u surfaces (node minus t t)) ≡ leaf White
  unfolding is_merged
  merged_white e = sym (merged_fixed u e surfaces (node minus t t) (leaf White) refl shows_white)
