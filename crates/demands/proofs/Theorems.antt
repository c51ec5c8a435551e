-- What the definitions promise, in one place: each theorem is stated here and cited from the file that proves it. The universe is an accepted one;
-- surfaces and trees are any.
use Prim.Native.Nat.{ℕ}
use mathlib.Core.Path.{◌≡◌, refl, ◌∙◌}
use mathlib.Core.Bool.{true}
use mathlib.Core.List.{List}
use Rattle.universe.specs.declared.Universe.{Universe}
use Rattle.universe.specs.Universe.{universe_refusal}
use Rattle.universe.specs.Voxel.{window_refusal}
use Rattle.universe.proofs.Universes.{accepted}
use Rattle.bintree.specs.declared.Verdict.{Verdict}
use Rattle.bintree.specs.declared.Colour.TheVariants.{White}
use Rattle.bintree.specs.Shape.{Shape, leaf, symbols}
use Rattle.bintree.specs.Reading.{read, expression}
use Rattle.bintree.specs.Merging.{merged, is_merged, merged_symbols}
use Rattle.bintree.specs.Parts.{colour_at}
use Rattle.bintree.specs.Counts.{volume}
use Rattle.bintree.specs.Verdicts.{verdict}
use Rattle.bintree.proofs.Reading.{read_is}
use Rattle.csg.specs.Surfaces.{Surfaces}
use Rattle.csg.specs.Tree.{Tree, node, minus}
use Rattle.csg.specs.Marks.{intersection_colour, tree_colour}
use Rattle.csg.specs.Raw.{raw, both}
use Rattle.demands.specs.Room.{RoomSuffices}
use Rattle.demands.specs.Colours.{Shows, ColoursKept}
use Rattle.demands.specs.Reversal.{Opposite}
use Rattle.demands.specs.Voxels.{Colouring, black_voxels}
use Rattle.demands.specs.Verdicts.{Judges}
use Rattle.demands.specs.Shortest.{Has, Fewest}
use Rattle.demands.proofs.Room.{room_suffices}
use Rattle.demands.proofs.Colours.{raw_depth, merged_raw_depth, raw_shows, merged_shows, colours_kept, both_colour}
use Rattle.demands.proofs.Fixed.{merged_fixed}
use Rattle.demands.proofs.Shortest.{shape_fewest, merging_fewest}
use Rattle.demands.proofs.Reversal.{opposite, merged_white}
use Rattle.demands.proofs.Voxels.{volume_counts, volume_of_lem}
use Rattle.demands.proofs.Verdicts.{judges, verdict_once}

module _ (u : Universe) (e : universe_refusal u ≡ 0) where
  -- DEMAND 2: every voxel of the raw and of the merged shape has the colour of the whole tree at the voxel's centre, and what is written reads back
  pub demand_2 : (surfaces : Surfaces) (t : Tree) → ColoursKept u surfaces t
  demand_2 surfaces t = colours_kept u e surfaces t

  -- and the merged shape is the only merged one of which that holds
  pub merged_once : (surfaces : Surfaces) (t : Tree) (s : Shape) → is_merged s ≡ true → Shows u surfaces t s → s ≡ merged (raw u surfaces t)
  merged_once surfaces t s = merged_fixed u e surfaces t s

  -- NOTHING SHORTER SAYS IT: of all well-formed lists of symbols with given colours, the merging of any of them has the fewest symbols, and one with as few is
  -- that one, byte for byte; for the colours of a tree it is the merged expression
  pub merged_shortest : (colours : Colouring) (x : List ℕ) → Has u colours x → Fewest u colours (merged_symbols u x)
  merged_shortest colours x = merging_fewest u e colours x

  pub tree_shortest : (surfaces : Surfaces) (t : Tree) → Fewest u (tree_colour surfaces u t) (symbols (merged (raw u surfaces t)))
  tree_shortest surfaces t =
      shape_fewest u e (tree_colour surfaces u t) (raw u surfaces t) (raw_depth u e surfaces t) (raw_shows u e surfaces t).colours

  -- A TREE LESS ITSELF leaves nothing: its merged shape is one WHITE leaf
  pub minus_itself_lem : (surfaces : Surfaces) (t : Tree) → merged (raw u surfaces (node minus t t)) ≡ leaf White
  minus_itself_lem surfaces t = merged_white u surfaces t e

  -- DEMAND 3: the raw expression has a symbol for each block examined, and it and the merged one fit into the tree's room
  pub demand_3 : (surfaces : Surfaces) (t : Tree) → RoomSuffices u surfaces t
  demand_3 surfaces t = room_suffices u e surfaces t

  -- VOLUME: that of a well-formed expression is the number of voxels that are black in it; for a tree's raw and merged expressions these are the
  -- voxels at whose centre the tree is BLACK
  pub volume_of_expression : (written : List ℕ) (s : Shape) → expression u written ≡ read s → volume u s ≡ black_voxels u (colour_at u s)
  volume_of_expression written s r = volume_counts u (accepted u e) s (read_is u written s r).1

  pub volume_of_raw : (surfaces : Surfaces) (t : Tree) → volume u (raw u surfaces t) ≡ black_voxels u (tree_colour surfaces u t)
  volume_of_raw surfaces t =
      volume_of_lem u (accepted u e) (raw u surfaces t) (raw_depth u e surfaces t) (tree_colour surfaces u t) (raw_shows u e surfaces t).colours

  pub volume_of_merged : (surfaces : Surfaces) (t : Tree) → volume u (merged (raw u surfaces t)) ≡ black_voxels u (tree_colour surfaces u t)
  volume_of_merged surfaces t =
      volume_of_lem u (accepted u e) (merged (raw u surfaces t)) (merged_raw_depth u e surfaces t) (tree_colour surfaces u t) (merged_shows u e surfaces t).colours

  -- VERDICT: over an accepted window it is Clear exactly where no voxel of the window is black, and otherwise Hit with the least and the greatest
  -- frame of such a voxel and the number of them; of a well-formed expression, and of two trees, for which a voxel is black where both are BLACK
  pub verdict_of_expression : (written : List ℕ) (s : Shape) → expression u written ≡ read s →
      (first last : ℕ) → window_refusal u first last ≡ 0 → Judges u (colour_at u s) first last (verdict u s first last)
  verdict_of_expression written s r first last w = judges u (accepted u e) s (read_is u written s r).1 (colour_at u s) (λ v f. refl) first last w

  pub verdict_of_trees : (surfaces : Surfaces) (s t : Tree) (first last : ℕ) → window_refusal u first last ≡ 0 →
      Judges u (λ v. intersection_colour (tree_colour surfaces u s v) (tree_colour surfaces u t v)) first last (verdict u (raw u surfaces (both s t)) first last)
  verdict_of_trees surfaces s t first last w =
      judges u (accepted u e) (raw u surfaces (both s t)) (raw_depth u e surfaces (both s t)) _
      (λ v f. (raw_shows u e surfaces (both s t)).colours v f ∙ both_colour surfaces u s t v) first last w

-- and that fixes the verdict
pub one_verdict : (u : Universe) (colours : Colouring) (first last : ℕ) (x y : Verdict) → Judges u colours first last x → Judges u colours first last y → x ≡ y
one_verdict u colours first last x y = verdict_once x y

-- REVERSAL: that of every tree is decided exactly where the tree is, with the opposite colour, over every block and at every centre
pub reversal_opposite : (surfaces : Surfaces) (t : Tree) → Opposite surfaces t
reversal_opposite surfaces t = opposite surfaces t
