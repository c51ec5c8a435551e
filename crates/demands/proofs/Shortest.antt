-- The merged expression is the shortest with its colours. All shapes with the same colours have one merged shape (`merged_once`), and a shape is longer than
-- its merged one unless it is merged.
use Prim.Native.Nat.{ℕ, ◌≤◌}
use mathlib.Core.Path.{◌≡◌, sym, ap, ◌∙◌}
use mathlib.Core.List.{List}
use native.Mathlib.Omega.{arith}
use lib.ListN.{length}
use Rattle.universe.specs.declared.Universe.{Universe}
use Rattle.universe.specs.Universe.{universe_refusal, levels}
use Rattle.universe.specs.Voxel.{voxel_refusal}
use Rattle.universe.proofs.Universes.{accepted}
use Rattle.bintree.specs.Shape.{Shape, symbols, size, depth}
use Rattle.bintree.specs.Merging.{merged, merged_symbols}
use Rattle.bintree.specs.Parts.{colour_at}
use Rattle.bintree.proofs.Shape.{length_symbols}
use Rattle.bintree.proofs.Reading.{read_is, reads_back}
use Rattle.bintree.proofs.Merging.{merged_is, merged_colour, merged_size, merged_depth, as_long_merged}
use Rattle.demands.specs.Voxels.{Colouring}
use Rattle.demands.specs.Shortest.{Has, Fewest}
use Rattle.demands.proofs.Fixed.{merged_once}

module _ (u : Universe) (e : universe_refusal u ≡ 0) (colours : Colouring) where
  -- a shape with these colours
  module _ (a : Shape) (h : depth a ≤ levels u) (same : (v : List ℕ) → voxel_refusal u v ≡ 0 → colour_at u a v ≡ colours v) where
    merged_deep : depth (merged a) ≤ levels u
    merged_deep = omega (arith, merged_depth a)

    merged_same : (v : List ℕ) → voxel_refusal u v ≡ 0 → colour_at u (merged a) v ≡ colours v
    merged_same v f = merged_colour u a v h ∙ same v f

    merged_has : Has u colours (symbols (merged a))
    merged_has = record { shape = merged a; reads = reads_back u (merged a) merged_deep; shows = merged_same }

    module _ (y : List ℕ) (w : Has u colours y) where
      abbrev b : Shape
      b = w.shape

      y_is : symbols b ≡ y
      y_is = (read_is u y b w.reads).0

      y_long : length y ≡ size b
      y_long = ap length (sym y_is) ∙ length_symbols b

      one_merged : merged a ≡ merged b
      one_merged =
          let k = (read_is u y b w.reads).1 in
          merged_once u (accepted u e) (merged a) (merged b) merged_deep (omega (arith, merged_depth b)) (merged_is a) (merged_is b)
          (λ v f. merged_same v f ∙ sym (merged_colour u b v k ∙ w.shows v f))

      kept_long : length (symbols (merged a)) ≡ size (merged b)
      kept_long = length_symbols (merged a) ∙ ap size one_merged

      merged_no_longer : length (symbols (merged a)) ≤ length y
      merged_no_longer = omega (arith, y_long, kept_long, merged_size b)

      merged_only : length (symbols (merged a)) ≡ length y → symbols (merged a) ≡ y
      merged_only l = ap symbols (one_merged ∙ as_long_merged b (omega (arith, y_long, kept_long))) ∙ y_is

    pub shape_fewest : Fewest u colours (symbols (merged a))
    shape_fewest = record { itself = merged_has; no_longer = merged_no_longer; only = merged_only }

  -- THEOREM: the merging of a list of symbols is the shortest with its colours
  pub merging_fewest : (x : List ℕ) → Has u colours x → Fewest u colours (merged_symbols u x)
  merging_fewest x w = rw w.reads (shape_fewest w.shape (read_is u x w.shape w.reads).1 w.shows)
