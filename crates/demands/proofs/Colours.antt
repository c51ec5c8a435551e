-- Demand 2: every voxel has its tree's colour. By induction on the levels left, for a voxel that lies in the block: a decided block has the colour of
-- all its centres; an undecided one is halved, and the voxel lies in the half that its path names next; at the last level the block is the voxel.
use Prim.Native.Nat.{ℕ, zero, suc, ◌+◌, ◌≤◌, ◌<◌}
use mathlib.Core.Path.{◌≡◌, refl, sym, ap, ◌∙◌}
use mathlib.Core.Logic.{◌⊎◌, inl, inr}
use mathlib.Core.List.{List}
use native.Mathlib.Omega.{arith}
use Rattle.universe.specs.declared.Universe.{Universe}
use Rattle.universe.specs.declared.Block.{Block}
use Rattle.universe.specs.Universe.{universe_refusal, levels}
use Rattle.universe.specs.Block.{whole_block, axis_of, low, high, Given, first, lower, upper}
use Rattle.universe.specs.Voxel.{place_along, voxel_refusal, Within, half_at, path_from}
use Rattle.universe.proofs.Universes.{accepted}
use Rattle.universe.proofs.Voxel.{whole_holds, half_bit, within_low, within_high, at_last}
use Rattle.bintree.specs.declared.Colour.{Colour}
use Rattle.bintree.specs.Shape.{leaf, depth}
use Rattle.bintree.specs.Merging.{merged}
use Rattle.bintree.specs.Parts.{part, colour_of, colour_at}
use Rattle.bintree.proofs.Reading.{reads_back}
use Rattle.bintree.proofs.Parts.{part_leaf, part_low, part_high}
use Rattle.bintree.proofs.Merging.{merged_colour, merged_depth}
use Rattle.csg.specs.Halfspace.{Mark, decided, undecided}
use Rattle.csg.specs.Surfaces.{Surfaces}
use Rattle.csg.specs.Tree.{Tree, plain}
use Rattle.csg.specs.Marks.{intersection_colour, plain_colour, tree_mark, tree_colour}
use Rattle.csg.specs.Raw.{examine, raw, both}
use Rattle.csg.proofs.Marks.{tree_sound, tree_places}
use Rattle.csg.proofs.Raw.{examine_decided, examine_undecided, examine_voxel, examine_depth}
use Rattle.demands.specs.Colours.{Shows, ColoursKept}

-- ---- what the rule writes for a block, at a voxel of the block
module _ (surfaces : Surfaces) (t : Tree) where
  -- the part at the end of the voxel's path from the block on is the tree's colour there
  Coloured : ℕ → Block → List ℕ → Type 0
  Coloured n b v = part (examine surfaces t n b) (path_from b.universe v b.level n) ≡ leaf (tree_colour surfaces b.universe t v)

  module _ {b : Block} (g : Given b) (v : List ℕ) (w : Within b v) where
    decided_block : (n : ℕ) (c : Colour) → tree_mark surfaces t b ≡ decided c → Coloured n b v
    unfolding Coloured
    decided_block n c m =
        rw (examine_decided surfaces t n b c m, part_leaf c (path_from b.universe v b.level n))
        (ap leaf (sym (tree_sound surfaces (plain t) b c v m w)))

    voxel_block : b.level ≡ levels b.universe → tree_mark surfaces t b ≡ undecided → Coloured 0 b v
    unfolding Coloured
    voxel_block e m =
        rw (examine_voxel surfaces t b m, part_leaf (tree_colour surfaces b.universe t b.low) (path_from b.universe v b.level 0))
        (ap leaf (sym (tree_places surfaces b.universe (plain t) v b.low (at_last g e v w))))

    halved_block : (n : ℕ) → b.level < levels b.universe → tree_mark surfaces t b ≡ undecided →
        (Within (low b) v → Coloured n (low b) v) → (Within (high b) v → Coloured n (high b) v) → Coloured (suc n) b v
    unfolding Coloured path_from
    halved_block n h m x y = go (half_bit b.universe b.level (place_along v (axis_of b)))
      where
        go : (half_at b.universe b.level (place_along v (axis_of b)) ≡ 0) ⊎ (half_at b.universe b.level (place_along v (axis_of b)) ≡ 1) →
            part (examine surfaces t (suc n) b) (path_from b.universe v b.level (suc n)) ≡ leaf (tree_colour surfaces b.universe t v)
        go (inl q) = rw (examine_undecided surfaces t n b m, q) (part_low _ _ _ ∙ x (within_low g h v w q))
        go (inr q) = rw (examine_undecided surfaces t n b m, q) (part_high _ _ _ ∙ y (within_high g h v w q))

  coloured : (n : ℕ) {b : Block} → Given b → b.level + n ≡ levels b.universe → (v : List ℕ) → Within b v → Coloured n b v
  coloured zero {b} g e v w = go (tree_mark surfaces t b) refl
    where
      go : (m : Mark) → tree_mark surfaces t b ≡ m → Coloured 0 b v
      go (decided c) m = decided_block g v w 0 c m
      go undecided m = voxel_block g v w (omega arith) m
  coloured (suc n) {b} g e v w =
      go (tree_mark surfaces t b) refl (coloured n (lower b g (omega arith)) (omega arith) v) (coloured n (upper b g (omega arith)) (omega arith) v)
    where
      go : (m : Mark) → tree_mark surfaces t b ≡ m →
          (Within (low b) v → Coloured n (low b) v) → (Within (high b) v → Coloured n (high b) v) → Coloured (suc n) b v
      go (decided c) m x y = decided_block g v w (suc n) c m
      go undecided m x y = halved_block g v w n (omega arith) m x y

-- ---- the demand
module _ (u : Universe) (e : universe_refusal u ≡ 0) (surfaces : Surfaces) (t : Tree) where
  pub raw_depth : depth (raw u surfaces t) ≤ levels u
  raw_depth = examine_depth surfaces t (levels u) (whole_block u)

  pub raw_colour : (v : List ℕ) → voxel_refusal u v ≡ 0 → colour_at u (raw u surfaces t) v ≡ tree_colour surfaces u t v
  unfolding colour_at Coloured
  raw_colour v f = ap colour_of (coloured surfaces t (levels u) (first u e) (omega arith) v (whole_holds u v (accepted u e) f))

  pub raw_shows : Shows u surfaces t (raw u surfaces t)
  raw_shows = record { colours = raw_colour; reads = reads_back u (raw u surfaces t) raw_depth }

  pub merged_raw_depth : depth (merged (raw u surfaces t)) ≤ levels u
  merged_raw_depth = omega (arith, merged_depth (raw u surfaces t), raw_depth)

  pub merged_shows : Shows u surfaces t (merged (raw u surfaces t))
  merged_shows = record {
    colours = λ v f. merged_colour u (raw u surfaces t) v raw_depth ∙ raw_colour v f;
    reads = reads_back u (merged (raw u surfaces t)) merged_raw_depth;
  }

  pub colours_kept : ColoursKept u surfaces t
  colours_kept = record { raw_shows = raw_shows; merged_shows = merged_shows }

-- at a centre the intersection of two trees has the colour that their two colours give
pub both_colour : (surfaces : Surfaces) (u : Universe) (s t : Tree) (v : List ℕ) →
    tree_colour surfaces u (both s t) v ≡ intersection_colour (tree_colour surfaces u s v) (tree_colour surfaces u t v)
unfolding plain plain_colour
both_colour surfaces u s t v = refl
