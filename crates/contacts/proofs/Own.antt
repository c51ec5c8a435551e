-- A voxel's own block: the voxel lies in it, it is a part of every block that holds the voxel, and a block of level L that holds the voxel is as good as it.
use Prim.Native.Nat.{ℕ, ◌+◌, ◌≤◌, ◌<◌}
use mathlib.Core.Path.{◌≡◌, refl, sym, ap, ◌∙◌}
use mathlib.Core.List.{List}
use native.Mathlib.Omega.{arith}
use Rattle.universe.specs.declared.Universe.{Universe}
use Rattle.universe.specs.declared.Block.{Block}
use Rattle.universe.specs.Universe.{levels, block_side}
use Rattle.universe.specs.Block.{low_along, length_along, Given}
use Rattle.universe.specs.Voxel.{place_along, Within}
use Rattle.universe.proofs.Universes.{side_positive, side_last}
use Rattle.universe.proofs.Voxel.{at_last}
use Rattle.csg.specs.Halfspace.{Mark, decided, undecided}
use Rattle.csg.specs.Surfaces.{Surfaces}
use Rattle.csg.specs.Tree.{Tree, plain}
use Rattle.csg.specs.Marks.{tree_mark, tree_colour}
use Rattle.csg.proofs.Nested.{Nested}
use Rattle.csg.proofs.Marks.{tree_sound, tree_nested}
use Rattle.bintree.specs.declared.Colour.{Colour}
use Rattle.contacts.specs.Contacts.{block_of, settled}

pub own_within : (u : Universe) (v : List ℕ) → Within (block_of u v) v
own_within u v = record { above = λ i h. omega arith; below = λ i h. omega (arith, side_positive u (levels u) i) }

module _ (b : Block) (v : List ℕ) (w : Within b v) where
  pub own_nested : Nested (block_of b.universe v) b
  own_nested = record {
    axes = refl;
    above = w.above;
    below = λ i h. omega (arith, side_last b.universe i h, w.below i h);
  }

  -- a tree that is decided over the block is decided alike over the voxel's own
  pub own_decided : (surfaces : Surfaces) (t : Tree) (c : Colour) → tree_mark surfaces t b ≡ decided c →
      tree_mark surfaces t (block_of b.universe v) ≡ decided c
  own_decided surfaces t c e = (tree_nested surfaces (plain t) b (block_of b.universe v) own_nested).same c e

-- over a block of level L it is so with doubt too
module _ {b : Block} (g : Given b) (last : b.level ≡ levels b.universe) (v : List ℕ) (w : Within b v) where
  last_nested : Nested b (block_of b.universe v)
  last_nested = record {
    axes = refl;
    above = λ i h. omega (arith, at_last g last v w i h);
    below = λ i h. omega (arith, at_last g last v w i h, ap (λ (l : ℕ). block_side b.universe l i) last);
  }

  pub own_undecided : (surfaces : Surfaces) (t : Tree) → tree_mark surfaces t b ≡ undecided → tree_mark surfaces t (block_of b.universe v) ≡ undecided
  own_undecided surfaces t e = by (tree_mark surfaces t (block_of b.universe v)) refl
    where
      by : (m : Mark) → tree_mark surfaces t (block_of b.universe v) ≡ m → m ≡ undecided
      by undecided f = refl
      by (decided c) f =
          let d : tree_mark surfaces t b ≡ decided c = (tree_nested surfaces (plain t) (block_of b.universe v) b last_nested).same c f in
          let z : ◌≡◌ {A = ℕ} 0 1 = cc in
          absurd (omega arith)

-- the colour at the centre settles doubt as it is, since a decided mark has it
module _ (surfaces : Surfaces) (u : Universe) (t : Tree) where
  pub centre_settled : (v : List ℕ) → settled (tree_colour surfaces u t v) (tree_mark surfaces t (block_of u v)) ≡ tree_colour surfaces u t v
  centre_settled v = by (tree_mark surfaces t (block_of u v)) refl
    where
      by : (m : Mark) → tree_mark surfaces t (block_of u v) ≡ m → settled (tree_colour surfaces u t v) m ≡ tree_colour surfaces u t v
      by (decided c) e = sym (tree_sound surfaces (plain t) (block_of u v) c v e (own_within u v))
      by undecided e = refl
