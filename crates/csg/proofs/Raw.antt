-- The raw expression: what the rule writes for a block is no deeper than the levels left, and has one symbol for each block that it examines.
-- Both by induction on the levels left, the block's mark decided or not.
use Prim.Native.Nat.{ℕ, zero, suc, ◌+◌, ◌≤◌}
use mathlib.Core.Path.{◌≡◌, refl}
use native.Mathlib.Omega.{arith}
use lib.ListN.{length, length-append}
use Rattle.universe.specs.declared.Block.{Block}
use Rattle.universe.specs.Block.{low, high}
use Rattle.bintree.specs.declared.Colour.{Colour}
use Rattle.bintree.specs.Shape.{leaf, halved, symbols, depth}
use Rattle.csg.specs.Halfspace.{Mark, decided, undecided}
use Rattle.csg.specs.Surfaces.{Surfaces}
use Rattle.csg.specs.Tree.{Tree}
use Rattle.csg.specs.Marks.{tree_mark, tree_colour}
use Rattle.csg.specs.Raw.{examine, examined}

module _ (surfaces : Surfaces) (t : Tree) where
  -- a decided block is one symbol
  pub examine_decided : (n : ℕ) (b : Block) (c : Colour) → tree_mark surfaces t b ≡ decided c → examine surfaces t n b ≡ leaf c
  unfolding examine
  examine_decided zero b c e = rw (examine, e)
  examine_decided (suc n) b c e = rw (examine, e)

  -- an undecided one is halved, but at the last level, where it has the colour at its centre
  pub examine_undecided : (n : ℕ) (b : Block) → tree_mark surfaces t b ≡ undecided →
      examine surfaces t (suc n) b ≡ halved (examine surfaces t n (low b)) (examine surfaces t n (high b))
  unfolding examine
  examine_undecided n b e = rw (examine, e)

  pub examine_voxel : (b : Block) → tree_mark surfaces t b ≡ undecided → examine surfaces t 0 b ≡ leaf (tree_colour surfaces b.universe t b.low)
  unfolding examine
  examine_voxel b e = rw (examine, e)

  -- with no levels left there is one symbol
  pub one_symbol : (b : Block) → (c : Colour) × (examine surfaces t 0 b ≡ leaf c)
  unfolding examine
  one_symbol b = by (tree_mark surfaces t b)
    where
      by : (m : Mark) → (c : Colour) × (elim m [ decided c ↦ leaf c | undecided ↦ leaf (tree_colour surfaces b.universe t b.low) ] ≡ leaf c)
      by (decided c) = (c, refl)
      by undecided = (tree_colour surfaces b.universe t b.low, refl)

  pub examine_depth : (n : ℕ) (b : Block) → depth (examine surfaces t n b) ≤ n
  unfolding examine depth
  examine_depth zero b = rw (one_symbol b).1 (omega arith)
  examine_depth (suc n) b = by (tree_mark surfaces t b) (examine_depth n (low b)) (examine_depth n (high b))
    where
      by : (m : Mark) → depth (examine surfaces t n (low b)) ≤ n → depth (examine surfaces t n (high b)) ≤ n →
          depth (elim m [ decided c ↦ leaf c | undecided ↦ halved (examine surfaces t n (low b)) (examine surfaces t n (high b)) ]) ≤ suc n
      by (decided c) f g = omega arith
      by undecided f g = omega arith

  pub raw_length : (n : ℕ) (b : Block) → length (symbols (examine surfaces t n b)) ≡ examined surfaces t n b
  unfolding examine examined symbols
  raw_length zero b = rw (one_symbol b).1
  raw_length (suc n) b = by (tree_mark surfaces t b) (raw_length n (low b)) (raw_length n (high b))
    where
      by : (m : Mark) →
          length (symbols (examine surfaces t n (low b))) ≡ examined surfaces t n (low b) →
          length (symbols (examine surfaces t n (high b))) ≡ examined surfaces t n (high b) →
          length (symbols (elim m [ decided c ↦ leaf c | undecided ↦ halved (examine surfaces t n (low b)) (examine surfaces t n (high b)) ]))
          ≡ elim m [ decided c ↦ 1 | undecided ↦ suc (examined surfaces t n (low b) + examined surfaces t n (high b)) ]
      by (decided c) f g = refl
      by undecided f g = omega (arith, length-append (symbols (examine surfaces t n (low b))) (symbols (examine surfaces t n (high b))))
