-- A painted shape shows, at each voxel, the mark over the voxel's own block, doubt settled by the paint. By induction on the levels left, as for demand 2: a
-- block that is decided is decided alike over the own blocks of its voxels, and at the last level the block is the voxel's own.
use Prim.Native.Nat.{ℕ, zero, suc, ◌+◌, ◌≤◌, ◌<◌}
use mathlib.Core.Path.{◌≡◌, refl, sym, ap, ap₂, ◌∙◌}
use mathlib.Core.Logic.{◌⊎◌, inl, inr}
use mathlib.Core.List.{List}
use native.Mathlib.Omega.{arith}
use Rattle.universe.specs.declared.Universe.{Universe}
use Rattle.universe.specs.declared.Block.{Block}
use Rattle.universe.specs.Universe.{universe_refusal, levels}
use Rattle.universe.specs.Block.{whole_block, axis_of, low, high, Given, first, lower, upper}
use Rattle.universe.specs.Voxel.{place_along, voxel_refusal, Within, half_at, path_from}
use Rattle.universe.proofs.Universes.{accepted}
use Rattle.universe.proofs.Voxel.{whole_holds, half_bit, within_low, within_high, at_last}
use Rattle.bintree.specs.declared.Colour.{Colour}
use Rattle.bintree.specs.Shape.{Shape, leaf, halved, depth}
use Rattle.bintree.specs.Parts.{part, colour_of, colour_at}
use Rattle.bintree.proofs.Parts.{part_leaf, part_low, part_high}
use Rattle.csg.specs.Halfspace.{Mark, decided, undecided}
use Rattle.csg.specs.Surfaces.{Surfaces}
use Rattle.csg.specs.Tree.{Tree}
use Rattle.csg.specs.Marks.{tree_mark}
use Rattle.demands.specs.Voxels.{Colouring}
use Rattle.contacts.specs.Contacts.{block_of, settled}
use Rattle.contacts.specs.Painting.{painted, ByPlaces}
use Rattle.contacts.proofs.Own.{own_decided, own_undecided}

module _ (paint : Colouring) (surfaces : Surfaces) (t : Tree) where
  -- a decided block is one leaf, an undecided one above level L is halved, and at level L it is one leaf
  pub painted_decided : (n : ℕ) (b : Block) (c : Colour) → tree_mark surfaces t b ≡ decided c → painted paint surfaces t n b ≡ leaf c
  unfolding painted
  painted_decided zero b c e = rw (painted, e)
  painted_decided (suc n) b c e = rw (painted, e)

  pub painted_undecided : (n : ℕ) (b : Block) → tree_mark surfaces t b ≡ undecided →
      painted paint surfaces t (suc n) b ≡ halved (painted paint surfaces t n (low b)) (painted paint surfaces t n (high b))
  unfolding painted
  painted_undecided n b e = rw (painted, e)

  pub painted_voxel : (b : Block) → painted paint surfaces t 0 b ≡ leaf (settled (paint b.low) (tree_mark surfaces t b))
  unfolding painted
  painted_voxel b = refl

  pub painted_depth : (n : ℕ) (b : Block) → depth (painted paint surfaces t n b) ≤ n
  unfolding painted depth
  painted_depth zero b = omega arith
  painted_depth (suc n) b = by (tree_mark surfaces t b) (painted_depth n (low b)) (painted_depth n (high b))
    where
      by : (m : Mark) → depth (painted paint surfaces t n (low b)) ≤ n → depth (painted paint surfaces t n (high b)) ≤ n →
          depth (elim m [ decided c ↦ leaf c | undecided ↦ halved (painted paint surfaces t n (low b)) (painted paint surfaces t n (high b)) ]) ≤ suc n
      by (decided c) f g = omega arith
      by undecided f g = omega arith

  -- what is shown of a block at a voxel in it
  Shown : ℕ → Block → List ℕ → Type 0
  Shown n b v =
      part (painted paint surfaces t n b) (path_from b.universe v b.level n) ≡ leaf (settled (paint v) (tree_mark surfaces t (block_of b.universe v)))

  module _ {b : Block} (g : Given b) (v : List ℕ) (w : Within b v) where
    decided_block : (n : ℕ) (c : Colour) → tree_mark surfaces t b ≡ decided c → Shown n b v
    unfolding Shown
    decided_block n c m =
        rw (painted_decided n b c m, part_leaf c (path_from b.universe v b.level n), own_decided b v w surfaces t c m)

    voxel_block : ByPlaces b.universe paint → b.level ≡ levels b.universe → tree_mark surfaces t b ≡ undecided → Shown 0 b v
    unfolding Shown
    voxel_block places e m =
        rw (painted_voxel b, m, part_leaf (paint b.low) (path_from b.universe v b.level 0), own_undecided g e v w surfaces t m)
        (ap leaf (sym (places.same v b.low (at_last g e v w))))

    halved_block : (n : ℕ) → b.level < levels b.universe → tree_mark surfaces t b ≡ undecided →
        (Within (low b) v → Shown n (low b) v) → (Within (high b) v → Shown n (high b) v) → Shown (suc n) b v
    unfolding Shown path_from
    halved_block n h m x y = go (half_bit b.universe b.level (place_along v (axis_of b)))
      where
        go : (half_at b.universe b.level (place_along v (axis_of b)) ≡ 0) ⊎ (half_at b.universe b.level (place_along v (axis_of b)) ≡ 1) →
            part (painted paint surfaces t (suc n) b) (path_from b.universe v b.level (suc n))
            ≡ leaf (settled (paint v) (tree_mark surfaces t (block_of b.universe v)))
        go (inl q) = rw (painted_undecided n b m, q) (part_low _ _ _ ∙ x (within_low g h v w q))
        go (inr q) = rw (painted_undecided n b m, q) (part_high _ _ _ ∙ y (within_high g h v w q))

  shown : (n : ℕ) {b : Block} → ByPlaces b.universe paint → Given b → b.level + n ≡ levels b.universe → (v : List ℕ) → Within b v → Shown n b v
  shown zero {b} places g e v w = go (tree_mark surfaces t b) refl
    where
      go : (m : Mark) → tree_mark surfaces t b ≡ m → Shown 0 b v
      go (decided c) m = decided_block g v w 0 c m
      go undecided m = voxel_block g v w places (omega arith) m
  shown (suc n) {b} places g e v w =
      go (tree_mark surfaces t b) refl
      (shown n places (lower b g (omega arith)) (omega arith) v)
      (shown n places (upper b g (omega arith)) (omega arith) v)
    where
      go : (m : Mark) → tree_mark surfaces t b ≡ m → (Within (low b) v → Shown n (low b) v) → (Within (high b) v → Shown n (high b) v) → Shown (suc n) b v
      go (decided c) m x y = decided_block g v w (suc n) c m
      go undecided m x y = halved_block g v w n (omega arith) m x y

  -- THEOREM: the whole universe's painted shape, at every voxel
  pub painted_colour : (u : Universe) → universe_refusal u ≡ 0 → ByPlaces u paint → (v : List ℕ) → voxel_refusal u v ≡ 0 →
      colour_at u (painted paint surfaces t (levels u) (whole_block u)) v ≡ settled (paint v) (tree_mark surfaces t (block_of u v))
  unfolding colour_at Shown
  painted_colour u e places v f =
      ap colour_of (shown (levels u) places (first u e) (omega arith) v (whole_holds u v (accepted u e) f))
