-- The merged shape is fixed by the colours of the voxels. Two merged shapes with the same colours have halves with the same colours, because every
-- voxel of a half is one of the block; so they are equal, unless one is a leaf and the other halved, whose halves are then two leaves of one colour.
use Prim.Native.Nat.{ℕ, zero, suc, ◌+◌, ◌*◌, ◌≤◌, ◌<◌}
use mathlib.Core.Path.{◌≡◌, refl, sym, ap, ap₂, ◌∙◌}
use mathlib.Core.Bool.{true, false}
use mathlib.Core.List.{List}
use native.Mathlib.Omega.{arith}
use native.Mathlib.Decide.{ℕ_discrete}
use lib.Dec.{eqb}
use borrow.Author.Tests.{eq-eqb, ne_eqb}
use Rattle.lemmas.specs.Grid.{count, listed}
use Rattle.lemmas.proofs.Grid.{listed_at}
use Rattle.universe.specs.declared.Universe.{Universe}
use Rattle.universe.specs.Universe.{most_axes, universe_refusal, levels, axis_at, block_side}
use Rattle.universe.specs.Voxel.{place_along, voxel_refusal, path_from}
use Rattle.universe.proofs.Universes.{Accepted, accepted, axis_below, side_positive, side_first, side_halved, side_kept}
use Rattle.universe.proofs.Voxel.{taken_voxel}
use Rattle.bintree.specs.declared.Colour.{Colour}
use Rattle.bintree.specs.Shape.{Shape, leaf, halved, symbol_of, depth}
use Rattle.bintree.specs.Merging.{merged, is_pair, is_merged}
use Rattle.bintree.specs.Parts.{part, colour_of, colour_at}
use Rattle.bintree.proofs.Shape.{depth_low, depth_high, halved_deep}
use Rattle.bintree.proofs.Reading.{read_is}
use Rattle.bintree.proofs.Merging.{apart, merged_is}
use Rattle.csg.specs.Surfaces.{Surfaces}
use Rattle.csg.specs.Tree.{Tree}
use Rattle.csg.specs.Raw.{raw}
use Rattle.demands.specs.Colours.{Shows}
use Rattle.demands.proofs.Grids.{Inside, moved, moved_same, moved_other}
use Rattle.demands.proofs.Voxels.{Apart, path_apart, low_half, high_half}
use Rattle.demands.proofs.Colours.{merged_raw_depth, merged_shows}

-- ---- the halves of a shape; those of a leaf are the leaf
low_part : Shape → Shape
low_part (leaf c) = leaf c
low_part (halved a b) = a

high_part : Shape → Shape
high_part (leaf c) = leaf c
high_part (halved a b) = b

-- a leaf is no merged halved shape with the leaf for both halves
leaf_apart : (c : Colour) (a b : Shape) → is_merged (halved a b) ≡ true → leaf c ≡ a → leaf c ≡ b → ⊥
unfolding is_pair
leaf_apart c a b m e f =
    let p : is_pair (leaf c) (leaf c) ≡ true = eq-eqb (symbol_of c) (symbol_of c) refl in
    let q : is_pair (leaf c) (leaf c) ≡ false = ap (λ x. is_pair x (leaf c)) e ∙ ap (λ x. is_pair a x) f ∙ (apart a b m).pair in
    let z : ◌≡◌ {A = ℕ} 0 1 = cc in
    omega arith

module _ (u : Universe) (accept : Accepted u) where
  some : 0 < u.axes
  some = accept.some_axes

  -- the voxel at a point, and its place along an axis
  voxel : (ℕ → ℕ) → List ℕ
  voxel p = listed most_axes p

  place : (p : ℕ → ℕ) (i : ℕ) → i < u.axes → place_along (voxel p) i ≡ p i
  unfolding voxel
  place p i h = listed_at most_axes p i (omega (arith, accept.few_axes))

  -- two shapes have the same colours at the voxels of a block of level l, by their places from its low corner
  Same : ℕ → ℕ → Shape → Shape → Type 0
  Same l n s t = (p : ℕ → ℕ) → Inside u.axes (block_side u l) p → colour_of (part s (path_from u (voxel p) l n)) ≡ colour_of (part t (path_from u (voxel p) l n))

  module _ (l n : ℕ) (e : l + suc n ≡ levels u) where
    abbrev axis : ℕ
    axis = axis_at u l

    abbrev half : ℕ
    half = block_side u (suc l) axis

    -- a voxel of the low half is one of the block, and its way goes on in the low part
    low_inside : (p : ℕ → ℕ) → Inside u.axes (block_side u (suc l)) p → Inside u.axes (block_side u l) p
    low_inside p w = record { below = λ i h. go i h (ℕ_discrete axis i); beyond = w.beyond }
      where
        go : (i : ℕ) → i < u.axes → Dec (axis ≡ i) → p i < block_side u l i
        go i h (yes f) = rw (← f) (omega (arith, w.below axis (axis_below u some l), side_halved u some l (omega arith)))
        go i h (no k) = rw (← (side_kept u l i k)) (w.below i h)

    low_way : (s : Shape) (p : ℕ → ℕ) → Inside u.axes (block_side u (suc l)) p →
        part s (path_from u (voxel p) l (suc n)) ≡ part (low_part s) (path_from u (voxel p) (suc l) n)
    unfolding path_from part low_part
    low_way (leaf c) p w = refl
    low_way (halved a b) p w =
        let h = axis_below u some l in
        rw (place p axis h, low_half (p axis) half (w.below axis h))

    -- as far along the axis from the middle on, one of the high half
    high_inside : (p : ℕ → ℕ) → Inside u.axes (block_side u (suc l)) p → Inside u.axes (block_side u l) (moved axis half p)
    high_inside p w = record {
      below = λ i h. go i h (ℕ_discrete axis i);
      beyond = λ i h. moved_other axis half i p (λ f. omega (arith, axis_below u some l)) ∙ w.beyond i h;
    }
      where
        go : (i : ℕ) → i < u.axes → Dec (axis ≡ i) → moved axis half p i < block_side u l i
        go i h (yes f) = rw (← f, moved_same axis half p) (omega (arith, w.below axis (axis_below u some l), side_halved u some l (omega arith)))
        go i h (no k) = rw (moved_other axis half i p k, ← (side_kept u l i k)) (w.below i h)

    high_apart : (p : ℕ → ℕ) → Apart u (suc l) (voxel (moved axis half p)) (voxel p)
    high_apart p = record { lengths = λ i. count (eqb axis i); place = λ i h. go i h (ℕ_discrete axis i) }
      where
        go : (i : ℕ) → i < u.axes → Dec (axis ≡ i) →
            place_along (voxel (moved axis half p)) i ≡ place_along (voxel p) i + count (eqb axis i) * block_side u (suc l) i
        go i h (yes f) =
            rw (← f, place (moved axis half p) axis (axis_below u some l), place p axis (axis_below u some l), moved_same axis half p, eq-eqb axis axis refl)
            (omega arith)
        go i h (no k) = rw (place (moved axis half p) i h, place p i h, moved_other axis half i p k, ne_eqb axis i k) (omega arith)

    high_way : (s : Shape) (p : ℕ → ℕ) → Inside u.axes (block_side u (suc l)) p →
        part s (path_from u (voxel (moved axis half p)) l (suc n)) ≡ part (high_part s) (path_from u (voxel p) (suc l) n)
    unfolding path_from part high_part
    high_way (leaf c) p w = refl
    high_way (halved a b) p w =
        let h = axis_below u some l in
        rw (place (moved axis half p) axis h, moved_same axis half p, high_half (p axis) half (w.below axis h))
        (ap (part b) (path_apart u some n (suc l) _ _ (omega arith) (high_apart p)))

    low_same : (s t : Shape) → Same l (suc n) s t → Same (suc l) n (low_part s) (low_part t)
    unfolding Same
    low_same s t q p w = ap colour_of (sym (low_way s p w)) ∙ q p (low_inside p w) ∙ ap colour_of (low_way t p w)

    high_same : (s t : Shape) → Same l (suc n) s t → Same (suc l) n (high_part s) (high_part t)
    unfolding Same
    high_same s t q p w = ap colour_of (sym (high_way s p w)) ∙ q (moved axis half p) (high_inside p w) ∙ ap colour_of (high_way t p w)

  -- ---- merged shapes with the same colours are equal
  origin : (l : ℕ) → Inside u.axes (block_side u l) (λ i. 0)
  origin l = record { below = λ i h. side_positive u l i; beyond = λ i h. refl }

  once : (n l : ℕ) → l + n ≡ levels u → (s t : Shape) → depth s ≤ n → depth t ≤ n → is_merged s ≡ true → is_merged t ≡ true → Same l n s t → s ≡ t
  unfolding Same part low_part high_part depth
  once n l e (leaf c) (leaf d) h k m o q = ap leaf (q (λ i. 0) (origin l))
  once zero l e (halved a b) t h k m o q = absurd (halved_deep a b h)
  once zero l e (leaf c) (halved a b) h k m o q = absurd (halved_deep a b k)
  once (suc n) l e (leaf c) (halved a b) h k m o q =
      absurd (leaf_apart c a b o
      (once n (suc l) (omega arith) (leaf c) a (omega arith) (depth_low a b n k) m (apart a b o).low (low_same l n e (leaf c) (halved a b) q))
      (once n (suc l) (omega arith) (leaf c) b (omega arith) (depth_high a b n k) m (apart a b o).high (high_same l n e (leaf c) (halved a b) q)))
  once (suc n) l e (halved a b) (leaf c) h k m o q =
      absurd (leaf_apart c a b m
      (sym (once n (suc l) (omega arith) a (leaf c) (depth_low a b n h) (omega arith) (apart a b m).low o (low_same l n e (halved a b) (leaf c) q)))
      (sym (once n (suc l) (omega arith) b (leaf c) (depth_high a b n h) (omega arith) (apart a b m).high o (high_same l n e (halved a b) (leaf c) q))))
  once (suc n) l e (halved a b) (halved c d) h k m o q =
      let x = apart a b m in
      let y = apart c d o in
      ap₂ halved
      (once n (suc l) (omega arith) a c (depth_low a b n h) (depth_low c d n k) x.low y.low (low_same l n e (halved a b) (halved c d) q))
      (once n (suc l) (omega arith) b d (depth_high a b n h) (depth_high c d n k) x.high y.high (high_same l n e (halved a b) (halved c d) q))

  -- ---- THEOREM: so are those that agree on the accepted voxels
  point_accepted : (p : ℕ → ℕ) → Inside u.axes (block_side u 0) p → voxel_refusal u (voxel p) ≡ 0
  unfolding voxel
  point_accepted p w =
      taken_voxel u (voxel p)
      (record { inside = λ i h. rw (place p i h, ← (side_first u i)) (w.below i h); above = λ i h k. listed_at most_axes p i k ∙ w.beyond i h })

  pub merged_once : (s t : Shape) → depth s ≤ levels u → depth t ≤ levels u → is_merged s ≡ true → is_merged t ≡ true →
      ((v : List ℕ) → voxel_refusal u v ≡ 0 → colour_at u s v ≡ colour_at u t v) → s ≡ t
  unfolding Same colour_at
  merged_once s t h k m o same = once (levels u) 0 (omega arith) s t h k m o (λ p w. same (voxel p) (point_accepted p w))

-- a tree's merged shape is the only merged one that shows the tree
pub merged_fixed : (u : Universe) → universe_refusal u ≡ 0 → (surfaces : Surfaces) (t : Tree) (s : Shape) →
    is_merged s ≡ true → Shows u surfaces t s → s ≡ merged (raw u surfaces t)
merged_fixed u e surfaces t s m w =
    merged_once u (accepted u e) s (merged (raw u surfaces t)) (read_is u _ s w.reads).1 (merged_raw_depth u e surfaces t) m (merged_is (raw u surfaces t))
    (λ v f. w.colours v f ∙ sym ((merged_shows u e surfaces t).colours v f))
