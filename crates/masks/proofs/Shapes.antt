-- The merged shape of a block is that of its mask. A mask is all 0, or all 1, exactly where both its halves are, so the shape of a mask is its halves'
-- shapes joined, as merging joins them; and a block that a tree decides has one colour at all its centres.
use mathlib.Core.Path.{◌≡◌, refl, sym, ap, ap₂, ◌∙◌}
use mathlib.Core.Bool.{Bool, true, false, cond}
use mathlib.Core.List.{List}
use Prim.Native.Nat.{ℕ, zero, suc, ◌+◌, ◌-◌, ◌*◌, ◌/◌, ◌%◌, ◌^◌, ◌≤◌, ◌<◌}
use native.Mathlib.Omega.{arith}
use native.Mathlib.Nat.{pow-suc}
use lib.Dec.{eqb}
use lib.Pow.{pow_pos, pow_mono, high, low, ones_split, ones_lt}
use borrow.Author.Tests.{eqb-true, eqb-false}
use Rattle.lemmas.specs.Grid.{count}
use Rattle.universe.specs.declared.Block.{Block}
use Rattle.universe.specs.Block as blocks
use Rattle.universe.specs.Voxel.{Within}
use Rattle.bintree.specs.declared.Colour.{Colour}
use Rattle.bintree.specs.declared.Colour.TheVariants.{White, Black}
use Rattle.bintree.specs.Shape.{Shape, leaf, halved}
use Rattle.bintree.specs.Merging.{join, merged}
use Rattle.bintree.proofs.Merging.{join_leaves}
use Rattle.csg.specs.Halfspace.{Mark, decided, undecided}
use Rattle.csg.specs.Surfaces.{Surfaces}
use Rattle.csg.specs.Tree.{Tree, plain}
use Rattle.csg.specs.Marks.{tree_mark, tree_colour}
use Rattle.csg.specs.Raw.{examine, both}
use Rattle.csg.proofs.Marks.{tree_sound}
use Rattle.csg.proofs.Raw.{examine_decided, examine_undecided, examine_voxel}
use Rattle.demands.specs.Voxels.{Colouring, is_black}
use Rattle.masks.specs.Mask.{all_ones}
use Rattle.masks.specs.Block.{block_mask}
use Rattle.masks.specs.Trees.{tree_mask}
use Rattle.masks.specs.Shapes.{voxel_shape, mask_shape}
use Rattle.masks.proofs.Block.{Left, left_above, left_low, left_high, within_half, own_corner, mask_voxel, mask_halves, mask_fits}
use Rattle.masks.proofs.Trees.{tree_mask_lem}

-- ---- the shape of a mask by those of its halves

-- what a shape tells of its mask, of which there are p
data Told (p m : ℕ) : Shape → Type 0 where
  white : m ≡ 0 → Told p m (leaf White)
  black : m + 1 ≡ p → Told p m (leaf Black)
  mixed : {s t : Shape} → 0 < m → m + 1 < p → Told p m (halved s t)

two_masks : (n : ℕ) → 2 ≤ 2 ^ 2 ^ n
two_masks n = pow_mono {i = 1} (pow_pos n)

told : (n m : ℕ) → m < 2 ^ 2 ^ n → Told (2 ^ 2 ^ n) m (mask_shape n m)
unfolding mask_shape
told zero m l = go (eqb m 0) refl
  where
    go : (z : Bool) → eqb m 0 ≡ z → Told 2 m (cond z (leaf White) (leaf Black))
    go true e = white (eqb-true m 0 e)
    go false e = black (omega (arith, eqb-false m 0 e))
told (suc n) m l = go (eqb m 0) (eqb m (all_ones (2 ^ suc n))) refl refl
  where
    go : (z o : Bool) → eqb m 0 ≡ z → eqb m (all_ones (2 ^ suc n)) ≡ o →
        Told (2 ^ 2 ^ suc n) m (cond z (leaf White) (cond o (leaf Black) (halved (mask_shape n (m % 2 ^ 2 ^ n)) (mask_shape n (m / 2 ^ 2 ^ n)))))
    go true o e f = white (eqb-true m 0 e)
    go false true e f = black (omega (arith, eqb-true m (all_ones (2 ^ suc n)) f, two_masks (suc n)))
    go false false e f = mixed (omega (arith, eqb-false m 0 e)) (omega (arith, eqb-false m (all_ones (2 ^ suc n)) f))

-- both halves and the whole: `z` says that all digits are 0, `o` that all are 1
record Whole (p lo hi : ℕ) (z o : Bool) : Type 0 where
  pub zeros : z ≡ true → (lo ≡ 0) × (hi ≡ 0)
  pub some : z ≡ false → lo ≡ 0 → hi ≡ 0 → ⊥
  pub ones : o ≡ true → (lo + 1 ≡ p) × (hi + 1 ≡ p)
  pub fewer : o ≡ false → lo + 1 ≡ p → hi + 1 ≡ p → ⊥

module _ (p lo hi : ℕ) (big : 2 ≤ p) where
  whole : {s t : Shape} → Told p lo s → Told p hi t → (z o : Bool) → Whole p lo hi z o → cond z (leaf White) (cond o (leaf Black) (halved s t)) ≡ join s t
  unfolding join
  whole (white a) (white b) true o w = refl
  whole (white a) (white b) false o w = absurd (w.some refl a b)
  whole (white a) (black b) true o w = absurd (omega (arith, (w.zeros refl).1))
  whole (white a) (black b) false true w = absurd (omega (arith, (w.ones refl).0))
  whole (white a) (black b) false false w = refl
  whole (white a) (mixed b d) true o w = absurd (omega (arith, (w.zeros refl).1))
  whole (white a) (mixed b d) false true w = absurd (omega (arith, (w.ones refl).0))
  whole (white a) (mixed b d) false false w = refl
  whole (black a) (white b) true o w = absurd (omega (arith, (w.zeros refl).0))
  whole (black a) (white b) false true w = absurd (omega (arith, (w.ones refl).1))
  whole (black a) (white b) false false w = refl
  whole (black a) (black b) true o w = absurd (omega (arith, (w.zeros refl).0))
  whole (black a) (black b) false true w = refl
  whole (black a) (black b) false false w = absurd (w.fewer refl a b)
  whole (black a) (mixed b d) true o w = absurd (omega (arith, (w.zeros refl).0))
  whole (black a) (mixed b d) false true w = absurd (omega (arith, (w.ones refl).1))
  whole (black a) (mixed b d) false false w = refl
  whole (mixed a c) t true o w = absurd (omega (arith, (w.zeros refl).0))
  whole (mixed a c) t false true w = absurd (omega (arith, (w.ones refl).0))
  whole (mixed a c) t false false w = refl

-- two masks of k digits as one
module _ (k lo hi : ℕ) (l : lo < 2 ^ k) (h : hi < 2 ^ k) where
  apart : (a b : ℕ) → a < 2 ^ k → b < 2 ^ k → hi * 2 ^ k + lo ≡ b * 2 ^ k + a → (lo ≡ a) × (hi ≡ b)
  apart a b p q e =
      (sym (low hi k l) ∙ ap (λ (x : ℕ). x % 2 ^ k) e ∙ low b k p, sym (high hi k l) ∙ ap (λ (x : ℕ). x / 2 ^ k) e ∙ high b k p)

  both_ones : hi * 2 ^ k + lo ≡ 2 ^ (k + k) - 1 → (lo + 1 ≡ 2 ^ k) × (hi + 1 ≡ 2 ^ k)
  both_ones e =
      let both : (lo ≡ 2 ^ k - 1) × (hi ≡ 2 ^ k - 1) = apart (2 ^ k - 1) (2 ^ k - 1) (ones_lt k) (ones_lt k) (e ∙ ones_split k k) in
      (omega (arith, both.0, pow_pos k), omega (arith, both.1, pow_pos k))

  ones_both : lo + 1 ≡ 2 ^ k → hi + 1 ≡ 2 ^ k → hi * 2 ^ k + lo ≡ 2 ^ (k + k) - 1
  ones_both a b =
      let x : lo ≡ 2 ^ k - 1 = omega arith in
      let y : hi ≡ 2 ^ k - 1 = omega arith in
      ap₂ (λ (x y : ℕ). x * 2 ^ k + y) y x ∙ sym (ones_split k k)

  halves_whole : Whole (2 ^ k) lo hi (eqb (hi * 2 ^ k + lo) 0) (eqb (hi * 2 ^ k + lo) (2 ^ (k + k) - 1))
  halves_whole = record {
    zeros = λ e. apart 0 0 (pow_pos k) (pow_pos k) (eqb-true _ _ e ∙ omega arith);
    some = λ e a b. eqb-false _ _ e (ap₂ (λ (x y : ℕ). x * 2 ^ k + y) b a ∙ omega arith);
    ones = λ e. both_ones (eqb-true _ _ e);
    fewer = λ e a b. eqb-false _ _ e (ones_both a b);
  }

pub shape_halves : (n lo hi : ℕ) → lo < 2 ^ 2 ^ n → hi < 2 ^ 2 ^ n → mask_shape (suc n) (hi * 2 ^ 2 ^ n + lo) ≡ join (mask_shape n lo) (mask_shape n hi)
unfolding mask_shape
shape_halves n lo hi l h =
    let e : 2 ^ suc n ≡ 2 ^ n + 2 ^ n = omega (arith, pow-suc 2 n) in
    let m : ℕ = hi * 2 ^ 2 ^ n + lo in
    ap₂ (λ (x y : ℕ). cond (eqb m 0) (leaf White) (cond (eqb m (all_ones (2 ^ suc n))) (leaf Black) (halved (mask_shape n x) (mask_shape n y))))
    (low hi (2 ^ n) l) (high hi (2 ^ n) l)
    ∙ ap (λ (x : ℕ). cond (eqb m 0) (leaf White) (cond (eqb m (all_ones x)) (leaf Black) (halved (mask_shape n lo) (mask_shape n hi)))) e
    ∙ whole (2 ^ 2 ^ n) lo hi (two_masks n) (told n lo l) (told n hi h) (eqb m 0) (eqb m (2 ^ (2 ^ n + 2 ^ n) - 1)) (halves_whole (2 ^ n) lo hi l h)

-- ---- the shape of a block's voxels, merged

module _ (colours : Colouring) where
  one_voxel : (c : Colour) → mask_shape 0 (count (is_black c)) ≡ leaf c
  unfolding mask_shape
  one_voxel Black = refl
  one_voxel White = refl

  -- THEOREM: a block halved down to its voxels and merged is the shape of its mask
  pub merged_mask : (n : ℕ) (b : Block) → merged (voxel_shape colours n b) ≡ mask_shape n (block_mask colours n b)
  unfolding voxel_shape merged
  merged_mask zero b = sym (ap (mask_shape 0) (mask_voxel colours b) ∙ one_voxel (colours b.low))
  merged_mask (suc n) b =
      ap₂ join (merged_mask n (blocks.low b)) (merged_mask n (blocks.high b))
      ∙ sym (ap (mask_shape (suc n)) (mask_halves colours n b)
      ∙ shape_halves n (block_mask colours n (blocks.low b)) (block_mask colours n (blocks.high b))
      (mask_fits colours n (blocks.low b)) (mask_fits colours n (blocks.high b)))

  -- a block of one colour
  pub merged_one_lem : (n : ℕ) (b : Block) (c : Colour) → Left n b → ((v : List ℕ) → Within b v → colours v ≡ c) → merged (voxel_shape colours n b) ≡ leaf c
  unfolding voxel_shape merged
  merged_one_lem zero b c l h = ap leaf (h b.low (own_corner b))
  merged_one_lem (suc n) b c l h =
      ap₂ join
      (merged_one_lem n (blocks.low b) c (left_low l) (λ v w. h v (within_half false b v (left_above l) w)))
      (merged_one_lem n (blocks.high b) c (left_high l) (λ v w. h v (within_half true b v (left_above l) w)))
      ∙ join_leaves c

module _ (surfaces : Surfaces) (t : Tree) where
  -- what is to be shown of a block with n levels left
  Alike : ℕ → Block → Type 0
  Alike n b = merged (examine surfaces t n b) ≡ merged (voxel_shape (tree_colour surfaces b.universe t) n b)

  decided_alike : (n : ℕ) (b : Block) → Left n b → (c : Colour) → tree_mark surfaces t b ≡ decided c → Alike n b
  unfolding Alike merged
  decided_alike n b l c m =
      ap merged (examine_decided surfaces t n b c m)
      ∙ sym (merged_one_lem (tree_colour surfaces b.universe t) n b c l (λ v w. tree_sound surfaces (plain t) b c v m w))

  alike : (n : ℕ) (b : Block) → Left n b → Alike n b
  unfolding Alike voxel_shape merged
  alike zero b l = go (tree_mark surfaces t b) refl
    where
      go : (m : Mark) → tree_mark surfaces t b ≡ m → Alike 0 b
      go (decided c) m = decided_alike 0 b l c m
      go undecided m = ap merged (examine_voxel surfaces t b m)
  alike (suc n) b l = go (tree_mark surfaces t b) refl (alike n (blocks.low b) (left_low l)) (alike n (blocks.high b) (left_high l))
    where
      go : (m : Mark) → tree_mark surfaces t b ≡ m → Alike n (blocks.low b) → Alike n (blocks.high b) → Alike (suc n) b
      go (decided c) m x y = decided_alike (suc n) b l c m
      go undecided m x y = ap merged (examine_undecided surfaces t n b m) ∙ ap₂ join x y

  -- THEOREM: what the rule writes for a block, merged, is the block halved down to its voxels, merged
  pub examined_voxels : (n : ℕ) (b : Block) → Left n b →
      merged (examine surfaces t n b) ≡ merged (voxel_shape (tree_colour surfaces b.universe t) n b)
  unfolding Alike
  examined_voxels n b l = alike n b l

  -- THEOREM: the merged shape of a block is the shape of the tree's mask over it, and its symbols are that shape's
  pub examined_mask : (n : ℕ) (b : Block) → Left n b → merged (examine surfaces t n b) ≡ mask_shape n (tree_mask surfaces n b t)
  examined_mask n b l =
      examined_voxels n b l ∙ merged_mask (tree_colour surfaces b.universe t) n b ∙ ap (mask_shape n) (sym (tree_mask_lem surfaces n b t))

  -- THEOREM: the merged shape of a block is that of its halves joined, decided or not
  pub examined_halves : (n : ℕ) (b : Block) → Left (suc n) b →
      merged (examine surfaces t (suc n) b) ≡ join (merged (examine surfaces t n (blocks.low b))) (merged (examine surfaces t n (blocks.high b)))
  unfolding voxel_shape merged
  examined_halves n b l =
      examined_voxels (suc n) b l
      ∙ ap₂ join (sym (examined_voxels n (blocks.low b) (left_low l))) (sym (examined_voxels n (blocks.high b) (left_high l)))
