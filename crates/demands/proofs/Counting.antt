-- Blocks counted level by level. The blocks that l halvings of the universe's block give are the cells of a grid: along axis i as many as
-- `blocks_along` says, each at a multiple of its length. Every halving of a level goes across one axis, so that the last halving, peeled off, is the
-- halving of a grid's cells. The blocks that are examined are then at most 1 and two for each undecided block of a level above L.
use Prim.Native.Nat.{ℕ, zero, suc, ◌+◌, ◌*◌, ◌≤◌, ◌<◌}
use mathlib.Core.Path.{◌≡◌, refl, sym, ap, ap₂, ◌∙◌, fun_ext}
use mathlib.Core.List.{List}
use native.Mathlib.Omega.{arith}
use native.Mathlib.Decide.{ℕ_discrete}
use Rattle.lemmas.specs.Sums.{sum}
use Rattle.lemmas.specs.Grid.{put, grid, listed}
use Rattle.lemmas.proofs.Sums.{sum_add, sum_front}
use Rattle.lemmas.proofs.Grid.{put_same, put_other, listed_at, listed_cong, listed_same, listed_put}
use Rattle.lemmas.proofs.Grid.{grid_lengths, grid_one, lower, upper, grid_halves}
use Rattle.universe.specs.declared.Universe.{Universe}
use Rattle.universe.specs.declared.Block.{Block}
use Rattle.universe.specs.Universe.{most_axes, levels, axis_at, blocks_along, block_side}
use Rattle.universe.specs.Block.{low_along, whole_block, low, high}
use Rattle.universe.proofs.Universes.{axis_below, side_halved, side_kept, blocks_first, blocks_doubled, blocks_kept}
use Rattle.csg.specs.Halfspace.{Mark, decided, undecided}
use Rattle.csg.specs.Surfaces.{Surfaces}
use Rattle.csg.specs.Tree.{Tree}
use Rattle.csg.specs.Marks.{tree_mark}
use Rattle.csg.specs.Raw.{examined}

-- f summed over the blocks that n halvings of b give
unfoldable pub below : (Block → ℕ) → ℕ → Block → ℕ
below f zero b = f b
below f (suc n) b = below f n (low b) + below f n (high b)

-- the last halving apart
last_apart : (f : Block → ℕ) (n : ℕ) (b : Block) → below f (suc n) b ≡ below (λ c. f (low c) + f (high c)) n b
unfolding below
last_apart f zero b = refl
last_apart f (suc n) b = ap₂ ◌+◌ (last_apart f n (low b)) (last_apart f n (high b))

-- ---- a level is a grid
-- the block of level l at the point p of the level's grid
abbrev pub grid_block : Universe → ℕ → (ℕ → ℕ) → Block
grid_block u l p = record { universe = u; level = l; low = listed most_axes (λ i. block_side u l i * p i) }

pub low_along_lem : (u : Universe) (l : ℕ) (p : ℕ → ℕ) (i : ℕ) → i < most_axes → low_along (grid_block u l p) i ≡ block_side u l i * p i
low_along_lem u l p i h = listed_at most_axes (λ j. block_side u l j * p j) i h

block_with : {s t : List ℕ} (u : Universe) (l : ℕ) → s ≡ t →
    ◌≡◌ {A = Block} (record { universe = u; level = l; low = s }) (record { universe = u; level = l; low = t })
block_with u l e = ap (λ (s : List ℕ). record { universe = u; level = l; low = s }) e

whole_at : (u : Universe) → grid_block u 0 (λ i. 0) ≡ whole_block u
whole_at u = block_with u 0 (listed_cong most_axes (λ i. block_side u 0 i * 0) (λ i. 0) (λ i h. omega arith) ∙ listed_same most_axes 0)

module _ (u : Universe) (some_axes : 0 < u.axes) where
  module _ (l : ℕ) (above : l < levels u) (p : ℕ → ℕ) where
    low_at : low (grid_block u l p) ≡ grid_block u (suc l) (lower (axis_at u l) p)
    low_at = block_with u (suc l) (listed_cong most_axes _ _ (λ i h. go i (ℕ_discrete (axis_at u l) i)))
      where
        go : (i : ℕ) → Dec (axis_at u l ≡ i) → block_side u l i * p i ≡ block_side u (suc l) i * lower (axis_at u l) p i
        go i (yes e) = rw (← e, put_same, side_halved u some_axes l above) (omega arith)
        go i (no k) = rw (← (side_kept u l i k), put_other (axis_at u l) i (2 * p (axis_at u l)) p k)

    high_at : high (grid_block u l p) ≡ grid_block u (suc l) (upper (axis_at u l) p)
    high_at =
        block_with u (suc l)
        (listed_put most_axes (λ i. block_side u l i * p i) (axis_at u l) place
        ∙ listed_cong most_axes _ _ (λ i h. go i h (ℕ_discrete (axis_at u l) i)))
      where
        place : ℕ
        place = low_along (grid_block u l p) (axis_at u l) + block_side u (suc l) (axis_at u l)

        go : (i : ℕ) → i < most_axes → Dec (axis_at u l ≡ i) →
            put (axis_at u l) place (λ j. block_side u l j * p j) i ≡ block_side u (suc l) i * upper (axis_at u l) p i
        go i h (yes e) =
            rw (← e, put_same, put_same)
            (omega (arith, low_along_lem u l p (axis_at u l) (rw (← e) at h), ap (λ x. x * p (axis_at u l)) (side_halved u some_axes l above)))
        go i h (no k) =
            put_other (axis_at u l) i place _ k
            ∙ rw (put_other (axis_at u l) i (suc (2 * p (axis_at u l))) p k, ← (side_kept u l i k))

  pub level_grid : (f : Block → ℕ) (l : ℕ) → l ≤ levels u → below f l (whole_block u) ≡ grid u.axes (blocks_along u l) (λ p. f (grid_block u l p))
  unfolding below
  level_grid f zero h = ap f (sym (whole_at u)) ∙ sym (grid_one u.axes (blocks_along u 0) (λ p. f (grid_block u 0 p)) (λ i k. blocks_first u i))
  level_grid f (suc l) h =
      last_apart f l (whole_block u)
      ∙ level_grid (λ c. f (low c) + f (high c)) l (omega arith)
      ∙ ap (grid u.axes (blocks_along u l)) (fun_ext (λ p. ap₂ (λ x y. f x + f y) (low_at l h p) (high_at l h p)))
      ∙ grid_halves u.axes (axis_at u l) (blocks_along u l) (λ p. f (grid_block u (suc l) p)) (axis_below u some_axes l)
      ∙ grid_lengths u.axes _ (blocks_along u (suc l)) _ (λ i k. go i (ℕ_discrete (axis_at u l) i))
    where
      go : (i : ℕ) → Dec (axis_at u l ≡ i) → put (axis_at u l) (2 * blocks_along u l (axis_at u l)) (blocks_along u l) i ≡ blocks_along u (suc l) i
      go i (yes e) = rw (← e) (put_same (axis_at u l) (2 * blocks_along u l (axis_at u l)) (blocks_along u l) ∙ sym (blocks_doubled u l))
      go i (no k) = put_other (axis_at u l) i (2 * blocks_along u l (axis_at u l)) (blocks_along u l) k ∙ sym (blocks_kept u l i k)

-- ---- the blocks that are examined
abbrev pub count_undecided : Mark → ℕ
count_undecided (decided c) = 0
count_undecided undecided = 1

halved_most : (m : Mark) (x y v w s : ℕ) → x ≤ 1 + 2 * v → y ≤ 1 + 2 * w → s ≡ count_undecided m + (v + w) →
    (elim m as (λ _. ℕ) [ decided c ↦ 1 | undecided ↦ suc (x + y) ]) ≤ 1 + 2 * s
halved_most (decided c) x y v w s h k e = omega arith
halved_most undecided x y v w s h k e = omega arith

pub examined_most : (surfaces : Surfaces) (t : Tree) (n : ℕ) (b : Block) →
    examined surfaces t n b ≤ 1 + 2 * sum n (λ l. below (λ c. count_undecided (tree_mark surfaces t c)) l b)
unfolding examined below
examined_most surfaces t zero b = omega arith
examined_most surfaces t (suc n) b =
    halved_most (tree_mark surfaces t b) _ _ _ _ _ (examined_most surfaces t n (low b)) (examined_most surfaces t n (high b))
    (sum_front n (λ l. below (λ c. count_undecided (tree_mark surfaces t c)) l b) ∙ ap (λ x. count_undecided (tree_mark surfaces t b) + x) (sum_add n _ _))
