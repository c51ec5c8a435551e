-- Room: how many blocks a level has, and that room is small. A level has twice the blocks of the level above it, so level l has 2^l; a level counts
-- at most its blocks, and all levels together then make room at most 2^(L+1) − 1; with a ball word it counts them all, and room is that.
use mathlib.Core.Path.{◌≡◌, refl, ap, ◌∙◌}
use mathlib.Core.Bool.{Bool, true, false, cond}
use Prim.Native.Nat.{ℕ, zero, suc, ◌-◌, ◌*◌, ◌^◌, ◌≤◌, ◌<◌, min}
use native.Mathlib.Omega.{arith}
use native.Mathlib.Nat.{min-le_left, pow-succ'}
use lib.Dec.{eqb}
use lib.Pow.{pow_mono}
use borrow.Author.Tests.{ne_eqb}
use Rattle.lemmas.specs.Sums.{sum}
use Rattle.lemmas.proofs.Sums.{sum_cong, sum_mono, product_mono, product_one, product_scaled}
use Rattle.universe.specs.declared.Universe.{Universe}
use Rattle.universe.specs.Universe.{most_levels, universe_refusal, levels, axis_at, blocks_along}
use Rattle.universe.specs.Room.{blocks_at, inner_blocks_at, level_count, room}
use Rattle.universe.proofs.Universes.{accepted, levels_few, axis_below, blocks_first, blocks_doubled, blocks_kept}

-- ---- the blocks of a level

pub blocks_are : (u : Universe) → 0 < u.axes → (l : ℕ) → blocks_at u l ≡ 2 ^ l
unfolding blocks_at
blocks_are u h zero = product_one u.axes (blocks_along u 0) (λ i k. blocks_first u i)
blocks_are u h (suc l) =
    product_scaled u.axes (blocks_along u l) (blocks_along u (suc l)) 2 (axis_at u l) (axis_below u h l) (λ i k n. blocks_kept u l i n) (blocks_doubled u l)
    ∙ ap (λ (x : ℕ). 2 * x) (blocks_are u h l)
    ∙ omega (arith, pow-succ' 2 l)

pub inner_fewer : (u : Universe) (l : ℕ) → inner_blocks_at u l ≤ blocks_at u l
unfolding blocks_at inner_blocks_at
inner_fewer u l = product_mono u.axes _ _ (λ i k. omega arith)

-- ---- room

level_most : (u : Universe) → 0 < u.axes → (leaves balls l : ℕ) → level_count u leaves balls l ≤ 2 ^ l
unfolding level_count
level_most u h leaves balls l = by (eqb balls 0)
  where
    by : (t : Bool) → cond t (min (blocks_at u l) (leaves * (blocks_at u l - inner_blocks_at u l))) (blocks_at u l) ≤ 2 ^ l
    by true = omega (arith, min-le_left (blocks_at u l) (leaves * (blocks_at u l - inner_blocks_at u l)), blocks_are u h l)
    by false = omega (arith, blocks_are u h l)

powers : (n : ℕ) → suc (sum n (λ l. 2 ^ l)) ≡ 2 ^ n
unfolding sum
powers zero = refl
powers (suc n) = omega (arith, powers n, pow-succ' 2 n)

pub room_most : (u : Universe) → 0 < u.axes → (leaves balls : ℕ) → room u leaves balls < 2 ^ suc (levels u)
unfolding room
room_most u h leaves balls =
    omega (
      arith,
      sum_mono (levels u) (level_count u leaves balls) (λ l. 2 ^ l) (λ l k. level_most u h leaves balls l),
      powers (levels u),
      pow-succ' 2 (levels u),
    )

-- rule 4.14: with a ball word a level counts all its blocks, and room is 2^(L+1) − 1
pub level_all : (u : Universe) (leaves balls : ℕ) → (balls ≡ 0 → ⊥) → (l : ℕ) → level_count u leaves balls l ≡ blocks_at u l
unfolding level_count
level_all u leaves balls some l = rw (ne_eqb balls 0 some)

pub room_all : (u : Universe) → 0 < u.axes → (leaves balls : ℕ) → (balls ≡ 0 → ⊥) → suc (room u leaves balls) ≡ 2 ^ suc (levels u)
unfolding room
room_all u h leaves balls some =
    omega (
      arith,
      sum_cong (levels u) (level_count u leaves balls) (λ l. 2 ^ l) (λ l k. level_all u leaves balls some l ∙ blocks_are u h l),
      powers (levels u),
      pow-succ' 2 (levels u),
    )

-- no room of an accepted universe is more than that of the most levels
pub room_small : (u : Universe) → universe_refusal u ≡ 0 → (leaves balls : ℕ) → room u leaves balls < 2 ^ suc most_levels
room_small u e leaves balls =
    let a = accepted u e in
    let few : suc (levels u) ≤ suc most_levels = omega (arith, levels_few u a) in
    omega (arith, room_most u a.some_axes leaves balls, pow_mono few)
