-- Rule 4.7: the blocks of a level that touch a low face of the universe. A block of the level is a point of a grid: its
-- place along each axis, counted in blocks.
use Rattle.std.specs.Prelude.{ℕ, Bool, not, ltb}
use Rattle.lemmas.specs.Sums.{every}
use Rattle.lemmas.specs.Grid.{count}

-- away from 0 along each of d axes
abbrev pub inner : ℕ → (ℕ → ℕ) → Bool
inner d p = every d (λ i. ltb 0 (p i))

-- 1 where the block at this place touches a low face, else 0
abbrev pub touches_low : ℕ → (ℕ → ℕ) → ℕ
touches_low d p = count (not (inner d p))
