-- Rules 4.7 and 4.14: room, by the number of words that name a halfspace and of those that name a ball.
use Rattle.std.specs.Prelude.{ℕ, ◌+◌, ◌*◌, ◌-◌, ◌≤◌, ◌<◌, min, cond, List, eqb, get_or}
use Rattle.lemmas.specs.Sums.{sum, product}
use Rattle.universe.specs.declared.Universe.{Universe}
use Rattle.universe.specs.Told.{RoomAnswer}
use Rattle.universe.specs.Universe.{most_axes, longest_side, universe_refusal, levels, blocks_along}

-- the blocks of level l, those along its axes multiplied; and those that touch no low face, being first along no axis
unfoldable pub blocks_at : Universe → ℕ → ℕ
blocks_at u l = product u.axes (blocks_along u l)

unfoldable pub inner_blocks_at : Universe → ℕ → ℕ
inner_blocks_at u l = product u.axes (λ i. blocks_along u l i - 1)

-- what a level counts of its blocks, so many of which are inner ones: all or, if that is less, N times those that touch
-- a low face; with a ball word, all
abbrev pub count_of : ℕ → ℕ → ℕ → ℕ → ℕ
count_of leaves balls blocks inner = cond (eqb balls 0) (min blocks (leaves * (blocks - inner))) blocks

unfoldable pub level_count : Universe → ℕ → ℕ → ℕ → ℕ
level_count u leaves balls l = count_of leaves balls (blocks_at u l) (inner_blocks_at u l)

-- one more than twice the sum over the levels above L
unfoldable pub room : Universe → ℕ → ℕ → ℕ
room u leaves balls = 1 + 2 * sum (levels u) (level_count u leaves balls)

-- what the room question answers: 0 and room, or the universe's refusal and zero
unfoldable pub room_answer : Universe → ℕ → ℕ → RoomAnswer
room_answer u leaves balls =
    cond (eqb (universe_refusal u) 0)
    (record { refusal = 0; symbols = room u leaves balls })
    (record { refusal = universe_refusal u; symbols = 0 })

-- what the code asks where it multiplies: few axes, and along each some blocks, no more than the longest side has units
pub record FewBlocks (axes : ℕ) (blocks : List ℕ) : Type 0 where
  pub few : axes ≤ most_axes
  pub some : (i : ℕ) → i < axes → 0 < get_or blocks i 0
  pub most : (i : ℕ) → i < axes → get_or blocks i 0 ≤ longest_side
