-- Rule 1.8: what the universe answers when asked for its levels, the bits and the side of an axis, the axis of each
-- level, the voxels of a block. Where the universe is refused or has no such axis or level, the answer is 0. Rule 12.1:
-- and when asked for the universe without an axis.
use Rattle.std.specs.Prelude.{ℕ, suc, ◌-◌, ◌^◌, Bool, cond, ◌&&◌, List, ltb, leb, eqb}
use Rattle.lemmas.specs.Grid.{listed}
use Rattle.universe.specs.declared.Universe.{Universe}
use Rattle.universe.specs.Universe.{universe_refusal, most_levels, bits_along, side_along, levels, axis_at}
use Rattle.universe.specs.Universe.{without_axis}

unfoldable pub levels_answer : Universe → ℕ
levels_answer u = cond (eqb (universe_refusal u) 0) (levels u) 0

-- an axis of an accepted universe
abbrev pub has_axis : Universe → ℕ → Bool
has_axis u i = eqb (universe_refusal u) 0 && ltb i u.axes

unfoldable pub bits_answer : Universe → ℕ → ℕ
bits_answer u i = cond (has_axis u i) (bits_along u i) 0

unfoldable pub side_answer : Universe → ℕ → ℕ
side_answer u i = cond (has_axis u i) (side_along u i) 0

-- the axes that the levels halve, the last level first: at place n that of a block with n + 1 levels left
unfoldable pub axes_left : Universe → List ℕ
axes_left u = listed most_levels (λ n. cond (ltb n (levels_answer u)) (axis_at u (levels u - suc n)) 0)

-- the voxels of a block with so many levels left
unfoldable pub voxels_left : ℕ → ℕ
voxels_left left = cond (leb left most_levels) (2 ^ left) 0

-- rule 12.1: an axis can be left out where it is one of two or more, counted from 1
abbrev pub is_one_of : Universe → ℕ → Bool
is_one_of u axis = eqb (universe_refusal u) 0 && leb 2 u.axes && leb 1 axis && leb axis u.axes

-- the numbers that are no universe's
abbrev pub no_universe : Universe
no_universe = record { axes = 0; bits = 0; frame_bits = 0 }

unfoldable pub without_answer : Universe → ℕ → Universe
without_answer u axis = cond (is_one_of u axis) (without_axis u (axis - 1)) no_universe
