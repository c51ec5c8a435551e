-- Rule 5.2, the first and the last frame that has a black voxel, by what is known so far and what a block makes of it.
-- The last frame is sought where `last` is true, else the first.
use Rattle.std.specs.Prelude.{ℕ, zero, suc, ◌+◌, ◌-◌, ◌^◌, ◌≤◌, min, max, Bool, true, false, cond}
use Rattle.universe.specs.declared.Block.{Block}
use Rattle.universe.specs.Universe.{frame_axis}
use Rattle.universe.specs.Block.{low_along, length_along}
use Rattle.demands.specs.Voxels.{Colouring}
use Rattle.demands.specs.Verdicts.{frame_of}
use Rattle.masks.specs.Block.{voxel_at, is_black_at}

-- the better of two frames
abbrev pub better : Bool → ℕ → ℕ → ℕ
better last x y = cond last (max x y) (min x y)

-- x is as good as y
pub data AsGood (x y : ℕ) : Bool → Type 0 where
  no_later : x ≤ y → AsGood x y false
  no_earlier : y ≤ x → AsGood x y true

-- the best of what is known and of the frames of those numbers below n at which a test holds
unfoldable pub end_among : Bool → (ℕ → Bool) → (ℕ → ℕ) → ℕ → ℕ → ℕ
end_among last test frame known zero = known
end_among last test frame known (suc n) =
    let before = end_among last test frame known n in
    cond (test n) (better last before (frame n)) before

-- the best of what is known and of the frames of a block's black voxels
unfoldable pub end_in : Bool → Colouring → ℕ → Block → ℕ → ℕ
end_in last colours n b known =
    end_among last (is_black_at colours n b) (λ i. frame_of b.universe (voxel_at n b i)) known (2 ^ n)

-- the best frame that a block has at all: its first, or its last
abbrev pub best_frame : Bool → Block → ℕ
best_frame last b =
    let frame = low_along b (frame_axis b.universe) in
    cond last (frame + (length_along b (frame_axis b.universe) - 1)) frame

-- and the best of those that are in a window
abbrev pub best_seen : Bool → ℕ → ℕ → Block → ℕ
best_seen last from to b = cond last (min (best_frame true b) to) (max (best_frame false b) from)
