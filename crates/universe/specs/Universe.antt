-- Rules 1.1 to 1.5 and 1.10 (docs/RULES.md): axes, bits, sides, levels, the axis of a level, frames; and the limits.
-- Axes are counted from 0. How many bits an axis has is said by `bits_along` alone; that L is (d − 1) · k + f is a law
-- (proofs/Universes.antt), and where all axes have k bits, that it is d · k and that level l halves axis l mod d
-- (proofs/EqualBits.antt).
use Rattle.std.specs.Prelude.{ℕ, zero, suc, ◌+◌, ◌-◌, ◌*◌, ◌^◌, cond, ◌&&◌, List, leb, eqb, get_or}
use Rattle.lemmas.specs.Sums.{sum}
use Rattle.universe.specs.declared.Universe.{Universe}
use Rattle.universe.specs.Refusals.{unless, bad_universe}
use Rattle.universe.specs.Rounds.{rounds, axis_before}

-- rule 1.1: one to four axes, none to ten bits, none to twelve frame bits
abbrev pub least_axes : ℕ
least_axes = 1

abbrev pub most_axes : ℕ
most_axes = 4

abbrev pub most_bits : ℕ
most_bits = 10

abbrev pub most_frame_bits : ℕ
most_frame_bits = 12

-- so there are at most so many levels, and no side is longer
abbrev pub most_levels : ℕ
most_levels = (most_axes - 1) * most_bits + most_frame_bits

abbrev pub longest_side : ℕ
longest_side = 2 ^ most_frame_bits

-- rule 2.1: how large a0 may be, and how large each coefficient
abbrev pub offset_limit : ℕ
offset_limit = 1_099_511_627_776

abbrev pub coefficient_limit : ℕ
coefficient_limit = 16_777_216

-- rule 2.6: how large a ball's centre numbers may be, and how large its radius
abbrev pub centre_limit : ℕ
centre_limit = 1_024

abbrev pub radius_limit : ℕ
radius_limit = 1_024

-- rule 1.1: the bits that so many axes may have; one axis has frame bits alone
abbrev pub most_bits_of : ℕ → ℕ
most_bits_of axes = cond (eqb axes 1) 0 most_bits

-- rule 8.1, number 2: axes, bits or frame bits out of range
unfoldable pub universe_refusal : Universe → ℕ
universe_refusal u =
    unless
    (leb least_axes u.axes
    && leb u.axes most_axes
    && leb u.bits (most_bits_of u.axes)
    && leb u.frame_bits most_frame_bits)
    bad_universe

-- rule 1.4: the last axis counts frames
abbrev pub frame_axis : Universe → ℕ
frame_axis u = u.axes - 1

-- rule 1.1: the bits of axis i
unfoldable pub bits_along : Universe → ℕ → ℕ
bits_along u i = cond (eqb i (frame_axis u)) u.frame_bits u.bits

-- rule 1.1: how many units long it is
abbrev pub side_along : Universe → ℕ → ℕ
side_along u i = 2 ^ bits_along u i

-- rule 1.2: as many levels as all axes have bits
unfoldable pub levels : Universe → ℕ
levels u = sum u.axes (bits_along u)

-- rule 1.3: the axes in the order of halving; no axis has more bits than there are levels, so that many rounds list
-- them all
unfoldable pub order : Universe → List ℕ
order u = rounds (bits_along u) u.axes (levels u)

-- the axis that level l halves: the l-th of the order
unfoldable pub axis_at : Universe → ℕ → ℕ
axis_at u l = get_or (order u) l 0

-- rule 1.4: there are as many frames as the last axis has units
abbrev pub frame_count : Universe → ℕ
frame_count u = side_along u (frame_axis u)

-- how often the halvings of levels 0 to l − 1 go across axis i
unfoldable pub halvings : Universe → ℕ → ℕ → ℕ
halvings u zero i = 0
halvings u (suc l) i = halvings u l i + cond (eqb (axis_at u l) i) 1 0

-- how many blocks of level l there are along axis i, and how long each is there
unfoldable pub blocks_along : Universe → ℕ → ℕ → ℕ
blocks_along u l i = 2 ^ halvings u l i

unfoldable pub block_side : Universe → ℕ → ℕ → ℕ
block_side u l i = 2 ^ (bits_along u i - halvings u l i)

-- the universe with axis j left out: the axes that are left keep their bits and their order, and the last of them
-- counts frames
unfoldable pub without_axis : Universe → ℕ → Universe
without_axis u j =
    record {
      axes = u.axes - 1;
      bits = cond (leb u.axes 2) 0 u.bits;
      frame_bits = bits_along u (axis_before j (u.axes - 2));
    }

-- rule 1.10: the universe of so many axes with k bits each; one axis has them as frame bits, and more than ten stay too
-- many
unfoldable pub equal_bits : ℕ → ℕ → Universe
equal_bits d k = record { axes = d; bits = cond (eqb d 1 && leb k most_bits) 0 k; frame_bits = k }
