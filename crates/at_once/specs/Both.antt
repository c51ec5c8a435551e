-- The words of both halves of a block at once: the second half's low places, and room for the words pending of both.
use Rattle.std.specs.Prelude.{ℕ, ◌+◌, ◌≡◌, List, length, get_or, set}
use Rattle.pruned.specs.Nodes.{most_shapes}

-- low places so far along an axis: those of a block's high half, by those of its low half and the half's length
abbrev pub places_along : List ℕ → ℕ → ℕ → List ℕ
places_along low axis half = set low axis (get_or low axis 0 + half)

-- room for the words pending of as many shapes as can be, over the low half and over the high one
pub record BothShelves (belows aboves : List ℕ) : Type 0 where
  pub belows_long : length belows ≡ most_shapes
  pub aboves_long : length aboves ≡ most_shapes
