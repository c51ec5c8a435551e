-- Rule 1.6: the whole block, the low and the high half, and which blocks halving gives.
use Rattle.std.specs.Prelude.{ℕ, suc, ◌+◌, ◌%◌, ◌<◌, ◌≡◌, Bool, cond, ◌&&◌, ltb, leb, eqb, get_or, set, replicate}
use Rattle.lemmas.specs.Sums.{every}
use Rattle.universe.specs.declared.Universe.{Universe}
use Rattle.universe.specs.declared.Block.{Block}
use Rattle.universe.specs.declared.Halves.{Halves}
use Rattle.universe.specs.Universe.{universe_refusal, levels, axis_at, side_along, block_side, most_axes}

-- the least place of a block, and its length, along axis i
abbrev pub low_along : Block → ℕ → ℕ
low_along b i = get_or b.low i 0

abbrev pub length_along : Block → ℕ → ℕ
length_along b i = block_side b.universe b.level i

-- the whole universe's block
abbrev pub whole_block : Universe → Block
whole_block u = record { universe = u; level = 0; low = replicate most_axes 0 }

-- the axis across which a block is halved
abbrev pub axis_of : Block → ℕ
axis_of b = axis_at b.universe b.level

-- the halves: the low one begins where the block does, the high one half the block's length further along the axis
abbrev pub low : Block → Block
low b = record { universe = b.universe; level = suc b.level; low = b.low }

abbrev pub high : Block → Block
high b =
    let middle = low_along b (axis_of b) + block_side b.universe (suc b.level) (axis_of b) in
    record { universe = b.universe; level = suc b.level; low = set b.low (axis_of b) middle }

-- the blocks that halving the first block gives, itself among them
pub data Given : Block → Type 0 where
  first : (u : Universe) → universe_refusal u ≡ 0 → Given (whole_block u)
  lower : (b : Block) → Given b → b.level < levels b.universe → Given (low b)
  upper : (b : Block) → Given b → b.level < levels b.universe → Given (high b)

-- along axis i a given block begins at a multiple of its length inside the universe, and at 0 above the universe's axes
abbrev pub placed_along : Block → ℕ → Bool
placed_along b i =
    cond (ltb i b.universe.axes)
    (eqb (low_along b i % length_along b i) 0 && ltb (low_along b i) (side_along b.universe i))
    (eqb (low_along b i) 0)

-- whether a block is given: `is_given_lem` and `given_is` of proofs/Blocks.antt show that, of blocks with four places, this
-- test holds exactly of those in `Given`
unfoldable pub is_given : Block → Bool
is_given b =
    eqb (universe_refusal b.universe) 0
    && leb b.level (levels b.universe)
    && every most_axes (placed_along b)

-- rule 1.6: a block with no halves of its own, at level L or given by no halving, is its own half
unfoldable pub low_half : Block → Block
low_half b = cond (is_given b && ltb b.level (levels b.universe)) (low b) b

unfoldable pub high_half : Block → Block
high_half b = cond (is_given b && ltb b.level (levels b.universe)) (high b) b

-- both halves of one block
abbrev pub both_halves : Block → Halves
both_halves b = record { low = low_half b; high = high_half b }
