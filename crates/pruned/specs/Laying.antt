-- How the recursion over blocks lays the expression of what is carried (rules 16.3 and 16.5): what it asks of a block
-- and of both its halves, and what it comes to.
use Rattle.std.specs.Prelude.{ℕ, suc, ◌+◌, ◌*◌, ◌-◌, ◌^◌, ◌≤◌, ◌<◌, ◌≡◌, Bool, cond, ◌⊎◌, List, [], ◌∷◌, eqb, ℤ, length, get_or}
use Rattle.universe.specs.declared.Universe.{Universe}
use Rattle.universe.specs.declared.Block.{Block}
use Rattle.universe.specs.Universe.{universe_refusal}
use Rattle.universe.specs.Questions.{axes_left}
use Rattle.universe.specs.Block.{low, high}
use Rattle.bintree.specs.Shape.{Shape, halved, size}
use Rattle.bintree.specs.Walks.{leaf_symbol, joined_halves, laid}
use Rattle.csg.specs.Halfspace.{rows_refusal}
use Rattle.csg.specs.Ball.{balls_refusal}
use Rattle.csg.specs.Surfaces.{Surfaces, named}
use Rattle.csg.specs.Tree.{Plain}
use Rattle.convert.specs.Blocks.{Standing, block_left}
use Rattle.convert.specs.Shapes.{shaped, is_one, held_unit, end_limit}
use Rattle.pruned.specs.Looked.{examine_all, looked_from}
use Rattle.pruned.specs.Nodes.{all_postfix, node_length, Holds, SameBelow, OneOrTwo, Stepping}

-- a shape that is laid from a place on, as one number: the place past it, and below it the symbol of one leaf, which is
-- held back, or 0
abbrev pub packed_shape : ℕ → Shape → ℕ
packed_shape at s = (at + size s) * held_unit + leaf_symbol s

-- two halves that are laid, joined: where shapes are merged, leaves of one colour are held back as one; else `(` and
-- what was held back of the halves is written
abbrev pub joined_packed : Bool → ℕ → ℕ → ℕ → ℕ → ℕ
joined_packed merging at below above end =
    cond (is_one merging below above) ((at + 1) * held_unit + below) (end * held_unit)

abbrev pub joined_out : Bool → List ℕ → ℕ → ℕ → ℕ → ℕ → List ℕ
joined_out merging out at below middle above =
    cond (is_one merging below above) out (joined_halves out at below middle above)

-- the shapes of both halves of a block, and the nodes looked at in them
abbrev pub lower_part : Surfaces → List Plain → ℕ → Block → Shape
lower_part surfaces ps n b = examine_all surfaces ps n (low b)

abbrev pub upper_part : Surfaces → List Plain → ℕ → Block → Shape
upper_part surfaces ps n b = examine_all surfaces ps n (high b)

abbrev pub halves_shape : Surfaces → List Plain → ℕ → Block → Shape
halves_shape surfaces ps n b = halved (lower_part surfaces ps n b) (upper_part surfaces ps n b)

abbrev pub looked_in_halves : Surfaces → List Plain → ℕ → Block → ℕ
looked_in_halves surfaces ps n b = looked_from surfaces ps n (low b) + looked_from surfaces ps n (high b)

-- no check refuses the universe and the surfaces
pub record SoundScene (u : Universe) (surfaces : Surfaces) : Type 0 where
  pub accepted_universe : universe_refusal u ≡ 0
  pub accepted_rows : rows_refusal u surfaces.rows ≡ 0
  pub accepted_balls : balls_refusal u surfaces.balls ≡ 0

-- what laying a block from a place on asks: the nodes that are carried into it stand with their values over its parent,
-- and from `to` on there is room for what is left of them over the block and at every level below; a voxel is no half,
-- since two are laid at once
pub record BlockJob (surfaces : Surfaces) (axes : ℕ) (table low side : List ℕ) (axis half : ℕ) (high : Bool) (left : ℕ)
    (work : List ℤ) (from count to : ℕ) (looked : List ℕ) (at : ℕ) : Type 0 where
  pub step : Stepping surfaces axes low side axis half high (eqb left 0)
  pub scene : SoundScene step.universe surfaces
  pub left_is : step.left ≡ left
  pub table_is : table ≡ axes_left step.universe
  pub trees : List Plain
  pub few : OneOrTwo (named surfaces) trees
  pub counted : count ≡ length (all_postfix trees)
  pub holds : Holds surfaces step.parent work from (all_postfix trees)
  pub apart : (to ≤ from) ⊎ (from + count ≤ to)
  pub inside : node_length * (from + count) ≤ length work
  pub room : node_length * (to + (left + 1) * count) ≤ length work
  pub bounded : length work < 2 ^ 60
  pub fits : at + size (examine_all surfaces trees left (block_left step.universe left low)) < end_limit
  pub tallied : length looked ≡ 1
  pub counts : get_or looked 0 0 + looked_from surfaces trees left (block_left step.universe left low) < 2 ^ 64
  pub rests : left ≡ 0 → half ≡ 0

pub record BlockLaid {surfaces : Surfaces} {axes : ℕ} {table low side : List ℕ} {axis half : ℕ} {high : Bool} {left : ℕ}
    {work : List ℤ} {from count to : ℕ} {looked : List ℕ} {at : ℕ}
    (job : BlockJob surfaces axes table low side axis half high left work from count to looked at)
    (merging : Bool) (out : List ℕ) (packed : ℕ) (out' looked' low' side' : List ℕ) (work' : List ℤ) : Type 0 where
  pub piece : packed ≡ packed_shape at (shaped merging (examine_all surfaces job.trees left (block_left
      job.step.universe left low)))
  pub room : out' ≡ laid out at (shaped merging (examine_all surfaces job.trees left (block_left
      job.step.universe left low)))
  pub counted : looked' ≡ (get_or looked 0 0 + looked_from surfaces job.trees left (block_left
      job.step.universe left low)) ∷ []
  pub lows : low' ≡ low
  pub sides : side' ≡ side
  pub below : SameBelow to work work'

-- what laying both halves of an undecided block asks: what is left of the trees over it stands with the values over it
pub record HalvesJob (surfaces : Surfaces) (axes : ℕ) (table low side : List ℕ) (left : ℕ)
    (work : List ℤ) (from count : ℕ) (looked : List ℕ) (at : ℕ) : Type 0 where
  pub universe : Universe
  pub scene : SoundScene universe surfaces
  pub axes_are : axes ≡ universe.axes
  pub standing : Standing universe left low side
  pub some : 1 ≤ left
  pub table_is : table ≡ axes_left universe
  pub trees : List Plain
  pub few : OneOrTwo (named surfaces) trees
  pub counted : count ≡ length (all_postfix trees)
  pub holds : Holds surfaces (block_left universe left low) work from (all_postfix trees)
  pub room : node_length * (from + (left + 1) * count) ≤ length work
  pub bounded : length work < 2 ^ 60
  pub fits : at + suc (size (lower_part surfaces trees (left - 1) (block_left universe left low))
      + size (upper_part surfaces trees (left - 1) (block_left universe left low))) < end_limit
  pub tallied : length looked ≡ 1
  pub counts : get_or looked 0 0 + looked_in_halves surfaces trees (left - 1) (block_left universe left low) < 2 ^ 64

pub record HalvesLaid {surfaces : Surfaces} {axes : ℕ} {table low side : List ℕ} {left : ℕ}
    {work : List ℤ} {from count : ℕ} {looked : List ℕ} {at : ℕ}
    (job : HalvesJob surfaces axes table low side left work from count looked at)
    (merging : Bool) (out : List ℕ) (packed : ℕ) (out' looked' low' side' : List ℕ) (work' : List ℤ) : Type 0 where
  pub piece : packed
      ≡ packed_shape at (shaped merging (halves_shape surfaces job.trees (left - 1) (block_left
      job.universe left low)))
  pub room : out'
      ≡ laid out at (shaped merging (halves_shape surfaces job.trees (left - 1) (block_left job.universe left low)))
  pub counted : looked'
      ≡ (get_or looked 0 0 + looked_in_halves surfaces job.trees (left - 1) (block_left job.universe left low)) ∷ []
  pub lows : low' ≡ low
  pub sides : side' ≡ side
  pub below : SameBelow (from + count) work work'
