-- One side of a halfspace that is left alone over a block: how its halves are laid by the halfspace's least and
-- greatest value alone.
use Rattle.std.specs.Prelude.{ℕ, suc, ◌*◌, ◌-◌, ◌≤◌, ◌<◌, ◌≡◌, Bool, List, ℤ, pos, nat_abs, ◌*ℤ◌, length}
use Rattle.universe.specs.declared.Universe.{Universe}
use Rattle.universe.specs.declared.Block.{Block}
use Rattle.universe.specs.Universe.{most_levels, universe_refusal, levels, axis_at, block_side}
use Rattle.universe.specs.Questions.{axes_left}
use Rattle.csg.specs.Halfspace.{Halfspace, most_rows, row_at, row_count, least, greatest}
use Rattle.csg.specs.Surfaces.{Surfaces, halfspace, surfaces_of}
use Rattle.convert.specs.Small.{SmallHalfspace}
use Rattle.convert.specs.Blocks.{Standing, block_left}
use Rattle.pruned.specs.Nodes.{node_length, number_at, first_ball_side}
use Rattle.pruned.specs.Laying.{SoundScene, HalvesJob, HalvesLaid}
use Rattle.pruned.specs.Single.{first_side, SingleBlock, SingleBlockLaid, SingleHalves, SingleHalvesLaid}

-- a code is that of a halfspace's side
pub record IsSideCode (code : ℕ) : Type 0 where
  pub from : first_side ≤ code
  pub upto : code < first_ball_side

-- what the values of a halfspace move by from a block with n + 1 levels left to its halves: its coefficient along the
-- block's axis times half the side along it
pub record Steps (u : Universe) (h : Halfspace) (from left : ℕ) (steps : List ℤ) : Type 0 where
  pub places : length steps ≡ most_levels
  pub amount : (n : ℕ) → from ≤ n → n < left → let axis = axis_at u (levels u - suc n) in
      number_at steps n ≡ h.coefficient axis *ℤ pos (block_side u (levels u - n) axis)

pub record StepsJob (rows : List ℤ) (row : ℕ) (table side : List ℕ) (left : ℕ) : Type 0 where
  pub universe : Universe
  pub accepted : universe_refusal universe ≡ 0
  pub low : List ℕ
  pub standing : Standing universe left low side
  pub table_is : table ≡ axes_left universe
  pub few : row_count rows ≤ most_rows
  pub named : row < row_count rows
  pub small : SmallHalfspace (row_at rows row)

-- the values of one halfspace over a block with so many levels left
pub record Lone (steps : List ℤ) (left : ℕ) (x y : ℤ) : Type 0 where
  pub universe : Universe
  pub surfaces : Surfaces
  pub scene : SoundScene universe surfaces
  pub low : List ℕ
  pub side : List ℕ
  pub standing : Standing universe left low side
  pub row : ℕ
  pub named : row < row_count surfaces.rows
  pub moves : Steps universe (row_at surfaces.rows row) 0 left steps
  pub least_is : x ≡ least (row_at surfaces.rows row) (block_left universe left low)
  pub greatest_is : y ≡ greatest (row_at surfaces.rows row) (block_left universe left low)

abbrev pub lone_block : {steps : List ℤ} {left : ℕ} {x y : ℤ} → Lone steps left x y → Block
lone_block {left = left} l = block_left l.universe left l.low

-- what laying the block from a place on asks, and what it comes to
pub record LoneBlock (steps : List ℤ) (turned : Bool) (left : ℕ) (x y : ℤ) (looked : List ℕ) (at : ℕ) : Type 0 where
  pub lone : Lone steps left x y
  pub asked : SingleBlock lone.surfaces turned (halfspace lone.row) left (lone_block lone) looked at

abbrev pub LoneBlockLaid : {steps : List ℤ} {turned : Bool} {left : ℕ} {x y : ℤ} {looked : List ℕ} {at : ℕ} →
    LoneBlock steps turned left x y looked at → Bool → List ℕ → ℕ → List ℕ → List ℕ → Type 0
LoneBlockLaid {turned = turned} {left = left} {looked = looked} {at = at} job =
    SingleBlockLaid job.lone.surfaces turned (halfspace job.lone.row) left (lone_block job.lone) looked at

-- the same of both halves of the block
pub record LoneHalves (steps : List ℤ) (turned : Bool) (left : ℕ) (x y : ℤ) (looked : List ℕ) (at : ℕ) : Type 0 where
  pub lone : Lone steps left x y
  pub asked : SingleHalves lone.surfaces turned (halfspace lone.row) left (lone_block lone) looked at

abbrev pub LoneHalvesLaid : {steps : List ℤ} {turned : Bool} {left : ℕ} {x y : ℤ} {looked : List ℕ} {at : ℕ} →
    LoneHalves steps turned left x y looked at → Bool → List ℕ → ℕ → List ℕ → List ℕ → Type 0
LoneHalvesLaid {turned = turned} {left = left} {looked = looked} {at = at} job =
    SingleHalvesLaid job.lone.surfaces turned (halfspace job.lone.row) left (lone_block job.lone) looked at

-- what is asked where the one node stands in the work room, and that both halves are laid by it as by the trees
pub record LoneJob (rows : List ℤ) (table side : List ℕ) (left : ℕ) (work : List ℤ) (from : ℕ) (looked : List ℕ)
    (at : ℕ) : Type 0 where
  pub balls : List ℤ
  pub axes : ℕ
  pub low : List ℕ
  pub halves : HalvesJob (surfaces_of rows balls) axes table low side left work from 1 looked at
  pub is_side : IsSideCode (nat_abs (number_at work (node_length * from)))

abbrev pub LoneLaid : {rows : List ℤ} {table side : List ℕ} {left : ℕ} {work : List ℤ} {from : ℕ} {looked : List ℕ}
    {at : ℕ} → LoneJob rows table side left work from looked at → Bool → List ℕ → ℕ → List ℕ → List ℕ → Type 0
LoneLaid {side = side} {work = work} job merging out packed out' looked' =
    HalvesLaid job.halves merging out packed out' looked' job.low side work
