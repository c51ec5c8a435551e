-- One side of a ball that is left alone over a block: how its halves are laid by the ball alone.
use Rattle.std.specs.Prelude.{ℕ, ◌*◌, ◌-◌, ◌≤◌, ◌<◌, ◌≡◌, Bool, List, ℤ, nat_abs}
use Rattle.universe.specs.declared.Universe.{Universe}
use Rattle.universe.specs.declared.Block.{Block}
use Rattle.universe.specs.Questions.{axes_left}
use Rattle.csg.specs.Ball.{ball_count}
use Rattle.csg.specs.Surfaces.{Surfaces, ball, surfaces_of}
use Rattle.convert.specs.Blocks.{Standing, block_left}
use Rattle.pruned.specs.Nodes.{node_length, number_at, first_ball_side}
use Rattle.pruned.specs.Laying.{SoundScene, HalvesJob, HalvesLaid}
use Rattle.pruned.specs.Single.{SingleBlock, SingleBlockLaid, SingleHalves, SingleHalvesLaid}

-- ball i over the block with these low places and sides
pub record LoneBall (places : ℕ) (balls : List ℤ) (i : ℕ) (table low side : List ℕ) (left : ℕ) : Type 0 where
  pub universe : Universe
  pub rows : List ℤ
  pub scene : SoundScene universe (surfaces_of rows balls)
  pub standing : Standing universe left low side
  pub named : i < ball_count balls
  pub table_is : table ≡ axes_left universe
  pub places_are : places ≡ universe.axes - 1

module _ {places : ℕ} {balls : List ℤ} {i : ℕ} {table low side : List ℕ} {left : ℕ}
    (l : LoneBall places balls i table low side left) where
  abbrev pub ball_surfaces : Surfaces
  ball_surfaces = surfaces_of l.rows balls

  abbrev pub ball_block : Block
  ball_block = block_left l.universe left low

-- what laying the block from a place on asks, and what it comes to: the low places and the sides are as they were
pub record BallBlock (places : ℕ) (balls : List ℤ) (i : ℕ) (turned : Bool) (table low side : List ℕ) (left : ℕ)
    (looked : List ℕ) (at : ℕ) : Type 0 where
  pub lone : LoneBall places balls i table low side left
  pub asked : SingleBlock (ball_surfaces lone) turned (ball i) left (ball_block lone) looked at

pub record BallBlockLaid {places : ℕ} {balls : List ℤ} {i : ℕ} {turned : Bool} {table low side : List ℕ} {left : ℕ}
    {looked : List ℕ} {at : ℕ} (job : BallBlock places balls i turned table low side left looked at) (merging : Bool)
    (out : List ℕ) (packed : ℕ) (out' looked' low' side' : List ℕ) : Type 0 where
  pub single : SingleBlockLaid (ball_surfaces job.lone) turned (ball i) left (ball_block job.lone) looked at merging
      out packed out' looked'
  pub lows : low' ≡ low
  pub sides : side' ≡ side

-- the same of both halves of the block
pub record BallHalves (places : ℕ) (balls : List ℤ) (i : ℕ) (turned : Bool) (table low side : List ℕ) (left : ℕ)
    (looked : List ℕ) (at : ℕ) : Type 0 where
  pub lone : LoneBall places balls i table low side left
  pub asked : SingleHalves (ball_surfaces lone) turned (ball i) left (ball_block lone) looked at

pub record BallHalvesLaid {places : ℕ} {balls : List ℤ} {i : ℕ} {turned : Bool} {table low side : List ℕ} {left : ℕ}
    {looked : List ℕ} {at : ℕ} (job : BallHalves places balls i turned table low side left looked at) (merging : Bool)
    (out : List ℕ) (packed : ℕ) (out' looked' low' side' : List ℕ) : Type 0 where
  pub single : SingleHalvesLaid (ball_surfaces job.lone) turned (ball i) left (ball_block job.lone) looked at
      merging out packed out' looked'
  pub lows : low' ≡ low
  pub sides : side' ≡ side

-- what is asked where the one node stands in the work room, and that both halves are laid by it as by the trees
pub record BallJob (axes : ℕ) (balls : List ℤ) (table low side : List ℕ) (left : ℕ) (work : List ℤ) (from : ℕ)
    (looked : List ℕ) (at : ℕ) : Type 0 where
  pub rows : List ℤ
  pub halves : HalvesJob (surfaces_of rows balls) axes table low side left work from 1 looked at
  pub is_ball : first_ball_side ≤ nat_abs (number_at work (node_length * from))

abbrev pub BallLaid : {axes : ℕ} {balls : List ℤ} {table low side : List ℕ} {left : ℕ} {work : List ℤ} {from : ℕ}
    {looked : List ℕ} {at : ℕ} → BallJob axes balls table low side left work from looked at → Bool → List ℕ → ℕ
    → List ℕ → List ℕ → List ℕ → List ℕ → Type 0
BallLaid {work = work} job merging out packed out' looked' low' side' =
    HalvesLaid job.halves merging out packed out' looked' low' side' work
