-- How the merged expression (rules 4.2 and 4.3) is laid by the colours of blocks alone: the shape of a block and of a
-- word, and what laying them asks and comes to.
use Rattle.std.specs.Prelude.{ℕ, suc, ◌+◌, ◌^◌, ◌≤◌, ◌<◌, ◌≡◌, true, List, length}
use Rattle.std.proofs.lemmas.List.Edits.{sets}
use Rattle.bintree.specs.Shape.{Shape, symbols, size}
use Rattle.bintree.specs.Walks.{laid}
use Rattle.csg.specs.Surfaces.{Surfaces}
use Rattle.convert.specs.Shapes.{shaped, end_limit}
use Rattle.masks.specs.Shapes.{voxel_shape, mask_shape}
use Rattle.pruned.specs.Laying.{packed_shape}
use Rattle.at_once.specs.Codes.{block_at}
use Rattle.at_once.specs.Words.{word_levels}
use Rattle.at_once.specs.Counting.{BlockJob, colours_of}

-- the merged shape of a block's voxels, by the colours of what is carried
abbrev pub shape_over : {surfaces : Surfaces} {axes : ℕ} {table lengths low side : List ℕ} {left : ℕ}
    {codes : List ℕ} {from count times : ℕ} →
    BlockJob surfaces axes table lengths low side left codes from count times → Shape
shape_over {left = left} job = shaped true (voxel_shape (colours_of job) left (block_at job.at))

-- a shape that is laid from a place on: the place past it with what is held back, and the room
pub record LaidShape (s : Shape) (out : List ℕ) (at packed : ℕ) (out' : List ℕ) : Type 0 where
  pub piece : packed ≡ packed_shape at s
  pub room : out' ≡ laid out at s

-- from this place on even the longest text of so many levels ends where places are still packed
pub record AtPlace (left at : ℕ) : Type 0 where
  pub fits : at + 2 ^ suc left ≤ end_limit

-- a word of 2^left digits whose text is laid from there on
pub record TextJob (word left at : ℕ) : Type 0 where
  pub few : left ≤ word_levels
  pub digits : word < 2 ^ 2 ^ left
  pub place : AtPlace left at

-- its text written, and the place past it
pub record WrittenText (word left : ℕ) (out : List ℕ) (at end : ℕ) (out' : List ℕ) : Type 0 where
  pub ends : end ≡ at + size (mask_shape left word)
  pub room : out' ≡ sets out at (symbols (mask_shape left word))

-- where there is room for even the longest
pub record RoomyText (word left : ℕ) (out : List ℕ) (at : ℕ) : Type 0 where
  pub text : TextJob word left at
  pub roomy : at + 2 ^ suc left ≤ length out
