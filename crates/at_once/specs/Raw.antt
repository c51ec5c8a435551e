-- How the raw expression (rule 4.2) is written by the codes of what is carried, which are judged afresh over each
-- block: the raw shape of a block, and what writing a shape from a place on comes to. Both are of any block that stands
-- in the arrays.
use Rattle.std.specs.Prelude.{ℕ, ◌+◌, ◌-◌, ◌≡◌, List}
use Rattle.std.proofs.lemmas.List.Edits.{sets}
use Rattle.bintree.specs.Shape.{Shape, symbols, size}
use Rattle.csg.specs.Surfaces.{Surfaces}
use Rattle.pruned.specs.Looked.{examine_all}
use Rattle.pruned.specs.Laying.{halves_shape}
use Rattle.at_once.specs.Codes.{block_at}
use Rattle.at_once.specs.Counting.{BlockJob}

module _ {surfaces : Surfaces} {axes : ℕ} {table lengths low side : List ℕ} {left : ℕ} {codes : List ℕ}
    {from count times : ℕ} where
  -- the raw shape of a block by what is carried into it
  abbrev pub raw_over : BlockJob surfaces axes table lengths low side left codes from count times → Shape
  raw_over job = examine_all surfaces job.carrying.trees left (block_at job.at)

  -- both its halves, where the trees are undecided over it
  abbrev pub raw_halves : BlockJob surfaces axes table lengths low side left codes from count times → Shape
  raw_halves job = halves_shape surfaces job.carrying.trees (left - 1) (block_at job.at)

-- a shape that is written from a place on: the place past it, and the room
pub record WrittenShape (s : Shape) (out : List ℕ) (at end : ℕ) (out' : List ℕ) : Type 0 where
  pub ends : end ≡ at + size s
  pub room : out' ≡ sets out at (symbols s)
