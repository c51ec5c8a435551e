-- What the conversions over codes (rules 4.2 and 4.3) write of a block, merged or raw, and what they ask of the room
-- for codes.
use Rattle.std.specs.Prelude.{ℕ, ◌+◌, ◌*◌, ◌^◌, ◌≤◌, ◌<◌, Bool, cond, List, length}
use Rattle.universe.specs.declared.Universe.{Universe}
use Rattle.universe.specs.Universe.{levels}
use Rattle.bintree.specs.Shape.{Shape}
use Rattle.csg.specs.Surfaces.{Surfaces}
use Rattle.convert.specs.Blocks.{Ready}
use Rattle.at_once.specs.Counting.{BlockJob}
use Rattle.at_once.specs.Merged.{shape_over}
use Rattle.at_once.specs.Raw.{raw_over}

-- the shape that is written of a block: merged, by the colours of what is carried, or raw, by its marks
abbrev pub written_over : {surfaces : Surfaces} {axes : ℕ} {table lengths low side : List ℕ} {left : ℕ}
    {codes : List ℕ} {from count times : ℕ} →
    Bool → BlockJob surfaces axes table lengths low side left codes from count times → Shape
written_over merging job = cond merging (shape_over job) (raw_over job)

-- two trees that no check refuses, and room for the codes of what is left of them at every level
pub record CodesReady (u : Universe) (surfaces : Surfaces) (first second codes : List ℕ) : Type 0 where
  pub ready : Ready u surfaces first second
  pub enough : (levels u + 1) * (length first + length second) ≤ length codes
  pub bounded : length codes < 2 ^ 60

-- two trees that no check refuses, where so many codes suffice
pub record FewReady (most : ℕ) (u : Universe) (surfaces : Surfaces) (first second : List ℕ) : Type 0 where
  pub ready : Ready u surfaces first second
  pub few : (levels u + 1) * (length first + length second) ≤ most
