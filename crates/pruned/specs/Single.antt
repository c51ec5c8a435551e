-- One side of a surface that is left alone over a block: the shape of the block and of its halves, the nodes looked at,
-- and what laying them from a place on asks and comes to.
use Rattle.std.specs.Prelude.{ℕ, ◌+◌, ◌*◌, ◌-◌, ◌^◌, ◌≤◌, ◌<◌, ◌≡◌, Bool, List, [], ◌∷◌, ℤ, nat_abs, length, get_or}
use Rattle.universe.specs.declared.Block.{Block}
use Rattle.bintree.specs.Shape.{Shape, size}
use Rattle.bintree.specs.Walks.{laid}
use Rattle.csg.specs.Surfaces.{Surfaces, Surface}
use Rattle.csg.specs.Tree.{Plain}
use Rattle.csg.specs.Words.{first_halfspace}
use Rattle.convert.specs.Shapes.{shaped, end_limit}
use Rattle.pruned.specs.Looked.{examine_all, looked_from}
use Rattle.pruned.specs.Nodes.{node_length, number_at}
use Rattle.pruned.specs.Laying.{packed_shape, halves_shape, looked_in_halves, HalvesJob, HalvesLaid}

abbrev pub side_alone : Bool → Surface → List Plain
side_alone turned s = Plain.side turned s ∷ []

-- over a block with so many levels left
module _ (surfaces : Surfaces) (turned : Bool) (s : Surface) (left : ℕ) (b : Block) where
  -- the shape of the block and the nodes looked at below it; and the same of its halves
  abbrev pub single_shape : Shape
  single_shape = examine_all surfaces (side_alone turned s) left b

  abbrev pub looked_below : ℕ
  looked_below = looked_from surfaces (side_alone turned s) left b - 1

  abbrev pub single_parts : Shape
  single_parts = halves_shape surfaces (side_alone turned s) (left - 1) b

  abbrev pub looked_in_parts : ℕ
  looked_in_parts = looked_in_halves surfaces (side_alone turned s) (left - 1) b

  -- what laying the block from a place on asks, and what it comes to; the block itself is counted already
  pub record SingleBlock (looked : List ℕ) (at : ℕ) : Type 0 where
    pub fits : at + size single_shape < end_limit
    pub tallied : length looked ≡ 1
    pub counts : get_or looked 0 0 + looked_below < 2 ^ 64

  pub record SingleBlockLaid (looked : List ℕ) (at : ℕ) (merging : Bool) (out : List ℕ) (packed : ℕ)
      (out' looked' : List ℕ) : Type 0 where
    pub piece : packed ≡ packed_shape at (shaped merging single_shape)
    pub room : out' ≡ laid out at (shaped merging single_shape)
    pub counted : looked' ≡ (get_or looked 0 0 + looked_below) ∷ []

  -- the same of both halves of the block
  pub record SingleHalves (looked : List ℕ) (at : ℕ) : Type 0 where
    pub some : 1 ≤ left
    pub fits : at + size single_parts < end_limit
    pub tallied : length looked ≡ 1
    pub counts : get_or looked 0 0 + looked_in_parts < 2 ^ 64

  pub record SingleHalvesLaid (looked : List ℕ) (at : ℕ) (merging : Bool) (out : List ℕ) (packed : ℕ)
      (out' looked' : List ℕ) : Type 0 where
    pub piece : packed ≡ packed_shape at (shaped merging single_parts)
    pub room : out' ≡ laid out at (shaped merging single_parts)
    pub counted : looked' ≡ (get_or looked 0 0 + looked_in_parts) ∷ []

-- the code from which on nodes are sides
abbrev pub first_side : ℕ
first_side = 2 * first_halfspace

-- what is asked where the one node stands in the work room, and that both halves are laid by it as by the trees
pub record SingleJob (surfaces : Surfaces) (axes : ℕ) (table low side : List ℕ) (left : ℕ) (work : List ℤ) (from : ℕ)
    (looked : List ℕ) (at : ℕ) : Type 0 where
  pub halves : HalvesJob surfaces axes table low side left work from 1 looked at
  pub is_side : first_side ≤ nat_abs (number_at work (node_length * from))

abbrev pub SingleLaid : {surfaces : Surfaces} {axes : ℕ} {table low side : List ℕ} {left : ℕ} {work : List ℤ} {from : ℕ}
    {looked : List ℕ} {at : ℕ} → SingleJob surfaces axes table low side left work from looked at → Bool → List ℕ → ℕ
    → List ℕ → List ℕ → List ℕ → List ℕ → Type 0
SingleLaid {work = work} job merging out packed out' looked' low' side' =
    HalvesLaid job.halves merging out packed out' looked' low' side' work
