-- Rules 3.3 and 3.4: trees, MINUS and reversal. MINUS and reversal are pushed down to the surfaces, so that marks and
-- colours are given to plain trees alone.
use Rattle.std.specs.Prelude.{ℕ, ◌+◌, Bool, true, false}
use Rattle.bintree.specs.declared.Colour.{Colour}
use Rattle.bintree.specs.declared.Colour.TheVariants.{White, Black}
use Rattle.csg.specs.Surfaces.{Surface, count_halfspace, count_ball}

-- what a word pushes: WHITE, BLACK or a surface
pub data Leaf : Type 0 where
  white : Leaf
  black : Leaf
  surface : Surface → Leaf

pub data Operator : Type 0 where
  union : Operator
  intersection : Operator
  minus : Operator

pub data Tree : Type 0 where
  leaf : Leaf → Tree
  node : Operator → Tree → Tree → Tree

-- a tree with no MINUS, each of whose surfaces is as it is or reversed
pub data Plain : Type 0 where
  colour : Colour → Plain
  side : Bool → Surface → Plain
  union_of : Plain → Plain → Plain
  intersection_of : Plain → Plain → Plain

-- a surface as it is, and reversed
abbrev pub as_it_is : Bool
as_it_is = false

abbrev pub reversed : Bool
reversed = true

unfoldable mutual
  -- rule 3.3: MINUS intersects the earlier shape with the later reversed
  pub plain : Tree → Plain
  plain (leaf white) = colour White
  plain (leaf black) = colour Black
  plain (leaf (surface s)) = side as_it_is s
  plain (node union a b) = union_of (plain a) (plain b)
  plain (node intersection a b) = intersection_of (plain a) (plain b)
  plain (node minus a b) = intersection_of (plain a) (reversal b)

  -- rule 3.4: BLACK for WHITE, a surface's other side, UNION for INTERSECTION over reversed sons; of A MINUS B the
  -- union of A reversed with B
  pub reversal : Tree → Plain
  reversal (leaf white) = colour Black
  reversal (leaf black) = colour White
  reversal (leaf (surface s)) = side reversed s
  reversal (node union a b) = intersection_of (reversal a) (reversal b)
  reversal (node intersection a b) = union_of (reversal a) (reversal b)
  reversal (node minus a b) = union_of (reversal a) (plain b)

-- what the surfaces of a tree, and of a plain one, count together; one that stands twice counts twice
unfoldable pub count_leaves : (Surface → ℕ) → Tree → ℕ
count_leaves counts (leaf white) = 0
count_leaves counts (leaf black) = 0
count_leaves counts (leaf (surface s)) = counts s
count_leaves counts (node o a b) = count_leaves counts a + count_leaves counts b

unfoldable pub count_sides : (Surface → ℕ) → Plain → ℕ
count_sides counts (colour c) = 0
count_sides counts (side turned s) = counts s
count_sides counts (union_of a b) = count_sides counts a + count_sides counts b
count_sides counts (intersection_of a b) = count_sides counts a + count_sides counts b

-- rules 3.6 and 4.14: how many halfspaces a tree has, and how many balls
abbrev pub leaves : Tree → ℕ
leaves t = count_leaves count_halfspace t

abbrev pub ball_leaves : Tree → ℕ
ball_leaves t = count_leaves count_ball t
