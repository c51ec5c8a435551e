-- Two voxels at once, the halves of a block with one level left: the colours at their centres as two digits, that of
-- the low half first, 1 where it is BLACK.
use Rattle.std.specs.Prelude.{ℕ, ◌+◌, ◌*◌, ◌-◌, ◌≤◌, ◌≡◌, Bool, true, false, cond, List, eqb, ℤ, length, get_or, set}
use Rattle.std.specs.Int.Bits.{bit_and, bit_or}
use Rattle.csg.specs.Surfaces.{Surfaces, named}
use Rattle.csg.specs.Tree.{Plain}
use Rattle.convert.specs.Codes.{black_bit, bits_of}
use Rattle.convert.specs.Shapes.{symbol_of_bits}
use Rattle.pruned.specs.Left.{left_by}
use Rattle.pruned.specs.Nodes.{Node, all_postfix, bit_of, node_code, least_of, greatest_of, node_length, Holds}
use Rattle.pruned.specs.Nodes.{OneOrTwo, Stepping, marks_of, left_bits, all_mark_by, LeafOf}

-- the low places of the next voxel along an axis
abbrev pub next_places : List ℕ → ℕ → List ℕ
next_places low axis = set low axis (get_or low axis 0 + 1)

-- the digits of two colours, and whether a mark's code is BLACK's
abbrev pub pair_of : Bool → Bool → ℕ
pair_of below above = bit_of below + 2 * bit_of above

abbrev pub is_black : ℕ → Bool
is_black code = eqb code black_bit

-- those of a side, of one that is reversed each exchanged; and of two shapes joined
abbrev pub turned_pair : Bool → ℕ → ℕ
turned_pair true pair = 3 - pair
turned_pair false pair = pair

abbrev pub joined_pair : Bool → ℕ → ℕ → ℕ
joined_pair true a b = bit_and a b
joined_pair false a b = bit_or a b

-- of one tree, or of two
abbrev pub whole_pair : List ℕ → ℕ → ℕ
whole_pair pairs pending =
    cond (eqb pending 2) (joined_pair true (get_or pairs 0 0) (get_or pairs 1 0)) (get_or pairs 0 0)

-- the steps from a block to both its halves along an axis, which are voxels
pub record PairStep (surfaces : Surfaces) (axes : ℕ) (low : List ℕ) (axis : ℕ) : Type 0 where
  pub side : List ℕ
  pub places : List ℕ
  pub next : places ≡ next_places low axis
  pub below : Stepping surfaces axes low side axis 1 false true
  pub above : Stepping surfaces axes places side axis 1 true true
  pub one_parent : above.parent ≡ below.parent

abbrev pub pair_by : {surfaces : Surfaces} {axes : ℕ} {low : List ℕ} {axis : ℕ} → PairStep surfaces axes low axis →
    Plain → ℕ
pair_by step p = pair_of (is_black (left_bits (left_by (marks_of step.below) p)))
    (is_black (left_bits (left_by (marks_of step.above) p)))

-- what judging a leaf's node with this code and these values over the block asks, and what it comes to
pub record PairLeaf (surfaces : Surfaces) (axes : ℕ) (low : List ℕ) (axis code : ℕ) (least greatest : ℤ) : Type 0 where
  pub step : PairStep surfaces axes low axis
  pub tree : Plain
  pub leaf : Node
  pub stands : LeafOf (named surfaces) tree leaf
  pub code_is : code ≡ node_code leaf
  pub least_is : least ≡ least_of surfaces step.below.parent leaf
  pub greatest_is : greatest ≡ greatest_of surfaces step.below.parent leaf

abbrev pub leaf_pair : {surfaces : Surfaces} {axes : ℕ} {low : List ℕ} {axis code : ℕ} {least greatest : ℤ} →
    PairLeaf surfaces axes low axis code least greatest → ℕ
leaf_pair job = pair_by job.step job.tree

-- the same of the trees whose nodes stand from a place on, with their values over the block
pub record PairTrees (surfaces : Surfaces) (axes : ℕ) (low : List ℕ) (axis : ℕ) (work : List ℤ) (from count : ℕ)
    : Type 0 where
  pub step : PairStep surfaces axes low axis
  pub trees : List Plain
  pub few : OneOrTwo (named surfaces) trees
  pub counted : count ≡ length (all_postfix trees)
  pub holds : Holds surfaces step.below.parent work from (all_postfix trees)
  pub inside : node_length * (from + count) ≤ length work

module _ {surfaces : Surfaces} {axes : ℕ} {low : List ℕ} {axis : ℕ} {work : List ℤ} {from count : ℕ}
    (job : PairTrees surfaces axes low axis work from count) where
  abbrev pub below_black : Bool
  below_black = is_black (bits_of (all_mark_by (marks_of job.step.below) job.trees))

  abbrev pub above_black : Bool
  above_black = is_black (bits_of (all_mark_by (marks_of job.step.above) job.trees))

  abbrev pub trees_pair : ℕ
  trees_pair = pair_of below_black above_black

  -- the symbols of both voxels
  abbrev pub below_symbol : ℕ
  below_symbol = symbol_of_bits (bit_of below_black)

  abbrev pub above_symbol : ℕ
  above_symbol = symbol_of_bits (bit_of above_black)
