-- How the trees of a run stand in the work room: nodes in postfix order, three numbers each, a code and the least and
-- the greatest value over a block.
use Rattle.std.specs.Prelude.{ℕ, suc, ◌+◌, ◌*◌, ◌/◌, ◌%◌, ◌^◌, ◌≤◌, ◌<◌, ◌≡◌, Bool, true, false, cond, ◌&&◌, ◌⊎◌, List, [], ◌∷◌, ◌++◌, leb, ltb, eqb, ℤ, pos, nat_abs, ◌+ℤ◌, ◌-ℤ◌, ◌*ℤ◌, length, get_or, set}
use Rattle.std.specs.Int.Signed.{le_z}
use Rattle.universe.specs.declared.Universe.{Universe}
use Rattle.universe.specs.declared.Block.{Block}
use Rattle.universe.specs.Universe.{most_axes, longest_side, offset_limit, coefficient_limit}
use Rattle.bintree.specs.declared.Colour.{Colour}
use Rattle.bintree.specs.declared.Colour.TheVariants.{White, Black}
use Rattle.csg.specs.Halfspace.{Mark, decided, lesser, greater, most_rows, row_at, row_count, least}
use Rattle.csg.specs.Halfspace.{greatest}
use Rattle.csg.specs.Ball.{Ball, most_balls, ball_at, ball_count}
use Rattle.csg.specs.Surfaces.{Surfaces, Surface, halfspace, ball, Named, named, IsNamed}
use Rattle.csg.specs.Tree.{Plain, colour, side, union_of, intersection_of}
use Rattle.csg.specs.Words.{first_halfspace, first_ball, most_pending}
use Rattle.csg.specs.Marks.{intersection_mark, side_mark, side_colour}
use Rattle.convert.specs.Small.{SmallHalfspace, SmallBall}
use Rattle.std.specs.Int.Bits.{bit_and, bit_or}
use Rattle.convert.specs.Codes.{black_bit, white_bit, bits_of, tested_code, ball_code_over, ball_code_at}
use Rattle.convert.specs.Blocks.{Standing, block_left}
use Rattle.pruned.specs.Left.{Left, settled, still, union_left, intersection_left, as_mark, left_by, depth, kept}

-- one node: a constant, a side of a surface, or an operator, INTERSECTION where `meet`
pub data Node : Type 0 where
  of_colour : Colour → Node
  of_side : Bool → Surface → Node
  joining : Bool → Node

-- two plain trees, and what is left of two, joined by an operator
abbrev pub join_plain : Bool → Plain → Plain → Plain
join_plain true p q = intersection_of p q
join_plain false p q = union_of p q

abbrev pub join_left : Bool → Left → Left → Left
join_left true x y = intersection_left x y
join_left false x y = union_left x y

-- the nodes of a plain tree in postfix order, those of what is left, and of several trees one after the other
unfoldable pub postfix : Plain → List Node
postfix (colour c) = of_colour c ∷ []
postfix (side turned s) = of_side turned s ∷ []
postfix (union_of p q) = postfix p ++ (postfix q ++ (joining false ∷ []))
postfix (intersection_of p q) = postfix p ++ (postfix q ++ (joining true ∷ []))

abbrev pub left_nodes : Left → List Node
left_nodes (settled c) = []
left_nodes (still p) = postfix p

unfoldable pub all_postfix : List Plain → List Node
all_postfix [] = []
all_postfix (p ∷ ps) = postfix p ++ all_postfix ps

-- a node's code: twice its word, and one more for a side that is reversed
abbrev pub word_of : Surface → ℕ
word_of (halfspace i) = first_halfspace + i
word_of (ball i) = first_ball + i

abbrev pub bit_of : Bool → ℕ
bit_of turned = cond turned 1 0

abbrev pub node_code : Node → ℕ
node_code (of_colour White) = 0
node_code (of_colour Black) = 2
node_code (joining false) = 4
node_code (joining true) = 6
node_code (of_side turned s) = 2 * word_of s + bit_of turned

-- the code of ball 0's side, from which on they are balls'
abbrev pub first_ball_side : ℕ
first_ball_side = 2 * first_ball

-- the operators by their codes
abbrev pub is_join : ℕ → Bool
is_join code = leb 4 code && ltb code 8

abbrev pub is_meet : ℕ → Bool
is_meet code = leb 6 code

-- the least and the greatest value of a node over a block; 0 for one that is no side of a halfspace
abbrev pub least_of : Surfaces → Block → Node → ℤ
least_of surfaces b (of_colour c) = pos 0
least_of surfaces b (joining meet) = pos 0
least_of surfaces b (of_side turned (ball i)) = pos 0
least_of surfaces b (of_side turned (halfspace i)) = least (row_at surfaces.rows i) b

abbrev pub greatest_of : Surfaces → Block → Node → ℤ
greatest_of surfaces b (of_colour c) = pos 0
greatest_of surfaces b (joining meet) = pos 0
greatest_of surfaces b (of_side turned (ball i)) = pos 0
greatest_of surfaces b (of_side turned (halfspace i)) = greatest (row_at surfaces.rows i) b

-- the three numbers of the node at a place
abbrev pub node_length : ℕ
node_length = 3

abbrev pub number_at : List ℤ → ℕ → ℤ
number_at work k = get_or work k (pos 0)

abbrev pub stored : List ℤ → ℕ → ℤ → ℤ → ℤ → List ℤ
stored work at code low high =
    set (set (set work (node_length * at) code) (node_length * at + 1) low) (node_length * at + 2) high

pub record NodeAt (surfaces : Surfaces) (b : Block) (work : List ℤ) (at : ℕ) (n : Node) : Type 0 where
  pub code : number_at work (node_length * at) ≡ pos (node_code n)
  pub low : number_at work (node_length * at + 1) ≡ least_of surfaces b n
  pub high : number_at work (node_length * at + 2) ≡ greatest_of surfaces b n

-- from a place on the room holds these nodes, with their values over a block
pub data Holds (surfaces : Surfaces) (b : Block) (work : List ℤ) : ℕ → List Node → Type 0 where
  nothing : {at : ℕ} → Holds surfaces b work at []
  node : {at : ℕ} {n : Node} {ns : List Node} → NodeAt surfaces b work at n → Holds surfaces b work (suc at) ns →
      Holds surfaces b work at (n ∷ ns)

-- two rooms hold the same below a place
pub record SameBelow (place : ℕ) (before after : List ℤ) : Type 0 where
  pub same : (k : ℕ) → k < node_length * place → number_at after k ≡ number_at before k
  pub long : length after ≡ length before

-- a tree that can be carried: its sides are of surfaces that there are, and few shapes are pending while it is read
pub data SidesNamed (names : Named) : Plain → Type 0 where
  colour_named : {c : Colour} → SidesNamed names (colour c)
  side_named : {turned : Bool} {s : Surface} → IsNamed names s → SidesNamed names (side turned s)
  union_named : {p q : Plain} → SidesNamed names p → SidesNamed names q → SidesNamed names (union_of p q)
  intersection_named : {p q : Plain} → SidesNamed names p → SidesNamed names q → SidesNamed names (intersection_of p q)

pub record Carriable (names : Named) (p : Plain) : Type 0 where
  pub sides : SidesNamed names p
  pub shallow : depth p ≤ most_pending

-- one tree, or two
pub data OneOrTwo (names : Named) : List Plain → Type 0 where
  one : {p : Plain} → Carriable names p → OneOrTwo names (p ∷ [])
  two : {p q : Plain} → Carriable names p → Carriable names q → OneOrTwo names (p ∷ q ∷ [])

-- ---- from a block to one of its halves
-- what half a block's length along an axis adds to the least and to the greatest value (rule 16.6)
abbrev pub rises : ℤ → ℕ → ℤ
rises a half = greater (pos 0) a *ℤ pos half

abbrev pub falls : ℤ → ℕ → ℤ
falls a half = lesser (pos 0) a *ℤ pos half

abbrev pub moved_least : Bool → ℤ → ℕ → ℤ → ℤ
moved_least true a half x = x +ℤ rises a half
moved_least false a half x = x -ℤ falls a half

abbrev pub moved_greatest : Bool → ℤ → ℕ → ℤ → ℤ
moved_greatest true a half x = x +ℤ falls a half
moved_greatest false a half x = x -ℤ rises a half

-- what a least or a greatest value comes to at the most
abbrev pub extreme_limit : ℕ
extreme_limit = offset_limit + most_axes * (coefficient_limit * longest_side)

pub record SmallExtreme (x : ℤ) : Type 0 where
  pub most : nat_abs x ≤ extreme_limit

-- what the values move by: a coefficient times half a length; and what they come to over a half, moved by that
abbrev pub amount_limit : ℕ
amount_limit = coefficient_limit * longest_side

pub record SmallAmount (x : ℤ) : Type 0 where
  pub most : nat_abs x ≤ amount_limit

-- the amount towards a half, for the low one the other way round
abbrev pub moved_towards : Bool → ℤ → ℤ
moved_towards true amount = amount
moved_towards false amount = pos 0 -ℤ amount

pub record MovedBy (amount : ℤ) (high : Bool) (least greatest x y : ℤ) : Type 0 where
  pub over : (a : ℤ) (half : ℕ) → amount ≡ a *ℤ pos half →
      (x ≡ moved_least high a half least) × (y ≡ moved_greatest high a half greatest)

-- 1 doubled so often, as a word of 64 digits holds it: from 64 times on it is 0
abbrev pub doubled : ℕ → ℕ
doubled times = 2 ^ times % 2 ^ 64

-- the code below which sides of halfspaces move by such a length: all of them, or none
abbrev pub moving_below : ℕ → ℕ
moving_below times = cond (ltb times 64) first_ball_side (2 * first_halfspace)

-- a step from the block whose values are held to a block that is judged: one of its halves along an axis, half a length
-- `half` further where `high`; with a half length of 0 the block itself
pub record Stepping (surfaces : Surfaces) (axes : ℕ) (low side : List ℕ) (axis half : ℕ)
    (high centre : Bool) : Type 0 where
  pub universe : Universe
  pub left : ℕ
  pub parent : Block
  pub some_axes : 1 ≤ axes
  pub few_axes : axes ≤ most_axes
  pub axes_are : axes ≡ universe.axes
  pub standing : Standing universe left low side
  pub small : (i : ℕ) → i < row_count surfaces.rows → SmallHalfspace (row_at surfaces.rows i)
  pub small_balls : (i : ℕ) → i < ball_count surfaces.balls → SmallBall (ball_at surfaces.balls i)
  pub few_rows : row_count surfaces.rows ≤ most_rows
  pub few_balls : ball_count surfaces.balls ≤ most_balls
  pub within : axis < most_axes
  pub short : half ≤ longest_side
  pub small_parent : (i : ℕ) → i < row_count surfaces.rows →
      SmallExtreme (least (row_at surfaces.rows i) parent) × SmallExtreme (greatest (row_at surfaces.rows i) parent)
  pub moves : (i : ℕ) → let h = row_at surfaces.rows i in
      (least h (block_left universe left low) ≡ moved_least high (h.coefficient axis) half (least h parent))
      × (greatest h (block_left universe left low) ≡ moved_greatest high (h.coefficient axis) half (greatest h parent))
  pub small_block : (i : ℕ) → i < row_count surfaces.rows → let h = row_at surfaces.rows i in
      SmallExtreme (least h (block_left universe left low)) × SmallExtreme (greatest h (block_left universe left low))
  pub last : centre ≡ true → left ≡ 0

-- the marks by which a block is judged: those over it, at level L the colours at its centre
abbrev pub judged_marks : Bool → Surfaces → Block → Bool → Surface → Mark
judged_marks false surfaces b turned s = side_mark surfaces turned s b
judged_marks true surfaces b turned s = decided (side_colour surfaces b.universe turned s b.low)

abbrev pub block_of : {surfaces : Surfaces} {axes : ℕ} {low side : List ℕ} {axis half : ℕ} {high centre : Bool} →
    Stepping surfaces axes low side axis half high centre → Block
block_of {low = low} s = block_left s.universe s.left low

abbrev pub marks_of : {surfaces : Surfaces} {axes : ℕ} {low side : List ℕ} {axis half : ℕ} {high centre : Bool} →
    Stepping surfaces axes low side axis half high centre → Bool → Surface → Mark
marks_of {surfaces = surfaces} {centre = centre} s = judged_marks centre surfaces (block_of s)

-- ---- pruning
abbrev pub left_bits : Left → ℕ
left_bits (settled c) = bits_of (decided c)
left_bits (still p) = 0

-- several trees by any marks: their mark, and what is left of them
unfoldable pub all_mark_by : (Bool → Surface → Mark) → List Plain → Mark
all_mark_by marks [] = decided Black
all_mark_by marks (p ∷ ps) = intersection_mark (as_mark (left_by marks p)) (all_mark_by marks ps)

unfoldable pub all_left_by : (Bool → Surface → Mark) → List Plain → List Plain
all_left_by marks [] = []
all_left_by marks (p ∷ ps) = kept (left_by marks p) (all_left_by marks ps)

-- what pruning the nodes from a place on asks: they are those of one tree or two, with their values over the parent;
-- what is left is written from `to` on, behind them or from before them on; at a centre only a block itself is judged
pub record Pruning (surfaces : Surfaces) (axes : ℕ) (low side : List ℕ) (axis half : ℕ) (high centre : Bool)
    (work : List ℤ) (from count to : ℕ) : Type 0 where
  pub step : Stepping surfaces axes low side axis half high centre
  pub trees : List Plain
  pub few : OneOrTwo (named surfaces) trees
  pub counted : count ≡ length (all_postfix trees)
  pub holds : Holds surfaces step.parent work from (all_postfix trees)
  pub apart : (to ≤ from) ⊎ (from + count ≤ to)
  pub inside : node_length * (from + count) ≤ length work
  pub room : node_length * (to + count) ≤ length work
  pub rests : centre ≡ true → half ≡ 0

-- where the nodes end after an operator that is stored at `end`: back at the start of its first son where it is
-- settled, one further where it stays
abbrev pub end_after : ℕ → ℕ → ℕ → ℕ → ℕ → ℕ
end_after code a b start end = cond (eqb code 0) (cond (eqb a 0) (cond (eqb b 0) (end + 1) end) end) start

-- the code of a halfspace with this least and this greatest value over a block: BLACK where least ≥ 0, else WHITE where
-- greatest ≤ 0; at the centre of a voxel both together, which are twice the value there, decide alone
abbrev pub value_code : Bool → ℤ → ℤ → ℕ
value_code false least greatest = tested_code (le_z (pos 0) least) (le_z greatest (pos 0))
value_code true least greatest = tested_code (le_z (pos 0) (least +ℤ greatest)) true

-- that of a ball with so many place axes
abbrev pub ball_code : Bool → ℕ → Ball → List ℕ → List ℕ → ℕ
ball_code false n b lows sides = ball_code_over n b lows sides
ball_code true n b lows sides = ball_code_at n b lows

-- the code of a side, of one that is reversed with the two bits exchanged; and the codes of two shapes joined
abbrev pub turned_code : Bool → ℕ → ℕ
turned_code true code = code % white_bit * white_bit + code / white_bit
turned_code false code = code

abbrev pub joined_code : Bool → ℕ → ℕ → ℕ
joined_code true a b = bit_or (bit_and (bit_or a b) white_bit) (bit_and (bit_and a b) black_bit)
joined_code false a b = bit_or (bit_and (bit_or a b) black_bit) (bit_and (bit_and a b) white_bit)

-- ---- a leaf's node
pub data LeafOf (names : Named) : Plain → Node → Type 0 where
  colour_leaf : {c : Colour} → LeafOf names (colour c) (of_colour c)
  side_leaf : {turned : Bool} {s : Surface} → IsNamed names s → LeafOf names (side turned s) (of_side turned s)

-- what judging a leaf's node with this code and these values asks, and what it comes to: the code of its mark, and the
-- values over the block
pub record LeafJob (surfaces : Surfaces) (axes : ℕ) (low side : List ℕ) (axis half : ℕ) (high centre : Bool)
    (code : ℕ) (least greatest : ℤ) : Type 0 where
  pub step : Stepping surfaces axes low side axis half high centre
  pub tree : Plain
  pub leaf : Node
  pub stands : LeafOf (named surfaces) tree leaf
  pub code_is : code ≡ node_code leaf
  pub least_is : least ≡ least_of surfaces step.parent leaf
  pub greatest_is : greatest ≡ greatest_of surfaces step.parent leaf
  pub rests : centre ≡ true → half ≡ 0

pub record LeafJudged {surfaces : Surfaces} {axes : ℕ} {low side : List ℕ} {axis half : ℕ} {high centre : Bool}
    {code : ℕ} {least greatest : ℤ} (job : LeafJob surfaces axes low side axis half high centre code least greatest)
    (bits : ℕ) (x y : ℤ) : Type 0 where
  pub judged : bits ≡ left_bits (left_by (marks_of job.step) job.tree)
  pub least_over : x ≡ least_of surfaces (block_of job.step) job.leaf
  pub greatest_over : y ≡ greatest_of surfaces (block_of job.step) job.leaf

-- ---- reading and storing nodes
-- a code stands at a place
abbrev pub code_limit : ℕ
code_limit = 2048

pub record CodeAt (work : List ℤ) (at : ℕ) : Type 0 where
  pub code : ℕ
  pub small : code < code_limit
  pub inside : node_length * at + 2 < length work
  pub is : number_at work (node_length * at) ≡ pos code

-- a node with a code and values that can be stored at a place
pub record Storable (work : List ℤ) (at code : ℕ) (low high : ℤ) : Type 0 where
  pub inside : node_length * at + 2 < length work
  pub small : code < code_limit
  pub small_low : SmallExtreme low
  pub small_high : SmallExtreme high

-- the mark of one tree, or of two, by their codes
abbrev pub whole_mark : List ℕ → ℕ → ℕ
whole_mark codes pending = cond (eqb pending 2) (joined_code true (get_or codes 0 0) (get_or codes 1 0)) (get_or codes 0 0)

-- the most shapes pending, those of one tree over another; the arrays of the shapes' starts and codes have a place for
-- each
abbrev pub most_shapes : ℕ
most_shapes = suc most_pending

pub record Shelves (starts codes : List ℕ) : Type 0 where
  pub starts_long : length starts ≡ most_shapes
  pub codes_long : length codes ≡ most_shapes

-- what pruning comes to: the mark's bits, and from `to` on the nodes of what is left, with their values over the block
pub record Pruned {surfaces : Surfaces} {axes : ℕ} {low side : List ℕ} {axis half : ℕ} {high centre : Bool}
    {work : List ℤ} {from count to : ℕ} (job : Pruning surfaces axes low side axis half high centre work from count to)
    (after : List ℤ) (mark kept : ℕ) : Type 0 where
  pub judged : mark ≡ bits_of (all_mark_by (marks_of job.step) job.trees)
  pub counted : kept ≡ length (all_postfix (all_left_by (marks_of job.step) job.trees))
  pub holds : Holds surfaces (block_of job.step) after to (all_postfix (all_left_by (marks_of job.step) job.trees))
  pub below : SameBelow to work after
