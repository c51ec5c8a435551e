-- How the words of the full trees become nodes in the work room: with a halfspace's values over the whole universe,
-- axis by axis, and, for a reversal, turned over.
use Rattle.std.specs.Prelude.{ℕ, zero, suc, ◌+◌, ◌*◌, ◌-◌, ◌%◌, ◌^◌, ◌≤◌, ◌<◌, ◌≡◌, Bool, true, false, not, cond, ltb, eqb, List, [], ◌∷◌, ◌++◌, ℤ, ◌+ℤ◌, length, get_or, replicate}
use Rattle.universe.specs.declared.Universe.{Universe}
use Rattle.universe.specs.Universe.{least_axes, most_axes, levels}
use Rattle.universe.specs.declared.Block.{Block}
use Rattle.bintree.specs.declared.Colour.TheVariants.{White, Black}
use Rattle.csg.specs.Halfspace.{Halfspace, row_at, row_count}
use Rattle.csg.specs.Surfaces.{Surfaces, named}
use Rattle.csg.specs.Tree.{Leaf, white, black, surface, as_it_is, plain}
use Rattle.csg.specs.Words.{minus_word, is_operator, is_leaf, leaf_of, tree_refusal, tree_of}
use Rattle.csg.specs.Marks.{opposite_colour}
use Rattle.convert.specs.Small.{SmallHalfspace, SmallPlaces}
use Rattle.convert.specs.Blocks.{Standing, block_left}
use Rattle.pruned.specs.declared.leaf.Extremes.{Extremes}
use Rattle.pruned.specs.Nodes.{Node, of_colour, of_side, joining, postfix, node_code, least_of, greatest_of, rises}
use Rattle.pruned.specs.Nodes.{falls}
use Rattle.pruned.specs.Nodes.{node_length, number_at, Holds, SameBelow, code_limit, most_shapes}
use Rattle.pruned.specs.Laying.{SoundScene}

-- the values over a block that begins at 0 along every axis, with what one more axis adds
abbrev pub widened : Extremes → ℤ → ℕ → Extremes
widened e a side = record { least = e.least +ℤ falls a side; greatest = e.greatest +ℤ rises a side }

unfoldable pub whole_extremes : ℕ → Halfspace → List ℕ → Extremes
whole_extremes zero h side = record { least = h.offset; greatest = h.offset }
whole_extremes (suc n) h side = widened (whole_extremes n h side) (h.coefficient n) (get_or side n 0)

pub record WholeReady (axes : ℕ) (rows : List ℤ) (i : ℕ) (side : List ℕ) : Type 0 where
  pub some : least_axes ≤ axes
  pub few : axes ≤ most_axes
  pub named : i < row_count rows
  pub small : SmallHalfspace (row_at rows i)
  pub sides : SmallPlaces side

-- a node turned over, which rule 3.4 asks of a reversal: its code, and that of any node
abbrev pub turn_node : Node → Node
turn_node (of_colour c) = of_colour (opposite_colour c)
turn_node (of_side turned s) = of_side (not turned) s
turn_node (joining meet) = joining (not meet)

unfoldable pub turn_nodes : List Node → List Node
turn_nodes [] = []
turn_nodes (n ∷ ns) = turn_node n ∷ turn_nodes ns

abbrev pub turned_number : ℕ → ℕ
turned_number code =
    cond (ltb code 3) (2 - code) (cond (ltb code 8) (10 - code) (cond (eqb (code % 2) 0) (code + 1) (code - 1)))

-- codes that are small, turned over too
pub data SmallCodes : List Node → Type 0 where
  no_codes : SmallCodes []
  code_small : {n : Node} {ns : List Node} → node_code n + 1 < code_limit → SmallCodes ns → SmallCodes (n ∷ ns)

-- nodes stand from a place up to another, with their values over some block; turned over they do so again, and nothing
-- else changes
pub record Turning (work : List ℤ) (from to : ℕ) : Type 0 where
  pub surfaces : Surfaces
  pub block : Block
  pub nodes : List Node
  pub small : SmallCodes nodes
  pub holds : Holds surfaces block work from nodes
  pub ends : from + length nodes ≡ to
  pub inside : node_length * to ≤ length work
  pub bounded : length work < 2 ^ 60

pub record Turned {work : List ℤ} {from to : ℕ} (job : Turning work from to) (after : List ℤ) : Type 0 where
  pub holds : Holds job.surfaces job.block after from (turn_nodes job.nodes)
  pub same_below : (k : ℕ) → k < node_length * from → number_at after k ≡ number_at work k
  pub long : length after ≡ length work

-- ---- words
-- the node of a leaf's word, and whether an operator's word is INTERSECTION's node: MINUS is one, over nodes turned
-- over
abbrev pub leaf_node : Leaf → Node
leaf_node white = of_colour White
leaf_node black = of_colour Black
leaf_node (surface s) = of_side as_it_is s

abbrev pub meets : ℕ → Bool
meets word = cond (eqb word 2) false true

abbrev pub turned_for : ℕ → List Node → List Node
turned_for word ns = cond (eqb word minus_word) (turn_nodes ns) ns

-- what comes of an operator's word: the nodes of the later shape stand from a place up to another, where its node comes
pub record Joining (work : List ℤ) (start at word : ℕ) : Type 0 where
  pub surfaces : Surfaces
  pub block : Block
  pub nodes : List Node
  pub small : SmallCodes nodes
  pub holds : Holds surfaces block work start nodes
  pub ends : start + length nodes ≡ at
  pub operator : is_operator word ≡ true
  pub inside : node_length * at + 2 < length work
  pub bounded : length work < 2 ^ 60

pub record Joined {work : List ℤ} {start at word : ℕ} (job : Joining work start at word) (after : List ℤ) : Type 0 where
  pub holds : Holds job.surfaces job.block after start (turned_for word job.nodes ++ (joining
      (meets word) ∷ []))
  pub below : SameBelow start work after

-- the scene whose rows and sides these are, and the whole universe's block
pub record Sources (axes : ℕ) (rows : List ℤ) (side : List ℕ) : Type 0 where
  pub universe : Universe
  pub surfaces : Surfaces
  pub scene : SoundScene universe surfaces
  pub rows_are : rows ≡ surfaces.rows
  pub axes_are : axes ≡ universe.axes
  pub standing : Standing universe (levels universe) (replicate most_axes 0) side

abbrev pub whole_of : Universe → Block
whole_of u = block_left u (levels u) (replicate most_axes 0)

-- a leaf's word, and the values of its node over the whole universe
pub record LeafWord (axes : ℕ) (rows : List ℤ) (side : List ℕ) (word : ℕ) : Type 0 where
  pub sources : Sources axes rows side
  pub leaf : is_leaf (named sources.surfaces) word ≡ true

pub record LeafValues {axes : ℕ} {rows : List ℤ} {side : List ℕ} {word : ℕ} (job : LeafWord axes rows side word)
    (x y : ℤ) : Type 0 where
  pub least_is : x ≡ least_of job.sources.surfaces (whole_of job.sources.universe) (leaf_node (leaf_of word))
  pub greatest_is : y ≡ greatest_of job.sources.surfaces (whole_of job.sources.universe) (leaf_node (leaf_of word))

-- a tree's words, loaded from a place on
pub record Loading (axes : ℕ) (rows : List ℤ) (side words : List ℕ) (work : List ℤ) (from : ℕ) (starts : List ℕ) :
    Type 0 where
  pub sources : Sources axes rows side
  pub accepted : tree_refusal (named sources.surfaces) words ≡ 0
  pub inside : node_length * (from + length words) ≤ length work
  pub bounded : length work < 2 ^ 60
  pub starts_long : length starts ≡ most_shapes

pub record Loaded {axes : ℕ} {rows : List ℤ} {side words : List ℕ} {work : List ℤ} {from : ℕ} {starts : List ℕ}
    (job : Loading axes rows side words work from starts) (after : List ℤ) (starts' : List ℕ) : Type 0 where
  pub holds : Holds job.sources.surfaces (whole_of job.sources.universe) after from
      (postfix (plain (tree_of (named job.sources.surfaces) words)))
  pub counted : length (postfix (plain (tree_of (named job.sources.surfaces) words))) ≡ length words
  pub below : SameBelow from work after
  pub starts_long : length starts' ≡ most_shapes
