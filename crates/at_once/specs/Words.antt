-- What the words of a block ask: the tables of its halvings, and numbers so small that no sum of a row's value and its
-- steps, nor of a ball's squares, overflows.
use Rattle.std.specs.Prelude.{ℕ, ◌+◌, ◌-◌, ◌*◌, ◌%◌, ◌^◌, ◌≤◌, ◌<◌, ◌≡◌, Bool, true, false, cond, List, ltb, eqb, ℤ, pos, nat_abs, ◌+ℤ◌, ◌*ℤ◌, length, get_or}
use Rattle.std.specs.Int.Count.{count_trailing_zeros}
use Rattle.std.specs.Int.Bits.{bit_and, bit_or}
use Rattle.std.specs.Int.Signed.{le_z}
use Rattle.lemmas.specs.Sums.{sum, total}
use Rattle.universe.specs.declared.Universe.{Universe}
use Rattle.universe.specs.declared.Block.{Block}
use Rattle.universe.specs.Universe.{most_axes, longest_side, universe_refusal, levels, frame_axis, block_side}
use Rattle.universe.specs.Questions.{axes_left}
use Rattle.universe.specs.Block.{Given}
use Rattle.csg.specs.Halfspace.{Halfspace, row_at, row_count}
use Rattle.csg.specs.Ball.{Ball, place_axes, most_places, radius_squared, off, ball_at, ball_count, ball_within}
use Rattle.csg.specs.Surfaces.{Surfaces, Surface, named, IsNamed}
use Rattle.csg.specs.Tree.{Plain}
use Rattle.convert.specs.Blocks.{block_left}
use Rattle.convert.specs.Small.{SmallPlace, SmallHalfspace, SmallBall}
use Rattle.pruned.specs.Nodes.{Node, node_code, word_of, LeafOf}
use Rattle.pruned.specs.Laying.{SoundScene}
use Rattle.masks.specs.Steps.{side_left}
use Rattle.masks.specs.Leaves.{value_limit, step_limit, off_limit, off_first, first_distance}
use Rattle.at_once.specs.Codes.{Carrying}

-- the levels of a block whose voxels have a digit each in one word
abbrev pub word_levels : ℕ
word_levels = 6

-- how often 1 is doubled to a length that is a power of two
abbrev pub doublings_of : ℕ → ℕ
doublings_of length = count_trailing_zeros 64 length % 64

-- the axes of a universe's halvings and the lengths of their halves, by the levels left, as far as words go
pub record Tabled (u : Universe) (table lengths : List ℕ) : Type 0 where
  pub axis_at_lem : table ≡ axes_left u
  pub length_at : (j : ℕ) → j < word_levels → j < levels u → get_or lengths j 0 ≡ side_left u j
  pub short : (j : ℕ) → SmallPlace (get_or lengths j 0)
  pub power : (j : ℕ) → j < word_levels → get_or lengths j 0 ≡ 2 ^ doublings_of (get_or lengths j 0)

-- the last so many halvings of an accepted universe, one of whose axes counts frames
pub record Halvings (frame : ℕ) (table lengths : List ℕ) (left : ℕ) : Type 0 where
  pub universe : Universe
  pub accepted : universe_refusal universe ≡ 0
  pub frame_is : frame ≡ frame_axis universe
  pub tabled : Tabled universe table lengths
  pub few : left ≤ word_levels
  pub above : left ≤ levels universe

-- the block's frames: the first one, and how many
pub record Framed (axis : ℕ) (table lengths : List ℕ) (left frame wide : ℕ) : Type 0 where
  pub halvings : Halvings axis table lengths left
  pub wide_is :
      wide ≡ block_side halvings.universe (levels halvings.universe - left) (frame_axis halvings.universe)
  pub inside : frame + wide ≤ longest_side

-- a block with so many levels left and these low places, in a scene that no check refuses, and the tables of its
-- halvings
pub record WordBlock (surfaces : Surfaces) (axes : ℕ) (table lengths low : List ℕ) (left : ℕ) : Type 0 where
  pub universe : Universe
  pub scene : SoundScene universe surfaces
  pub axes_are : axes ≡ universe.axes
  pub given : Given (block_left universe left low)
  pub above : left ≤ levels universe
  pub tabled : Tabled universe table lengths
  pub few : left ≤ word_levels

abbrev pub word_block : {surfaces : Surfaces} {axes : ℕ} {table lengths low : List ℕ} {left : ℕ} →
    WordBlock surfaces axes table lengths low left → Block
word_block {low = low} {left = left} w = block_left w.universe left low

-- ---- rows
-- the step of a digit
abbrev pub step_at : List ℤ → ℕ → ℤ
step_at steps j = get_or steps j (pos 0)

-- a value with the steps of some digits from n on added, and a step for each digit
pub record RowReady (n : ℕ) (v : ℤ) (steps : List ℤ) : Type 0 where
  pub value : nat_abs v ≤ value_limit + (word_levels - n) * step_limit
  pub step : (j : ℕ) → nat_abs (step_at steps j) ≤ step_limit

-- what an axis adds to twice a row's value at the centre of the voxel with these low places, and that value
abbrev pub term_of : Halfspace → List ℕ → ℕ → ℤ
term_of h low axis = h.coefficient axis *ℤ pos (2 * get_or low axis 0 + 1)

unfoldable pub first_value : Halfspace → List ℕ → ℤ
first_value h low = pos 2 *ℤ h.offset +ℤ total most_axes (term_of h low)

-- what digit j adds to it
abbrev pub step_of : Halfspace → List ℕ → List ℕ → ℕ → ℤ
step_of h table lengths j = pos 2 *ℤ h.coefficient (get_or table j 0) *ℤ pos (get_or lengths j 0)

-- a row that there is, within its limits
pub record RowNamed (rows : List ℤ) (i : ℕ) : Type 0 where
  pub here : i < row_count rows
  pub small : SmallHalfspace (row_at rows i)

-- tables of axes and of lengths that no step oversteps
pub record SmallTables (table lengths : List ℕ) : Type 0 where
  pub axis : (j : ℕ) → j < word_levels → get_or table j 0 < most_axes
  pub short : (j : ℕ) → SmallPlace (get_or lengths j 0)
  pub power : (j : ℕ) → j < word_levels → get_or lengths j 0 ≡ 2 ^ doublings_of (get_or lengths j 0)

pub record StepsOf (h : Halfspace) (table lengths : List ℕ) (steps : List ℤ) : Type 0 where
  pub step : (j : ℕ) → j < word_levels → step_at steps j ≡ step_of h table lengths j
  pub beyond : (j : ℕ) → word_levels ≤ j → step_at steps j ≡ pos 0

-- what falls by a step and what rises, by each of some steps
abbrev pub fall_of : ℤ → ℤ
fall_of s = cond (le_z (pos 0) s) (pos 0) s

abbrev pub rise_of : ℤ → ℤ
rise_of s = cond (le_z (pos 0) s) s (pos 0)

abbrev pub fall_at : List ℤ → ℕ → ℤ
fall_at steps j = fall_of (step_at steps j)

abbrev pub rise_at : List ℤ → ℕ → ℤ
rise_at steps j = rise_of (step_at steps j)

pub record SmallSteps (steps : List ℤ) : Type 0 where
  pub step : (j : ℕ) → nat_abs (step_at steps j) ≤ step_limit

-- two values in one number, 32 digits apart, each with 2^30 more; and a step in both places
abbrev pub paired : ℤ → ℤ → ℤ
paired x y = (y +ℤ pos (2 ^ 30)) *ℤ pos (2 ^ 32) +ℤ (x +ℤ pos (2 ^ 30))

abbrev pub in_both : ℤ → ℤ
in_both s = s *ℤ pos (2 ^ 32 + 1)

pub record OnePair (pair : ℤ) : Type 0 where
  pub first : ℤ
  pub second : ℤ
  pub pair_is : pair ≡ paired first second
  pub few_first : nat_abs first < 2 ^ 30
  pub few_second : nat_abs second < 2 ^ 30

-- two values so small that with n steps more, each in both places, they stay so
abbrev pub sizes_of : ℕ → (ℕ → ℤ) → ℕ
sizes_of n step = sum n (λ j. nat_abs (step j))

pub record PairReady (n : ℕ) (pair : ℤ) (steps : List ℤ) : Type 0 where
  pub first : ℤ
  pub second : ℤ
  pub step : ℕ → ℤ
  pub pair_is : pair ≡ paired first second
  pub steps_are : (j : ℕ) → j < n → step_at steps j ≡ in_both (step j)
  pub few_first : nat_abs first + sizes_of n step < 2 ^ 30
  pub few_second : nat_abs second + sizes_of n step < 2 ^ 30

-- steps that have room, and those of five digits in both places
pub record FewSteps (steps : List ℤ) : Type 0 where
  pub few : (j : ℕ) → j < word_levels → nat_abs (step_at steps j) < 2 ^ 30

pub record TwiceSteps (steps both : List ℤ) : Type 0 where
  pub twice : (j : ℕ) → j < 5 → step_at both j ≡ in_both (step_at steps j)

-- a value that has room with all its steps
pub record FewValues (v : ℤ) (steps : List ℤ) : Type 0 where
  pub few : nat_abs v + sizes_of word_levels (step_at steps) < 2 ^ 30

-- ---- balls
-- a ball that there is, within its limits
pub record BallNamed (balls : List ℤ) (i : ℕ) : Type 0 where
  pub here : i < ball_count balls
  pub small : SmallBall (ball_at balls i)

-- how far the centre of the voxel with these low places is off a ball's centre along each axis, doubled
pub record OffsOf (ball : Ball) (low : List ℕ) (offs : List ℤ) : Type 0 where
  pub long : length offs ≡ most_places
  pub off_at : (i : ℕ) → i < most_places → step_at offs i ≡ off 2 (2 * get_or low i 0 + 1) (ball.centre i)

pub record SmallOff (x : ℤ) : Type 0 where
  pub most : nat_abs x ≤ off_limit + 1

pub record SmallOffs (offs : List ℤ) : Type 0 where
  pub along : (i : ℕ) → i < most_places → SmallOff (step_at offs i)

-- its square along one of the place axes, and the sum of the squares
abbrev pub square_along : ℕ → ℕ → ℤ → ℤ
square_along axis places x = cond (ltb axis places) (x *ℤ x) (pos 0)

abbrev pub squares_of : ℕ → List ℤ → ℤ
squares_of places offs =
    square_along 0 places (step_at offs 0) +ℤ square_along 1 places (step_at offs 1)
    +ℤ square_along 2 places (step_at offs 2)

-- how far the centre of a block's first voxel is off a ball's centre along the place axes, doubled, and the sum of the
-- squares, against four times the radius squared
pub record BallOver (places : ℕ) (table lengths : List ℕ) (left : ℕ) (offs : List ℤ) (distance most : ℤ) : Type 0 where
  pub ball : Ball
  pub block : Block
  pub within : ball_within block.universe ball ≡ true
  pub given : Given block
  pub levels_left : block.level + left ≡ levels block.universe
  pub few : left ≤ word_levels
  pub tabled : Tabled block.universe table lengths
  pub places_are : places ≡ place_axes block.universe
  pub long : length offs ≡ most_places
  pub offs_are : (i : ℕ) → i < places → step_at offs i ≡ off_first ball block i
  pub distance_is : distance ≡ first_distance ball block
  pub most_is : most ≡ pos (4 * radius_squared ball)

-- ---- leaves and trees
-- a surface that a word names over a block
pub record SurfaceWord (surfaces : Surfaces) (axes : ℕ) (table lengths low : List ℕ) (left name : ℕ) : Type 0 where
  pub block : WordBlock surfaces axes table lengths low left
  pub surface : Surface
  pub is_named : IsNamed (named surfaces) surface
  pub name_is : name ≡ word_of surface

-- a leaf whose node has a code
pub record LeafWord (surfaces : Surfaces) (axes : ℕ) (table lengths low : List ℕ) (left code : ℕ) : Type 0 where
  pub block : WordBlock surfaces axes table lengths low left
  pub tree : Plain
  pub leaf : Node
  pub stands : LeafOf (named surfaces) tree leaf
  pub code_is : code ≡ node_code leaf

-- the trees whose codes stand from a place on
pub record TreesWord (surfaces : Surfaces) (axes : ℕ) (table lengths low : List ℕ) (left : ℕ) (codes : List ℕ)
    (from count : ℕ) : Type 0 where
  pub block : WordBlock surfaces axes table lengths low left
  pub carried : Carrying surfaces codes from count

-- two words joined by an operator, INTERSECTION where `meet`
abbrev pub joined_word : Bool → ℕ → ℕ → ℕ
joined_word true x y = bit_and x y
joined_word false x y = bit_or x y

-- the word of one tree, or of two
abbrev pub whole_word : List ℕ → ℕ → ℕ
whole_word words pending = cond (eqb pending 2) (bit_and (get_or words 0 0) (get_or words 1 0)) (get_or words 0 0)
