-- What the words of sure and possible contact ask, of the marks over the voxels' own blocks: as words of colours, for
-- balls the numbers along each axis; and the three words of a block, sure, black at the centre, and possible.
use Rattle.std.specs.Prelude.{ℕ, ◌+◌, ◌-◌, ◌*◌, ◌≤◌, ◌<◌, ◌≡◌, Bool, true, false, cond, List, ltb, ℤ, length, ◌≤ℤ◌}
use Rattle.universe.specs.declared.Universe.{Universe}
use Rattle.universe.specs.declared.Block.{Block}
use Rattle.universe.specs.Universe.{most_axes, coefficient_limit}
use Rattle.csg.specs.Ball.{most_places, square}
use Rattle.csg.specs.Surfaces.{Surfaces, Surface}
use Rattle.csg.specs.Tree.{Plain}
use Rattle.csg.specs.Marks.{surface_colour, plain_colour}
use Rattle.demands.specs.Voxels.{Colouring}
use Rattle.contacts.specs.Contacts.{block_of, settled}
use Rattle.masks.specs.Block.{block_mask}
use Rattle.masks.specs.Leaves.{row_mask}
use Rattle.masks.specs.Own.{doubt_of, own_surface, own_colour, spread}
use Rattle.pruned.specs.Left.{all_mark, all_colour}
use Rattle.pruned.specs.Nodes.{most_shapes}
use Rattle.at_once.specs.declared.three.Three.{Three}
use Rattle.at_once.specs.Words.{word_levels, step_at, RowReady, SmallOff, BallOver}

-- the trees of a run, by their mark over each voxel's own block, doubt settled
unfoldable pub all_own : Bool → Surfaces → Universe → List Plain → Colouring
all_own possible surfaces u ps v = settled (doubt_of possible) (all_mark surfaces ps (block_of u v))

-- a reach
pub record SmallReach (n : ℕ) : Type 0 where
  pub most : n ≤ most_axes * coefficient_limit

-- numbers along the place axes
pub record SpreadReady (axis places : ℕ) (x : ℤ) : Type 0 where
  pub small : axis < places → SmallOff x

pub record SpreadsReady (places : ℕ) (offs : List ℤ) : Type 0 where
  pub along : (i : ℕ) → i < places → i < most_places → SmallOff (step_at offs i)

-- the square of twice the nearest or the farthest distance along one of the place axes, and the sum of the squares
abbrev pub spread_square : Bool → ℕ → ℕ → ℤ → ℕ
spread_square possible axis places x = cond (ltb axis places) (square (spread possible x)) 0

abbrev pub spread_squares : Bool → ℕ → List ℤ → ℕ
spread_squares possible places offs =
    spread_square possible 0 places (step_at offs 0) + spread_square possible 1 places (step_at offs 1)
    + spread_square possible 2 places (step_at offs 2)

-- a ball over a block, as it is for colours; the sum of the squares at the first voxel's centre is not carried
pub record OwnBallOver (places : ℕ) (table lengths : List ℕ) (left : ℕ) (offs : List ℤ) (most : ℤ) : Type 0 where
  pub distance : ℤ
  pub over : BallOver places table lengths left offs distance most

-- ---- three words
-- one word thrice; and those of the other side, where sure is what was not possible
abbrev pub alike_words : ℕ → Three
alike_words word = record { sure = word; centre = word; possible = word }

abbrev pub reversed_words : ℕ → Three → Three
reversed_words ones words =
    record { sure = ones - words.possible; centre = ones - words.centre; possible = ones - words.sure }

pub record WithinOnes (ones : ℕ) (words : Three) : Type 0 where
  pub sure : words.sure ≤ ones
  pub centre : words.centre ≤ ones
  pub possible : words.possible ≤ ones

-- a row's value with its reach taken, itself, and with its reach added, in their order; and their three words
pub record ThreeReady (below v above : ℤ) (steps : List ℤ) : Type 0 where
  pub sure : RowReady word_levels below steps
  pub centre : RowReady word_levels v steps
  pub possible : RowReady word_levels above steps
  pub under : below ≤ℤ v
  pub over : v ≤ℤ above

pub record ThreeMasks (below v above : ℤ) (steps : List ℤ) (left : ℕ) (words : Three) : Type 0 where
  pub sure : words.sure ≡ row_mask below (step_at steps) left
  pub centre : words.centre ≡ row_mask v (step_at steps) left
  pub possible : words.possible ≡ row_mask above (step_at steps) left

-- the words of three colourings of a block; those of a surface, of a tree, and of the trees of a run
pub record ThreeWords (sures centres possibles : Colouring) (left : ℕ) (b : Block) (words : Three) : Type 0 where
  pub sure : words.sure ≡ block_mask sures left b
  pub centre : words.centre ≡ block_mask centres left b
  pub possible : words.possible ≡ block_mask possibles left b

abbrev pub SurfaceThree : Surfaces → Universe → Surface → ℕ → Block → Three → Type 0
SurfaceThree surfaces u s =
    ThreeWords (own_surface false surfaces u s) (surface_colour surfaces u s) (own_surface true surfaces u s)

abbrev pub TreeThree : Surfaces → Universe → Plain → ℕ → Block → Three → Type 0
TreeThree surfaces u p =
    ThreeWords (own_colour false surfaces u p) (plain_colour surfaces u p) (own_colour true surfaces u p)

abbrev pub AllThree : Surfaces → Universe → List Plain → ℕ → Block → Three → Type 0
AllThree surfaces u ps = ThreeWords (all_own false surfaces u ps) (all_colour surfaces u ps) (all_own true surfaces u ps)

-- room for the words pending of as many shapes as can be
pub record ThreeShelves (sures centres possibles : List ℕ) : Type 0 where
  pub sures_long : length sures ≡ most_shapes
  pub centres_long : length centres ≡ most_shapes
  pub possibles_long : length possibles ≡ most_shapes
