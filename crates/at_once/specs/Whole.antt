-- What the whole universe asks: two trees that no check refuses, over a window; and how their codes are loaded, one
-- behind the other.
use Rattle.std.specs.Prelude.{ℕ, suc, ◌+◌, ◌*◌, ◌^◌, ◌≤◌, ◌<◌, ◌≡◌, List, [], ◌∷◌, ℤ, length}
use Rattle.universe.specs.declared.Universe.{Universe}
use Rattle.universe.specs.Universe.{most_levels}
use Rattle.universe.specs.Voxel.{window_refusal}
use Rattle.csg.specs.Halfspace.{most_rows, row_at, row_count}
use Rattle.csg.specs.Ball.{most_balls}
use Rattle.csg.specs.Surfaces.{Surfaces, Named, named}
use Rattle.csg.specs.Tree.{Plain, plain}
use Rattle.csg.specs.Words.{most_words, tree_refusal, tree_of}
use Rattle.convert.specs.Small.{SmallHalfspace}
use Rattle.pruned.specs.Nodes.{all_postfix, most_shapes}
use Rattle.pruned.specs.Laying.{SoundScene}
use Rattle.at_once.specs.Codes.{HoldsCodes}
use Rattle.at_once.specs.Moves.{Begun}

-- the most codes that stand at once: those of two trees for each level, and once more
abbrev pub most_codes : ℕ
most_codes = suc most_levels * (2 * most_words)

-- both trees of a run
abbrev pub both_trees : Named → List ℕ → List ℕ → List Plain
both_trees names first second = plain (tree_of names first) ∷ plain (tree_of names second) ∷ []

pub record BothJob (rows : List ℤ) (first second codes starts : List ℕ) (values : List ℤ) : Type 0 where
  pub names : Named
  pub rows_are : names.halfspaces ≡ row_count rows
  pub small : (i : ℕ) → i < row_count rows → SmallHalfspace (row_at rows i)
  pub few_rows : names.halfspaces ≤ most_rows
  pub few_balls : names.balls ≤ most_balls
  pub accepted_first : tree_refusal names first ≡ 0
  pub accepted_second : tree_refusal names second ≡ 0
  pub inside : length first + length second ≤ length codes
  pub bounded : length codes < 2 ^ 60
  pub starts_long : length starts ≡ most_shapes
  pub values_long : length values ≡ most_rows

pub record BothLoaded {rows : List ℤ} {first second codes starts : List ℕ} {values : List ℤ}
    (job : BothJob rows first second codes starts values) (after starts' : List ℕ) (values' : List ℤ) : Type 0 where
  pub holds : HoldsCodes after 0 (all_postfix (both_trees job.names first second))
  pub counted : length first + length second ≡ length (all_postfix (both_trees job.names first second))
  pub long : length after ≡ length codes
  pub begun : Begun rows after (length first + length second) values'
  pub starts_long : length starts' ≡ most_shapes

-- two trees that no check refuses, over a window
pub record WholeReady (u : Universe) (surfaces : Surfaces) (first second : List ℕ) (from to : ℕ) : Type 0 where
  pub scene : SoundScene u surfaces
  pub accepted_first : tree_refusal (named surfaces) first ≡ 0
  pub accepted_second : tree_refusal (named surfaces) second ≡ 0
  pub window : window_refusal u from to ≡ 0
