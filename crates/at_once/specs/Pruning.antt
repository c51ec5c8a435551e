-- How codes are pruned over a block (rule 16.1): a leaf is judged afresh, and the codes of what is left of the trees
-- are written behind those that are read.
use Rattle.std.specs.Prelude.{ℕ, ◌+◌, ◌*◌, ◌≤◌, ◌≡◌, Bool, List, length}
use Rattle.universe.specs.declared.Block.{Block}
use Rattle.csg.specs.Halfspace.{Mark}
use Rattle.csg.specs.Surfaces.{Surfaces, Surface, named}
use Rattle.csg.specs.Tree.{Plain}
use Rattle.csg.specs.Marks.{side_mark}
use Rattle.convert.specs.Codes.{bits_of}
use Rattle.pruned.specs.Left.{left_by, all_mark, all_left}
use Rattle.pruned.specs.Nodes.{Node, node_code, all_postfix, left_bits, LeafOf}
use Rattle.at_once.specs.Codes.{HoldsCodes, SameCodes, AtBlock, block_at, Carrying}

-- the marks of sides over a block
abbrev pub marks_over : Surfaces → Block → Bool → Surface → Mark
marks_over surfaces b turned s = side_mark surfaces turned s b

-- a leaf with this code is judged over the block
pub record LeafJob (surfaces : Surfaces) (axes : ℕ) (low side : List ℕ) (code : ℕ) : Type 0 where
  pub left : ℕ
  pub at : AtBlock surfaces axes low side left
  pub tree : Plain
  pub leaf : Node
  pub stands : LeafOf (named surfaces) tree leaf
  pub code_is : code ≡ node_code leaf

pub record LeafJudged {surfaces : Surfaces} {axes : ℕ} {low side : List ℕ} {code : ℕ}
    (job : LeafJob surfaces axes low side code) (bits : ℕ) : Type 0 where
  pub judged : bits ≡ left_bits (left_by (marks_over surfaces (block_at job.at)) job.tree)

-- the trees whose codes stand from a place on are pruned over the block, with room for as many codes behind them
pub record PruneJob (surfaces : Surfaces) (axes : ℕ) (low side codes : List ℕ) (from count : ℕ) : Type 0 where
  pub left : ℕ
  pub at : AtBlock surfaces axes low side left
  pub carried : Carrying surfaces codes from count
  pub room : from + 2 * count ≤ length codes

-- what that comes to: the mark's bits, and behind the codes that were read those of what is left
pub record PrunedCodes {surfaces : Surfaces} {axes : ℕ} {low side codes : List ℕ} {from count : ℕ}
    (job : PruneJob surfaces axes low side codes from count) (after : List ℕ) (mark kept : ℕ) : Type 0 where
  pub judged : mark ≡ bits_of (all_mark surfaces job.carried.trees (block_at job.at))
  pub counted : kept ≡ length (all_postfix (all_left surfaces job.carried.trees (block_at job.at)))
  pub holds : HoldsCodes after (from + count)
      (all_postfix (all_left surfaces job.carried.trees (block_at job.at)))
  pub below : SameCodes (from + count) codes after
