-- How the words of a full tree become codes: MINUS turns over the codes of the later shape and is an INTERSECTION.
use Rattle.std.specs.Prelude.{ℕ, ◌+◌, ◌≤◌, ◌<◌, ◌≡◌, true, List, [], ◌∷◌, ◌++◌, length}
use Rattle.csg.specs.Halfspace.{most_rows}
use Rattle.csg.specs.Ball.{most_balls}
use Rattle.csg.specs.Surfaces.{Named}
use Rattle.csg.specs.Tree.{plain}
use Rattle.csg.specs.Words.{is_operator, tree_refusal, tree_of}
use Rattle.pruned.specs.Nodes.{Node, joining, postfix, most_shapes}
use Rattle.pruned.specs.Loading.{turn_nodes, SmallCodes, meets, turned_for}
use Rattle.at_once.specs.Codes.{HoldsCodes, SameCodes}

-- codes stand from a place up to another; turned over they do so again, and nothing below changes
pub record TurnJob (codes : List ℕ) (from to : ℕ) : Type 0 where
  pub nodes : List Node
  pub small : SmallCodes nodes
  pub holds : HoldsCodes codes from nodes
  pub ends : from + length nodes ≡ to
  pub inside : to ≤ length codes

pub record TurnedCodes {codes : List ℕ} {from to : ℕ} (job : TurnJob codes from to) (after : List ℕ) : Type 0 where
  pub holds : HoldsCodes after from (turn_nodes job.nodes)
  pub below : SameCodes from codes after

-- what comes of an operator's word: the codes of the later shape stand from a place up to another, where its own comes
pub record JoinJob (codes : List ℕ) (start at word : ℕ) : Type 0 where
  pub nodes : List Node
  pub small : SmallCodes nodes
  pub holds : HoldsCodes codes start nodes
  pub ends : start + length nodes ≡ at
  pub operator : is_operator word ≡ true
  pub inside : at < length codes

pub record JoinedCodes {codes : List ℕ} {start at word : ℕ} (job : JoinJob codes start at word) (after : List ℕ) :
    Type 0 where
  pub holds : HoldsCodes after start (turned_for word job.nodes ++ (joining (meets word) ∷ []))
  pub below : SameCodes start codes after

-- a tree's words, loaded from a place on
pub record LoadJob (words codes : List ℕ) (from : ℕ) (starts : List ℕ) : Type 0 where
  pub names : Named
  pub few_rows : names.halfspaces ≤ most_rows
  pub few_balls : names.balls ≤ most_balls
  pub accepted : tree_refusal names words ≡ 0
  pub inside : from + length words ≤ length codes
  pub starts_long : length starts ≡ most_shapes

pub record LoadedCodes {words codes : List ℕ} {from : ℕ} {starts : List ℕ} (job : LoadJob words codes from starts)
    (after starts' : List ℕ) : Type 0 where
  pub holds : HoldsCodes after from (postfix (plain (tree_of job.names words)))
  pub counted : length (postfix (plain (tree_of job.names words))) ≡ length words
  pub below : SameCodes from codes after
  pub starts_long : length starts' ≡ most_shapes
