-- Rules 16.2 to 16.5: what a caller is promised of a pruned conversion, in terms of what the first conversion answers
-- on the same scene and leaves in the same room.
use Rattle.std.specs.Prelude.{ℕ, ◌*◌, ◌≤◌, ◌<◌, ◌≡◌, true, false, List, ℤ}
use Rattle.universe.specs.declared.Universe.{Universe}
use Rattle.universe.specs.Refusals.{no_room}
use Rattle.bintree.specs.Told.{WrittenAnswer}
use Rattle.csg.specs.Surfaces.{Surfaces}
use Rattle.csg.specs.Tree.{Tree, Plain}
use Rattle.csg.specs.Raw.{blocks_examined}
use Rattle.pruned.specs.Told.{ConversionAnswer}
use Rattle.pruned.specs.Looked.{nodes_looked}
use Rattle.pruned.specs.Answers.{nodes_lent}

-- A pruned conversion that is lent `work` answered `answer` and left `left` in the room for symbols; the first one
-- answered `first` there and left `first_left`. `before` is the number of the checks up to the trees, `needed` the
-- nodes of work room, `tree` what is converted, `trees` the trees that are carried, and `words` the words of all of
-- them.
pub record Alike
    (u : Universe) (surfaces : Surfaces) (before needed words : ℕ) (tree : Tree) (trees : List Plain) (work : List ℤ)
    (first : WrittenAnswer) (first_left : List ℕ) (answer : ConversionAnswer) (left : List ℕ) : Type 0 where
  -- with enough work room its refusal, its length, or need, and the symbols are those of the first conversion, and it
  -- does not lack work room
  pub same_number : needed ≤ nodes_lent work → answer.refusal ≡ first.refusal
  pub same_length : needed ≤ nodes_lent work → answer.length ≡ first.length
  pub same_symbols : needed ≤ nodes_lent work → left ≡ first_left
  pub no_lack : needed ≤ nodes_lent work → answer.short_of_work ≡ false
  -- with less it is refused as the first one is before room is asked for, or lacks work room and says how much it needs
  pub before_work : (before ≡ 0 → ⊥) → answer.refusal ≡ before
  pub lack : before ≡ 0 → nodes_lent work < needed →
      (answer.refusal ≡ no_room) × (answer.short_of_work ≡ true) × (answer.length ≡ needed)
  -- the nodes that it reports are those looked at, at most the examined blocks times the words; none with a refusal
  pub looked : answer.refusal ≡ 0 → answer.looked ≡ nodes_looked u surfaces trees
  pub looked_most : answer.looked ≤ blocks_examined u surfaces tree * words
  pub looked_none : (answer.refusal ≡ 0 → ⊥) → answer.looked ≡ 0
