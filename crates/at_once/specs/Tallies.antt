-- Rule 14.2, block by block: the three counts of a block's voxels in a window, and of both its halves together.
use Rattle.std.specs.Prelude.{ℕ, ◌+◌, ◌^◌, ◌≤◌, true, false, List}
use Rattle.universe.specs.declared.Universe.{Universe}
use Rattle.universe.specs.declared.Block.{Block}
use Rattle.universe.specs.Universe.{most_levels}
use Rattle.csg.specs.Surfaces.{Surfaces}
use Rattle.csg.specs.Tree.{Plain}
use Rattle.pruned.specs.Left.{all_colour}
use Rattle.pruned.specs.Nodes.{Shelves}
use Rattle.masks.specs.Seen.{seen_in}
use Rattle.at_once.specs.declared.answer.Contacts.{Contacts}
use Rattle.at_once.specs.Codes.{block_at}
use Rattle.at_once.specs.Own.{all_own, ThreeShelves}
use Rattle.at_once.specs.Counting.{BlockJob}

-- of trees over a block: those that are sure, black at their centre, and possible
abbrev pub tally_from : ℕ → ℕ → Surfaces → Universe → List Plain → Block → Contacts
tally_from first last surfaces u trees b =
    record {
      sure = seen_in first last (all_own false surfaces u trees) b;
      centre = seen_in first last (all_colour surfaces u trees) b;
      possible = seen_in first last (all_own true surfaces u trees) b;
    }

-- of what is carried into a block
abbrev pub tally_over : {surfaces : Surfaces} {axes : ℕ} {table lengths low side : List ℕ} {left : ℕ} {codes : List ℕ}
    {from count times : ℕ} → ℕ → ℕ → BlockJob surfaces axes table lengths low side left codes from count times → Contacts
tally_over {surfaces = surfaces} first last job =
    tally_from first last surfaces job.at.universe job.carrying.trees (block_at job.at)

-- as many voxels of each kind; two tallies together
abbrev pub tally_of : ℕ → Contacts
tally_of voxels = record { sure = voxels; centre = voxels; possible = voxels }

abbrev pub tallied : Contacts → Contacts → Contacts
tallied a b =
    record { sure = a.sure + b.sure; centre = a.centre + b.centre; possible = a.possible + b.possible }

-- a tally that can be added to another
pub record SmallTally (t : Contacts) : Type 0 where
  pub sure : t.sure ≤ 2 ^ most_levels
  pub centre : t.centre ≤ 2 ^ most_levels
  pub possible : t.possible ≤ 2 ^ most_levels

-- what counting a block has to work in, beside the codes: shelves for pruning, and for the words pending
pub record TallyShelves (starts marks sures centres possibles : List ℕ) : Type 0 where
  pub pruning : Shelves starts marks
  pub words : ThreeShelves sures centres possibles
