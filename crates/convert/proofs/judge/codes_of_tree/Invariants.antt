-- The words are read over the pending codes, the last one apart and the others in an array: as reading words with any meaning, at the meaning that gives leaves
-- and operators their codes. The slot is that of the next word.
use Rattle.std.proofs.Common.{◌≡◌, ◌+◌, ◌-◌, length}
use Rattle.csg.specs.Surfaces.{surfaces_of, named}
use Rattle.csg.specs.Tree.{leaf}
use Rattle.csg.proofs.Evaluation.{Evaluating}
use Rattle.convert.specs.Codes.{join_code}
use Rattle.convert.specs.Blocks.{block_left, full_codes}
use Rattle.convert.proofs.Slots.{named_by}
use Rattle.convert.proofs.judge.codes_of_tree.Given as goal

abbrev pub invariant-loop-i : goal.invariant-loop-i
invariant-loop-i l =
    Evaluating
    (λ t. full_codes (surfaces_of l.rows l.balls) (leaf t) l.left (block_left l.universe l.left l.low) (block_left l.universe l.left l.high))
    join_code (named (surfaces_of l.rows l.balls)) l.words 0 l.pending l.top l.n l.i
    × (l.slot ≡ l.from + length (named_by l.words l.i))

abbrev pub decreases-loop-i : goal.decreases-loop-i
decreases-loop-i l = length l.words - l.i
