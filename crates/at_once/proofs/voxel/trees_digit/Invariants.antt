-- `trees_digit` reads node by node over the digits pending (`Going`): an operator joins the two last, a leaf is pushed.
use Rattle.csg.specs.Surfaces.{surfaces_of}
use Rattle.at_once.specs.Voxel.{VoxelTrees}
use Rattle.at_once.proofs.TreeWords.{tree_word, Going}
use Rattle.at_once.proofs.voxel.trees_digit.Given as goal

abbrev pub invariant-loop-i : goal.invariant-loop-i
invariant-loop-i l =
    (job : VoxelTrees (surfaces_of l.rows l.balls) l.axes l.low l.codes l.from l.count) →
    Going (tree_word job.word.block) job.word l.digits l.pending l.i
