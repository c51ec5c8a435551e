-- The words read leave so many shapes pending, and what is left of the words decides (proofs/Checking.antt).
use Rattle.csg.proofs.Checking.{Counting}
use Rattle.csg.proofs.check_tree.Given as goal

abbrev pub invariant-loop-word : goal.invariant-loop-word
invariant-loop-word l = Counting (record { halfspaces = l.rows; balls = l.balls }) l.words l.pending l.word-index
