-- The measures of the cycle: twice the levels left, and one more for a block.
use Prim.Native.Nat.{◌+◌, ◌*◌}
use Rattle.at_once.proofs.end.+end_block_end_halves.Given as goal

abbrev pub decreases-end_block : goal.decreases-end_block
decreases-end_block l = 2 * l.left + 1

abbrev pub decreases-end_halves : goal.decreases-end_halves
decreases-end_halves l = 2 * l.left
