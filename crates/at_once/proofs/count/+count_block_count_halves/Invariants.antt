-- The measures of the cycle: twice the levels left, and one more for a block.
use Prim.Native.Nat.{◌+◌, ◌*◌}
use Rattle.at_once.proofs.count.+count_block_count_halves.Given as goal

abbrev pub decreases-count_block : goal.decreases-count_block
decreases-count_block l = 2 * l.left + 1

abbrev pub decreases-count_halves : goal.decreases-count_halves
decreases-count_halves l = 2 * l.left
