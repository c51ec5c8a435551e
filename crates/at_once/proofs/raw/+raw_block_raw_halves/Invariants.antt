-- The measures of the cycle: twice the levels left, and one more for a block.
use Prim.Native.Nat.{◌+◌, ◌*◌}
use Rattle.at_once.proofs.raw.+raw_block_raw_halves.Given as goal

abbrev pub decreases-raw_block : goal.decreases-raw_block
decreases-raw_block l = 2 * l.left + 1

abbrev pub decreases-raw_halves : goal.decreases-raw_halves
decreases-raw_halves l = 2 * l.left
