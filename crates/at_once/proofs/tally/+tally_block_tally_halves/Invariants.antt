-- The measures of the cycle: twice the levels left, and one more for a block.
use Prim.Native.Nat.{◌+◌, ◌*◌}
use Rattle.at_once.proofs.tally.+tally_block_tally_halves.Given as goal

abbrev pub decreases-tally_block : goal.decreases-tally_block
decreases-tally_block l = 2 * l.left + 1

abbrev pub decreases-tally_halves : goal.decreases-tally_halves
decreases-tally_halves l = 2 * l.left
