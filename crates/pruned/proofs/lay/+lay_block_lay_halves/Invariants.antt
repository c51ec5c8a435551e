-- The measures of the cycle: twice the levels left, and one more for a block.
use Prim.Native.Nat.{◌+◌, ◌*◌}
use Rattle.pruned.proofs.lay.+lay_block_lay_halves.Given as goal

abbrev pub decreases-lay_block : goal.decreases-lay_block
decreases-lay_block l = 2 * l.left + 1

abbrev pub decreases-lay_halves : goal.decreases-lay_halves
decreases-lay_halves l = 2 * l.left
