-- The measures of the cycle: twice the levels left, and more for the halves than for a block with as many levels left.
use Rattle.std.proofs.Common.{◌+◌, ◌*◌}
use Rattle.sweep.proofs.block.+sweep_across_sweep_block_sweep_halves.Given as goal

abbrev pub decreases-sweep_across : goal.decreases-sweep_across
decreases-sweep_across l = 2 * l.left + 2

abbrev pub decreases-sweep_block : goal.decreases-sweep_block
decreases-sweep_block l = 2 * l.left + 1

abbrev pub decreases-sweep_halves : goal.decreases-sweep_halves
decreases-sweep_halves l = 2 * l.left + 2
