-- The measures of the cycle: twice the levels left, and one more for a block.
use Prim.Native.Nat.{◌+◌, ◌*◌}
use Rattle.pruned.proofs.lone.+lone_block_lone_halves.Given as goal

abbrev pub decreases-lone_block : goal.decreases-lone_block
decreases-lone_block l = 2 * l.left + 1

abbrev pub decreases-lone_halves : goal.decreases-lone_halves
decreases-lone_halves l = 2 * l.left
