-- The measures of the cycle: twice the levels left, and one more for a block.
use Prim.Native.Nat.{◌+◌, ◌*◌}
use Rattle.pruned.proofs.round.+ball_block_ball_halves.Given as goal

abbrev pub decreases-ball_block : goal.decreases-ball_block
decreases-ball_block l = 2 * l.left + 1

abbrev pub decreases-ball_halves : goal.decreases-ball_halves
decreases-ball_halves l = 2 * l.left
