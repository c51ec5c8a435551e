-- Twice the levels left, and one more where a half is not known to be undecided.
use Rattle.std.proofs.Common.{◌+◌, ◌*◌}
use Rattle.convert.proofs.lay.+lay_half_lay_halves.Given as goal

abbrev pub decreases-lay_half : goal.decreases-lay_half
decreases-lay_half l = 2 * l.left + 1

abbrev pub decreases-lay_halves : goal.decreases-lay_halves
decreases-lay_halves l = 2 * l.left
