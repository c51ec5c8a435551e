-- The levels left fall from a block to its halves.
use Rattle.report.proofs.row.+fill.Given as goal

abbrev pub decreases-fill : goal.decreases-fill
decreases-fill l = l.left
