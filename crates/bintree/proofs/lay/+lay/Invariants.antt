-- Each part has one level less.
use Rattle.bintree.proofs.lay.+lay.Given as goal

abbrev pub decreases-lay : goal.decreases-lay
decreases-lay l = l.left
