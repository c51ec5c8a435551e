-- Each part has one level less.
use Rattle.bintree.proofs.measure.+measure.Given as goal

abbrev pub decreases-measure : goal.decreases-measure
decreases-measure l = l.left
