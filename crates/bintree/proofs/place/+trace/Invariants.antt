-- Each part has one level less.
use Rattle.bintree.proofs.place.+trace.Given as goal

abbrev pub decreases-trace : goal.decreases-trace
decreases-trace l = l.left
