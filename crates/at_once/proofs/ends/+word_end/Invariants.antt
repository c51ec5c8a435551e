-- Each half has one level less.
use Rattle.at_once.proofs.ends.+word_end.Given as goal

abbrev pub decreases-word_end : goal.decreases-word_end
decreases-word_end l = l.left
