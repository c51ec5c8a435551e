-- Each half has one level less.
use Rattle.at_once.proofs.text.+write_word.Given as goal

abbrev pub decreases-write_word : goal.decreases-write_word
decreases-write_word l = l.left
