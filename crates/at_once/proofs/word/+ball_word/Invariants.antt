-- Each half has one level less.
use Rattle.at_once.proofs.word.+ball_word.Given as goal

abbrev pub decreases-ball_word : goal.decreases-ball_word
decreases-ball_word l = l.left
