-- Each half has one level less.
use Rattle.at_once.proofs.own.+own_ball_word.Given as goal

abbrev pub decreases-own_ball_word : goal.decreases-own_ball_word
decreases-own_ball_word l = l.left
