-- Each half has one level less.
use Rattle.at_once.proofs.window.+window_word.Given as goal

abbrev pub decreases-window_word : goal.decreases-window_word
decreases-window_word l = l.left
