-- `words_of_ball`: three words, each by its own function.
use Rattle.at_once.proofs.three.words_of_ball.Goals as goal

pub returns : goal.returns
returns c =
    λ w. record { sure = c.own_word_of_ball.ensures w; centre = c.word_of_ball.ensures w; possible = c.own_word_of_ball-2.ensures w }
