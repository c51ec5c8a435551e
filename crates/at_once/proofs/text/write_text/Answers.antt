-- `write_text` writes by the one way or the other, or counts where there is no room.
use native.Mathlib.Omega.{arith}
use Rattle.at_once.proofs.Texts.{size_fits, none_written, roomy_text, roomy_written}
use Rattle.at_once.proofs.text.write_text.Goals as goal

pub overflow_add-result : goal.overflow_add-result
overflow_add-result c = record { fits = size_fits c.requires c.if-left.false c.size_of_word.ensures }

pub returns-then-out-at : goal.returns-then-out-at
returns-then-out-at c = none_written c.requires c.if-left.false c.if-out-at.true c.size_of_word.ensures

pub write_sixty_four-requires : goal.write_sixty_four-requires
write_sixty_four-requires c =
    roomy_text c.requires c.if-left.false (omega (arith, c.if-out-at.false)) (omega
    (arith, c.if-out-at-lt-WORD_ROOM.false))

pub returns : goal.returns
returns c =
    roomy_written c.requires c.if-left.false
    c.write_sixty_four.ensures
