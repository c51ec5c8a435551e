-- `move_where` moves by `move_values` where the test holds, and else moves nothing.
use mathlib.Core.Path.{◌∙◌, sym}
use mathlib.Core.Bool.{false≢true}
use Rattle.at_once.proofs.Moving.{unmoved}
use Rattle.at_once.proofs.moves.move_where.Goals as goal

pub move_values-requires : goal.move_values-requires
move_values-requires c = c.requires c.if-test.true

pub returns-then-test : goal.returns-then-test
returns-then-test c =
    record { moved = λ e. c.move_values.ensures; unmoved = λ e. absurd (false≢true (sym e ∙ c.if-test.true)) }

pub returns-else-test : goal.returns-else-test
returns-else-test c =
    record { moved = λ e. absurd (false≢true (sym c.if-test.false ∙ e)); unmoved = λ e. unmoved }
