-- `move_row` moves a value that is of the round, and gives it the other round.
use Rattle.at_once.proofs.Rounds.{amount_asks, step_asks, row_moved, row_stays}
use Rattle.at_once.proofs.moves.move_row.Goals as goal

pub amount-step-requires : goal.amount-step-requires
amount-step-requires c =
    record { small_coefficient = amount_asks c.requires; times_bound = c.requires.times_few; small_place = c.requires.short }

pub stepped-requires : goal.stepped-requires
stepped-requires c = step_asks c.requires c.amount-step.ensures c.if-is_due.true

pub returns-then-is_due : goal.returns-then-is_due
returns-then-is_due c =
    row_moved c.requires c.amount-step.ensures
    c.if-is_due.true c.stepped.ensures

pub returns-else-is_due : goal.returns-else-is_due
returns-else-is_due c = row_stays c.requires c.if-is_due.false
