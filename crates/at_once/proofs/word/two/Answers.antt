-- `two` is made of its halves, the second one step further.
use lib.Dec.{lit<}
use Rattle.at_once.proofs.Rows.{step_fits, both_halves, as_row}
use Rattle.at_once.proofs.word.two.Goals as goal

pub overflow_add-v : goal.overflow_add-v
overflow_add-v c = step_fits 0 (lit< tt) c.requires

pub returns : goal.returns
returns c = let s = c.args.steps.now in
    both_halves 0 (lit< tt) c.requires (as_row _ s c.one.ensures) (as_row _ s c.one-2.ensures)
