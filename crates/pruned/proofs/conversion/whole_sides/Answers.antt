-- `whole_sides` asks the universe for the side of each axis.
use Rattle.lemmas.specs.Grid.{listed}
use Rattle.pruned.proofs.conversion.whole_sides.Goals as goal

pub returns : goal.returns
unfolding listed
returns c = rw (c.side.ensures, c.side-2.ensures, c.side-3.ensures, c.side-4.ensures)
