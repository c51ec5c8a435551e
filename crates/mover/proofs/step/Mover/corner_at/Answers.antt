-- `corner_at`: a corner that is taken is held as its numbers.
use Rattle.mover.specs.Keys.{corner_at}
use Rattle.mover.proofs.Keys.{triple_some, triple_is}
use Rattle.mover.proofs.step.Mover.corner_at.Goals as goal

pub unwrap-requires : goal.unwrap-requires
unwrap-requires c = rw (triple_some (corner_at c.args.self.corners.now c.args.i) c.requires.taken c.corner_sixteenths.ensures)

pub returns : goal.returns
returns c = triple_is (corner_at c.args.self.corners.now c.args.i) c.requires.taken c.corner_sixteenths.ensures c.unwrap.ensures
