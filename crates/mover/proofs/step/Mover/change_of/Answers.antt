-- `change_of`: the corner of the next key less that of the key.
use Rattle.mover.proofs.Steps.{corner_small}
use Rattle.mover.proofs.step.Mover.change_of.Goals as goal

pub less-requires-clause-limited : goal.less-requires-clause-limited
less-requires-clause-limited c = corner_small c.requires.to c.corner_at-to.ensures

pub less-requires-clause-limited_2 : goal.less-requires-clause-limited_2
less-requires-clause-limited_2 c = corner_small c.requires.from c.corner_at-from.ensures
