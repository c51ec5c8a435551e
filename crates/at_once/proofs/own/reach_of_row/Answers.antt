-- `reach_of_row` is a sum of four sizes.
use Rattle.at_once.proofs.OwnValues.{reach_is}
use Rattle.at_once.proofs.own.reach_of_row.Goals as goal

pub returns : goal.returns
returns c =
    reach_is c.requires c.unsigned_abs-one.ensures.value c.unsigned_abs-two.ensures.value c.unsigned_abs-three.ensures.value
    c.unsigned_abs-four.ensures.value
