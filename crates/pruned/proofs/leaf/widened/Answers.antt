-- `widened` moves both values outwards: one is the other's way to move.
use Rattle.pruned.proofs.Moving.{moved_is}
use Rattle.pruned.proofs.Wholes.{widened_is}
use Rattle.pruned.proofs.leaf.widened.Goals as goal

pub returns : goal.returns
returns c =
    let k = c.requires in
    let m = moved_is k.small_coefficient k.small_place k.small_extreme_2 k.small_extreme c.moved_by-wider.ensures in
    widened_is k.small_coefficient k.small_place k.small_extreme k.small_extreme_2 m.0 m.1
