-- `size_of`: far less near of a Box, whose corners are taken since it is.
use Rattle.mover.proofs.Keys.{triple_some, triple_is, triple_limited}
use Rattle.mover.proofs.Stretches.{still_parts, size_told, size_none}
use Rattle.mover.proofs.stretch.size_of.Goals as goal

pub unwrap-far-requires : goal.unwrap-far-requires
unwrap-far-requires c =
    let parts = still_parts c.args.size c.requires c.in-Box.is in
    rw (triple_some c.in-Box.corners.far parts.far c.corner_sixteenths.ensures)

pub unwrap-near-requires : goal.unwrap-near-requires
unwrap-near-requires c =
    let parts = still_parts c.args.size c.requires c.in-Box.is in
    rw (triple_some c.in-Box.corners.near parts.near c.corner_sixteenths-in-Box.ensures)

pub less-requires-clause-limited : goal.less-requires-clause-limited
less-requires-clause-limited c =
    let parts = still_parts c.args.size c.requires c.in-Box.is in
    triple_limited c.in-Box.corners.far parts.far c.corner_sixteenths.ensures c.unwrap-far.ensures

pub less-requires-clause-limited_2 : goal.less-requires-clause-limited_2
less-requires-clause-limited_2 c =
    let parts = still_parts c.args.size c.requires c.in-Box.is in
    triple_limited c.in-Box.corners.near parts.near c.corner_sixteenths-in-Box.ensures c.unwrap-near.ensures

pub returns-in-Box : goal.returns-in-Box
returns-in-Box c =
    let parts = still_parts c.args.size c.requires c.in-Box.is in
    let far = triple_is c.in-Box.corners.far parts.far c.corner_sixteenths.ensures c.unwrap-far.ensures in
    let near = triple_is c.in-Box.corners.near parts.near c.corner_sixteenths-in-Box.ensures c.unwrap-near.ensures in
    size_told c.args.size c.requires c.in-Box.is far near c.less.ensures

pub returns-in-Cut : goal.returns-in-Cut
returns-in-Cut c = size_none c.args.size c.requires c.in-Cut.is
