-- `room_for`: no universe takes as much as the most room, and else the formula's answer is asked for, which no check refuses.
use Rattle.std.proofs.Common.{◌≡◌, rules, arith}
use Rattle.universe.specs.Room.{room}
use Rattle.universe.proofs.Rooms.{room_small}
use Rattle.pruned.proofs.Conversions.{room_given}
use Rattle.pruned.proofs.conversion.room_for.Goals as goal

pub returns-then-lent-le-SHORT_SCRATCH : goal.returns-then-lent-le-SHORT_SCRATCH
returns-then-lent-le-SHORT_SCRATCH c = omega (arith, room_small c.args.universe c.requires c.args.leaves c.args.balls)

pub unwrap-requires : goal.unwrap-requires
unwrap-requires c =
    rw (room_given c.args.universe c.args.leaves c.args.balls c.requires c.room.result c.room.ensures) (search rules)

pub returns : goal.returns
returns c =
    let given = room_given c.args.universe c.args.leaves c.args.balls c.requires c.room.result c.room.ensures in
    let same : c.unwrap.result ≡ room c.args.universe c.args.leaves c.args.balls = cc in
    omega arith
