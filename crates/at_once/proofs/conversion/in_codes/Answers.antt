-- `in_codes` ends in what it wrote where as much room is lent as the formula says, or in what it came to by way of scratch room.
use mathlib.Core.Path.{refl}
use Rattle.convert.proofs.Answers.{room_ready, room_suffices, ends_written}
use Rattle.at_once.proofs.conversion.in_codes.Goals as goal

pub room_of-requires : goal.room_of-requires
room_of-requires g c = room_ready c.requires.ready

pub returns-then-room_of-out : goal.returns-then-room_of-out
returns-then-room_of-out g c =
    let w = c.write_whole-length.ensures in
    let f = room_suffices c.requires.ready _ c.room_of.ensures c.if-room_of-out.true w.result_value in
    let e = ends_written c.args.out.now _ w.result_value f w.out_after refl in
    record { result_value = e.0; out_after = e.1 }
