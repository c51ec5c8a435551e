-- Room is lent as the formula says, and the expression is written there; else it goes by way of scratch room.
use Rattle.std.proofs.Common.{refl}
use Rattle.convert.proofs.Answers.{room_ready, room_suffices, ends_written}
use Rattle.convert.proofs.conversion.written_of_two.Goals as goal

pub room_of-requires : goal.room_of-requires
room_of-requires c = room_ready c.requires

pub returns-then-room_of-out : goal.returns-then-room_of-out
returns-then-room_of-out c =
    let e = c.write_whole-length.ensures in
    let f = room_suffices c.requires _ c.room_of.ensures c.if-room_of-out.true e.result_value in
    let w = ends_written _ _ e.result_value f e.out_after refl in
    record { result_value = w.0; out_after = w.1 }
