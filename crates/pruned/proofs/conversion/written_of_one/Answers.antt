-- `written_of_one` loads the tree's words, asks for room that suffices, and writes the universe.
use Rattle.std.proofs.Common.{refl}
use Rattle.pruned.proofs.Conversions.{one_loading, one_whole, one_ended}
use Rattle.pruned.proofs.conversion.written_of_one.Goals as goal

pub load-requires : goal.load-requires
load-requires c = one_loading c.requires c.whole_sides-side.ensures _ refl

pub room_for-room-requires : goal.room_for-room-requires
room_for-room-requires c = c.requires.scene.accepted_universe

pub write_whole-requires : goal.write_whole-requires
write_whole-requires c =
    let r = c.requires in
    let e = c.whole_sides-side.ensures in
    one_whole r e _ refl (c.load.ensures (one_loading r e _ refl))
    c.halfspace_words-leaves.ensures c.ball_words-round.ensures c.room_for-room.ensures

pub returns : goal.returns
returns c =
    let r = c.requires in
    let e = c.whole_sides-side.ensures in
    let d = c.load.ensures (one_loading r e _ refl) in
    let p = c.halfspace_words-leaves.ensures in
    let q = c.ball_words-round.ensures in
    let a = c.room_for-room.ensures in
    one_ended r e _ refl d p q a _ _ (c.write_whole.ensures (one_whole r e _ refl d p q a))
