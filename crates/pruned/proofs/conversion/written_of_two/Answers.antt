-- `written_of_two` loads the words of both trees, the second behind the first, asks for room that suffices, and writes the universe.
use Rattle.std.proofs.Common.{refl, arith}
use Rattle.csg.specs.Halfspace.{most_rows}
use Rattle.csg.specs.Ball.{most_balls}
use Rattle.csg.specs.Words.{first_halfspace, first_ball}
use Rattle.csg.proofs.Words.{count_words_most, accepted_length}
use Rattle.pruned.proofs.Conversions.{first_loading, second_loading, two_whole, two_ended}
use Rattle.pruned.proofs.conversion.written_of_two.Goals as goal

pub load-requires : goal.load-requires
load-requires c = first_loading c.requires c.whole_sides-side.ensures _ refl

pub load-requires-2 : goal.load-requires-2
load-requires-2 c =
    let r = c.requires in
    let e = c.whole_sides-side.ensures in
    second_loading r e _ refl (c.load.ensures (first_loading r e _ refl))

pub overflow_add-leaves : goal.overflow_add-leaves
overflow_add-leaves c =
    let f = count_words_most first_halfspace most_rows c.args.first.now in
    let s = count_words_most first_halfspace most_rows c.args.second.now in
    let a = accepted_length _ _ c.requires.accepted_first in
    let b = accepted_length _ _ c.requires.accepted_second in
    omega (arith, c.halfspace_words.ensures, c.halfspace_words-2.ensures, f, s, a, b)

pub overflow_add-round : goal.overflow_add-round
overflow_add-round c =
    let f = count_words_most first_ball most_balls c.args.first.now in
    let s = count_words_most first_ball most_balls c.args.second.now in
    let a = accepted_length _ _ c.requires.accepted_first in
    let b = accepted_length _ _ c.requires.accepted_second in
    omega (arith, c.ball_words.ensures, c.ball_words-2.ensures, f, s, a, b)

pub room_for-room-requires : goal.room_for-room-requires
room_for-room-requires c = c.requires.scene.accepted_universe

pub write_whole-requires : goal.write_whole-requires
write_whole-requires c =
    let r = c.requires in
    let e = c.whole_sides-side.ensures in
    let d = c.load.ensures (first_loading r e _ refl) in
    two_whole r e _ refl d (c.load-2.ensures (second_loading r e _ refl d))
    c.halfspace_words.ensures c.halfspace_words-2.ensures c.ball_words.ensures c.ball_words-2.ensures c.room_for-room.ensures

pub returns : goal.returns
returns c =
    let r = c.requires in
    let e = c.whole_sides-side.ensures in
    let d = c.load.ensures (first_loading r e _ refl) in
    let f = c.load-2.ensures (second_loading r e _ refl d) in
    let p = c.halfspace_words.ensures in
    let p₂ = c.halfspace_words-2.ensures in
    let q = c.ball_words.ensures in
    let q₂ = c.ball_words-2.ensures in
    let a = c.room_for-room.ensures in
    two_ended r e _ refl d f p p₂ q q₂ a _ _ (c.write_whole.ensures (two_whole r e _ refl d f p p₂ q q₂ a))
