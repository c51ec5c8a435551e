-- Room is asked for a universe that the verdict accepts.
use Rattle.std.proofs.Common.{◌≡◌, ◌+◌}
use Rattle.std.specs.Prelude.{Ok, Err}
use Rattle.universe.specs.Told.{room_told}
use Rattle.universe.specs.Room.{room_answer}
use Rattle.csg.specs.Surfaces.{surfaces_of}
use Rattle.lines.proofs.Scenes.{room_given}
use Rattle.lines.proofs.program.judge.Goals as goal

pub returns-in_err-room : goal.returns-in_err-room
returns-in_err-room c =
    let a = c.args in
    let surfaces = surfaces_of a.rows.now a.balls.now in
    absurd
    (room_given a.scene surfaces a.first.now a.second.now c.in_ok-clearance.clearance c.in_ok-clearance.ensures.result_value c.room.result
    c.in_err-room.field-0.0 _ _ c.in_err-room.was c.room.ensures)
