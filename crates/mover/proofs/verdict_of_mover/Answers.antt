-- `verdict_of_mover`: where no check refuses, every stretch fits that much room, and the verdict of all is the answer.
use Rattle.csg.specs.Surfaces.{surfaces_of}
use Rattle.mover.specs.Keys.{mover_of}
use Rattle.mover.specs.Ready.{Fits}
use Rattle.mover.proofs.Answers.{room_asks, room_enough, room_needed, ends_fitting}
use Rattle.mover.proofs.verdict_of_mover.Goals as goal
use Rattle.mover.proofs.verdict_of_mover.Goals.{Joined-not-has_room, then-not-has_room+else-out-need, else-not-has_room}

pub has_room-requires : goal.has_room-requires
has_room-requires c = room_asks c.in_ok-accepted.ensures.ready

fits : (c : Joined-not-has_room) → Fits c.args.universe (mover_of c.args.size c.args.moments.now c.args.corners.now)
    (surfaces_of c.args.rows.now c.args.balls.now) c.args.words.now c.args.out.now
fits c =
    let ready = c.in_ok-accepted.ensures.ready in
    elim c.if-not-has_room.branch [
      | then-not-has_room+else-out-need w ↦ room_needed ready w.largest_need-need.ensures w.if-out-need.false
      | else-not-has_room w ↦ room_enough ready c.in_ok-accepted.ensures.same c.has_room.ensures w.if-not-has_room.false
    ]

pub judge_all-requires : goal.judge_all-requires
judge_all-requires c = fits (goal.at.judge_all-requires c).Joined-not-has_room

pub returns-clause-result_value : goal.returns-clause-result_value
returns-clause-result_value c =
    (ends_fitting (fits (goal.at.returns-clause-result_value c).Joined-not-has_room) c.judge_all.ensures.result_value c.judge_all.ensures.out_after).0

pub returns-clause-out_after : goal.returns-clause-out_after
returns-clause-out_after c =
    (ends_fitting (fits (goal.at.returns-clause-out_after c).Joined-not-has_room) c.judge_all.ensures.result_value c.judge_all.ensures.out_after).1
