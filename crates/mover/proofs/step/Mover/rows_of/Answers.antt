-- `rows_of` gives the rows between the corners worked back to time 0. Each answer is a law of proofs/Stretches.antt.
use Rattle.mover.proofs.Stretches.{rows_step, rows_work, rows_more, rows_are}
use Rattle.mover.proofs.step.Mover.rows_of.Goals as goal

pub steps_of-step-requires : goal.steps_of-step-requires
steps_of-step-requires c = rows_step c.requires c.frames_of.ensures c.change_of-change.ensures

pub worked_back-near-requires : goal.worked_back-near-requires
worked_back-near-requires c =
    rows_work c.requires c.frames_of.ensures c.change_of-change.ensures c.steps_of-step.ensures c.corner_at-corner.ensures

pub more-far-requires-clause-limited : goal.more-far-requires-clause-limited
more-far-requires-clause-limited c =
    (rows_more c.requires c.frames_of.ensures c.change_of-change.ensures c.steps_of-step.ensures c.corner_at-corner.ensures c.worked_back-near.ensures
    c.size_of-extent.ensures).0

pub more-far-requires-clause-limited_2 : goal.more-far-requires-clause-limited_2
more-far-requires-clause-limited_2 c =
    (rows_more c.requires c.frames_of.ensures c.change_of-change.ensures c.steps_of-step.ensures c.corner_at-corner.ensures c.worked_back-near.ensures
    c.size_of-extent.ensures).1

pub returns : goal.returns
returns c =
    rows_are c.requires c.frames_of.ensures c.change_of-change.ensures c.steps_of-step.ensures c.corner_at-corner.ensures c.worked_back-near.ensures
    c.size_of-extent.ensures c.more-far.ensures c.rows_between.ensures
