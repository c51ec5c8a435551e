-- `judge_stretch` asks for the verdict over the frames of the stretch. Each answer is a law of proofs/Judging.antt.
use Rattle.mover.proofs.Judging.{stretch_box, stretch_room, stretch_few, stretch_later, judged_is, judged_left}
use Rattle.mover.proofs.judge.judge_stretch.Goals as goal

pub lay_rows-end-requires-clause-has_box : goal.lay_rows-end-requires-clause-has_box
lay_rows-end-requires-clause-has_box c = stretch_box c.requires.fact

pub lay_rows-end-requires-clause-row_length_in_bounds : goal.lay_rows-end-requires-clause-row_length_in_bounds
lay_rows-end-requires-clause-row_length_in_bounds c = stretch_room c.requires.fact

pub box_words-own-requires : goal.box_words-own-requires
box_words-own-requires c = stretch_few c.requires.fact

pub overflow_sub-mover : goal.overflow_sub-mover
overflow_sub-mover c = stretch_later c.requires.fact

pub returns-clause-result_value : goal.returns-clause-result_value
returns-clause-result_value c =
    let laid = c.lay_rows-end.ensures in
    judged_is c.requires.fact _ laid.result_value laid.all_after c.box_words-own.ensures c.args.out.now c.requires.i_in_bounds
    c.verdict_of_two.ensures.result_value

pub returns-clause-out_after : goal.returns-clause-out_after
returns-clause-out_after c =
    let laid = c.lay_rows-end.ensures in
    judged_left c.requires.fact _ laid.result_value laid.all_after c.box_words-own.ensures c.args.out.now c.requires.i_in_bounds
    c.verdict_of_two.ensures.out_after
