-- `need_of` asks for the raw expression with no room lent: its length is the need. Each answer is a law of proofs/Judging.antt.
use Rattle.std.proofs.Common.{◌∙◌}
use Rattle.mover.proofs.Judging.{stretch_box, stretch_room, stretch_few, need_is}
use Rattle.mover.proofs.judge.need_of.Goals as goal

pub lay_rows-end-requires-clause-has_box : goal.lay_rows-end-requires-clause-has_box
lay_rows-end-requires-clause-has_box c = stretch_box c.requires

pub lay_rows-end-requires-clause-row_length_in_bounds : goal.lay_rows-end-requires-clause-row_length_in_bounds
lay_rows-end-requires-clause-row_length_in_bounds c = stretch_room c.requires

pub box_words-own-requires : goal.box_words-own-requires
box_words-own-requires c = stretch_few c.requires

pub returns-in-Ok : goal.returns-in-Ok
returns-in-Ok c =
    let laid = c.lay_rows-end.ensures in
    need_is c.requires _ laid.result_value laid.all_after c.box_words-own.ensures c.in-Ok.ensures.result_value

pub returns-in-Err : goal.returns-in-Err
returns-in-Err c =
    let laid = c.lay_rows-end.ensures in
    c.needed.ensures ∙ need_is c.requires _ laid.result_value laid.all_after c.box_words-own.ensures c.in-Err.ensures.result_value
