-- `write_open` ends in what it wrote where room is lent as the formula says, else by way of scratch room, or once it is measured.
use Rattle.pruned.proofs.Writing.{open_once}
use Rattle.pruned.proofs.whole.write_open.Goals as goal

pub returns-then-room-out : goal.returns-then-room-out
returns-then-room-out c = λ job. open_once job _ _ c.if-room-out.true (c.write_halves-length.ensures.fact_2 job.halves)
