-- `measured` ends in too little room, or in what it wrote once it was measured with no room.
use Rattle.std.proofs.Common.{[]}
use Rattle.pruned.proofs.Writing.{through_short, through_again, through_twice}
use Rattle.pruned.proofs.scratch.measured.Goals as goal

pub returns-then-out-length : goal.returns-then-out-length
returns-then-out-length c = λ job. through_short job _ _ (c.write_halves-length.ensures.fact_2 job) c.if-out-length.true

pub write_halves-requires : goal.write_halves-requires
write_halves-requires c =
    let j = c.requires.fact in
    let w = c.write_halves-length.ensures in
    record { fact = through_again j _ [] (w.fact_2 j); shelves = w.shelves_2 }

pub returns : goal.returns
returns c = λ job.
    through_twice job _ _ (c.write_halves-length.ensures.fact_2 job) c.if-out-length.false c.write_halves.ensures.fact_2
