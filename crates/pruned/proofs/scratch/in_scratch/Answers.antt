-- `in_scratch` ends in too little room, or in a copy of what it wrote into the scratch room, which holds whatever fits the room lent.
use Rattle.std.proofs.Common.{ℕ, arith}
use Rattle.std.proofs.lemmas.List.{length-replicate}
use Rattle.pruned.proofs.Writing.{through_short, through_copied}
use Rattle.pruned.proofs.scratch.in_scratch.Goals as goal

pub returns-then-out-length : goal.returns-then-out-length
returns-then-out-length g c = λ job. through_short job _ _ (c.write_halves-length.ensures.fact_2 job) c.if-out-length.true

pub returns : goal.returns
returns g c = λ job.
    let long = length-replicate {A = ℕ} g.row.ROOM 0 in
    through_copied job _ _ (c.write_halves-length.ensures.fact_2 job) c.if-out-length.false (omega (arith, long, c.requires.out_len_bound)) c.copy.ensures
