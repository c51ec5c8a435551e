-- `write_halves`: both halves are laid, and what was held back of them is written.
use Rattle.pruned.proofs.Writing.{halves_written}
use Rattle.pruned.proofs.whole.write_halves.Goals as goal

pub returns-clause-fact_2 : goal.returns-clause-fact_2
returns-clause-fact_2 c = λ job. halves_written job _ _ (c.lay_halves-packed.ensures.fact_2 job) c.note.ensures
