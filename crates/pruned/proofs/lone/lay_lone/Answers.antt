-- `lay_lone` reads which side the node is of, sets what its values move by, and lays both halves by these.
use Rattle.pruned.proofs.Handed.{steps_asked, halves_asked, lone_laid}
use Rattle.pruned.proofs.lone.lay_lone.Goals as goal

pub set_steps-requires-clause-steps_job : goal.set_steps-requires-clause-steps_job
set_steps-requires-clause-steps_job c = steps_asked c.requires c.code_at-code.ensures

pub lone_halves-requires : goal.lone_halves-requires
lone_halves-requires c = halves_asked c.requires c.code_at-code.ensures c.is_turned.ensures c.set_steps.ensures

pub returns : goal.returns
returns c =
    let x = c.code_at-code.ensures in
    let y = c.is_turned.ensures in
    let z = c.set_steps.ensures in
    λ job. lone_laid job x y z _ _ (c.lone_halves.ensures (halves_asked job x y z))
