-- `write_swept` sweeps the block of the whole universe; a sweep that is one leaf is noted last.
use Rattle.sweep.proofs.Answers.{write_laws}
use Rattle.sweep.proofs.write_swept.Goals as goal

pub sweep_block-piece-requires : goal.sweep_block-piece-requires
sweep_block-piece-requires c = search write_laws

pub returns-clause-value : goal.returns-clause-value
returns-clause-value c = search write_laws

pub returns-clause-out_after : goal.returns-clause-out_after
returns-clause-out_after c = search write_laws
