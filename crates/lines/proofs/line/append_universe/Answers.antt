-- The axes, the bits and the end of the line.
use Rattle.lines.proofs.Appended.{appended_then}
use Rattle.lines.proofs.line.append_universe.Goals as goal

pub returns : goal.returns
returns c = appended_then (appended_then c.append_labelled-bits.ensures c.append_bits-end.ensures) c.append_text.ensures
