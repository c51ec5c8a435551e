-- Three words with their numbers, and the end of the line.
use Rattle.lines.proofs.Appended.{three_labelled}
use Rattle.lines.proofs.line.append_contact.Goals as goal

pub returns : goal.returns
returns c =
    three_labelled c.append_labelled-last.ensures c.append_labelled-voxels.ensures c.append_labelled-end.ensures c.append_text.ensures
