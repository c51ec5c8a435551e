-- Three words with their numbers, and the end of the line.
use Rattle.lines.proofs.Appended.{three_labelled}
use Rattle.lines.proofs.line.append_counts.Goals as goal

pub returns : goal.returns
returns c =
    three_labelled c.append_labelled-lengths.ensures c.append_labelled-rooms.ensures c.append_labelled-end.ensures c.append_text.ensures
