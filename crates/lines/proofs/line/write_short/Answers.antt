-- Two words with their numbers, and the end of the line.
use Rattle.std.proofs.Common.{arith}
use Rattle.lines.proofs.Appended.{appended_then, appended_within}
use Rattle.lines.proofs.line.write_short.Goals as goal

pub returns : goal.returns
returns c =
    let two = appended_then c.append_labelled-next.ensures c.append_labelled-end.ensures in
    appended_within (appended_then two c.append_text.ensures) (omega arith)
