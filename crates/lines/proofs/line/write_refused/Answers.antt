-- The word with its number, and the end of the line.
use Rattle.std.proofs.Common.{ap, arith}
use Rattle.lines.specs.Lines.{refused_line}
use Rattle.lines.proofs.Appended.{appended_as, appended_then, appended_within}
use Rattle.lines.proofs.line.write_refused.Goals as goal

pub returns : goal.returns
returns c =
    let line = appended_then c.append_labelled-next.ensures c.append_text.ensures in
    appended_as (ap refused_line c.number.ensures) (appended_within line (omega arith))
