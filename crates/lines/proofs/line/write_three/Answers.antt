-- Three lines, one behind the other.
use Rattle.std.proofs.Common.{arith}
use Rattle.lines.proofs.Appended.{appended_then, appended_within}
use Rattle.lines.proofs.line.write_three.Goals as goal

pub returns : goal.returns
returns c =
    let two = appended_then c.append_universe-counts.ensures c.append_counts-third.ensures in
    appended_within (appended_then two c.append_verdict.ensures) (omega arith)
