-- The line of a verdict is no longer than that of a hit.
use Rattle.std.proofs.Common.{sym, ap, arith}
use Rattle.lines.specs.Lines.{verdict_line}
use Rattle.lines.proofs.Appended.{appended_as, appended_within}
use Rattle.lines.proofs.line.append_verdict.Goals as goal

pub returns-in-Clear : goal.returns-in-Clear
returns-in-Clear c = appended_within (appended_as (sym (ap verdict_line c.in-Clear.is)) c.append_text.ensures) (omega arith)
