-- By the version.
use Rattle.std.proofs.Common.{arith}
use Rattle.lines.proofs.Appended.{appended_as, appended_then, appended_within}
use Rattle.lines.proofs.Lines.{first_bits, later_bits}
use Rattle.lines.proofs.line.append_bits.Goals as goal

pub returns-then-version-eq-FIRST_VERSION : goal.returns-then-version-eq-FIRST_VERSION
returns-then-version-eq-FIRST_VERSION c =
    appended_within (appended_as (first_bits _ _ c.if-version-eq-FIRST_VERSION.true) c.append_labelled.ensures) (omega arith)

pub returns : goal.returns
returns c =
    appended_as (later_bits _ _ c.if-version-eq-FIRST_VERSION.false) (appended_then c.append_labelled-frame.ensures c.append_labelled-2.ensures)
