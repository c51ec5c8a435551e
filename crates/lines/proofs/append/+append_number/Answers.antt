-- One digit, or the tens and then the units.
use Rattle.lines.proofs.Appended.{spelled_units, spelled_tens}
use Rattle.lines.proofs.append.+append_number.Goals as goal

pub returns-then-n-lt10 : goal.returns-then-n-lt10
returns-then-n-lt10 t c = spelled_units _ c.if-n-lt10.true c.append_byte.ensures

pub returns : goal.returns
returns t c = spelled_tens _ c.if-n-lt10.false c.append_number-last.ensures c.append_byte-2.ensures
