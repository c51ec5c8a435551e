-- `write_one` is one symbol.
use native.Mathlib.Omega.{arith}
use mathlib.Core.Path.{refl}
use Rattle.at_once.proofs.Texts.{white_stored, black_stored}
use Rattle.at_once.proofs.text.write_one.Goals as goal

pub returns-then-word-eq0 : goal.returns-then-word-eq0
returns-then-word-eq0 c = white_stored c.requires c.if-word-eq0.true

pub returns : goal.returns
returns c = black_stored c.requires c.if-word-eq0.false refl (omega (arith, c.requires.text.digits, c.if-word-eq0.false))
