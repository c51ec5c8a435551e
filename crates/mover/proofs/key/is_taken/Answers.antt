-- `is_taken` asks of a corner whose numbers are all alike.
use Rattle.std.proofs.Common.{◌∙◌, ap}
use Rattle.std.specs.Option.{is_some}
use Rattle.standin.specs.declared.Numbers.{Numbers}
use Rattle.mover.proofs.Keys.{alike_told}
use Rattle.mover.proofs.key.is_taken.Goals as goal

pub returns : goal.returns
returns c = c.is_some.ensures ∙ ap (is_some {T = Numbers}) c.corner_sixteenths.ensures ∙ alike_told c.args.number
