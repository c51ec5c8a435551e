-- `spread` by its cases.
use mathlib.Core.Path.{◌∙◌}
use Rattle.at_once.proofs.OwnValues.{size_few, spread_near, spread_far}
use Rattle.at_once.proofs.own.spread.Goals as goal

pub returns-then-possible : goal.returns-then-possible
returns-then-possible c = c.saturating_sub.ensures ∙ spread_near c.requires c.unsigned_abs-size.ensures.value c.if-possible.true

pub overflow_add-result : goal.overflow_add-result
overflow_add-result c = record { fits = size_few c.requires c.unsigned_abs-size.ensures.value }

pub returns : goal.returns
returns c = spread_far c.requires c.unsigned_abs-size.ensures.value c.if-possible.false
