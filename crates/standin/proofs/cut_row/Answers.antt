-- What is held of a Cut keeps the limits.
use Rattle.std.proofs.Common.{sym, ◌∙◌}
use Rattle.standin.proofs.Rows.{cut_keeps}
use Rattle.standin.proofs.cut_row.Goals as goal

pub one_row-requires-clause-limited : goal.one_row-requires-clause-limited
one_row-requires-clause-limited c =
    (cut_keeps c.args.proxy _ (rw c.in-Some-Cut.field-0-is at (sym c.scale_proxy.ensures ∙ c.in-Some-Cut.is))).0

pub one_row-requires-clause-limited_2 : goal.one_row-requires-clause-limited_2
one_row-requires-clause-limited_2 c =
    (cut_keeps c.args.proxy _ (rw c.in-Some-Cut.field-0-is at (sym c.scale_proxy.ensures ∙ c.in-Some-Cut.is))).2
