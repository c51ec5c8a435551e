-- What is held of a Box keeps the limits.
use Rattle.std.proofs.Common.{sym, ◌∙◌}
use Rattle.standin.proofs.Rows.{box_keeps}
use Rattle.standin.proofs.box_rows.Goals as goal

pub six_rows-requires : goal.six_rows-requires
six_rows-requires c =
    let k = box_keeps c.args.proxy _ (rw c.in-Some-Box.field-0-is at (sym c.scale_proxy.ensures ∙ c.in-Some-Box.is)) in
    record { limited = k.0; limited_2 = k.1; limited_3 = k.2 }
