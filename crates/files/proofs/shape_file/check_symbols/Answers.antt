-- Where merging needs another length, there is something to merge; and no expression fits no room.
use Rattle.std.proofs.Common.{Err, ap, sym, ◌∙◌}
use Rattle.universe.specs.declared.refusal.Unwritten.{Unwritten}
use Rattle.bintree.specs.Told.{merging_told}
use Rattle.files.proofs.Measuring.{measured_unmerged, measured_written}
use Rattle.files.proofs.shape_file.check_symbols.Goals as goal

pub returns-in_default : goal.returns-in_default
returns-in_default c =
    let arm = c.in-Err-NoRoom in
    let told = ap (λ (u : Unwritten). merging_told (Err u)) (sym arm.field-0-is) ∙ arm.ensures.value in
    measured_unmerged c.args.universe c.args.expression.now arm.needed told c.if-needed-expression.false

pub returns-in_default-2 : goal.returns-in_default-2
returns-in_default-2 c =
    absurd (measured_written c.args.universe c.args.expression.now _ (ap merging_told (sym c.in_default.is) ∙ c.merge.ensures.value))
