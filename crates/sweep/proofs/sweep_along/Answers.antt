-- `sweep_along` refuses by the universe without the axis, then by the expression, and else writes.
use Rattle.std.proofs.Common.{rules, ◌≡◌, [], ◌∷◌, Err, ap, ◌∙◌}
use Rattle.universe.specs.declared.refusal.Unwritten.TheVariants.{Refused}
use Rattle.universe.specs.Universe.{universe_refusal}
use Rattle.bintree.specs.Reading.{expression_refusal}
use Rattle.bintree.proofs.Ends.{expression_told, ends_first, ends_second, ends_checked}
use Rattle.sweep.specs.Answers.{swept_symbols, swept_buffer}
use Rattle.sweep.proofs.Answers.{whole_fine, sweepable, along_refused, along_done}
use Rattle.sweep.proofs.sweep_along.Goals as goal

pub returns-in_err-check : goal.returns-in_err-check
unfolding swept_buffer
returns-in_err-check c =
    let e : c.from_residual.result ≡ Err (Refused c.in_err-check.field-0.0) = search rules in
    let u = c.args.universe in
    let s = c.args.expression.now in
    let two = c.in_err-check.ensures ∙ ap universe_refusal c.without_axis-below.ensures in
    let a = ends_first c.args.out.now (swept_symbols u s c.args.axis) _ (expression_refusal u s ∷ []) two in
    record { value = rw e (along_refused u s c.args.axis c.args.out.now (Refused c.in_err-check.field-0.0) a.0); out_after = a.1 }

pub returns-in_err-well_formed : goal.returns-in_err-well_formed
unfolding swept_buffer
returns-in_err-well_formed c =
    let e : c.from_residual-in_err-well_formed.result ≡ Err (Refused c.in_err-well_formed.field-0.0) = search rules in
    let u = c.args.universe in
    let s = c.args.expression.now in
    let two = c.in_ok-check.ensures ∙ ap universe_refusal c.without_axis-below.ensures in
    let a =
    ends_second c.args.out.now (swept_symbols u s c.args.axis) _ two
    (expression_told u s (whole_fine u s c.args.axis two) c.in_err-well_formed.ensures) in
    record { value = rw e (along_refused u s c.args.axis c.args.out.now (Refused c.in_err-well_formed.field-0.0) a.0); out_after = a.1 }

pub write_fitting-requires : goal.write_fitting-requires
write_fitting-requires c =
    let u = c.args.universe in
    let s = c.args.expression.now in
    let two = c.in_ok-check.ensures ∙ ap universe_refusal c.without_axis-below.ensures in
    sweepable u s c.args.axis two (expression_told u s (whole_fine u s c.args.axis two) c.in_ok-well_formed.ensures)

pub returns-in_err-length : goal.returns-in_err-length
unfolding swept_buffer
returns-in_err-length c =
    let e : c.from_residual-in_err-length.result ≡ Err c.in_err-length.field-0.0 = search rules in
    let u = c.args.universe in
    let s = c.args.expression.now in
    let two = c.in_ok-check.ensures ∙ ap universe_refusal c.without_axis-below.ensures in
    let a =
    ends_checked c.args.out.now _ two (expression_told u s (whole_fine u s c.args.axis two) c.in_ok-well_formed.ensures)
    (c.in_err-length.ensures.result_value, c.in_err-length.ensures.out_after) in
    record { value = rw e (along_refused u s c.args.axis c.args.out.now _ a.0); out_after = a.1 }

pub returns : goal.returns
unfolding swept_buffer
returns c =
    let u = c.args.universe in
    let s = c.args.expression.now in
    let two = c.in_ok-check.ensures ∙ ap universe_refusal c.without_axis-below.ensures in
    let a =
    ends_checked c.args.out.now _ two (expression_told u s (whole_fine u s c.args.axis two) c.in_ok-well_formed.ensures)
    (c.in_ok-length.ensures.result_value, c.in_ok-length.ensures.out_after) in
    record { value = along_done u s c.args.axis c.args.out.now c.without_axis-below.ensures a.0; out_after = a.1 }
