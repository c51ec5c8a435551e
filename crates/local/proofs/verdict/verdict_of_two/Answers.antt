-- A refusal by a check or by the window, or that of the conversion, or the verdict of what was written.
use Rattle.std.proofs.Common.{◌≡◌, Err, sym, refl, rules}
use lib.Seq.{length-take-le}
use Rattle.universe.specs.declared.refusal.Unwritten.TheVariants.{Refused}
use Rattle.universe.proofs.Telling.{number-not_zero, unwritten-not_zero}
use Rattle.convert.proofs.Clearances.{stopped_early, stopped_window}
use Rattle.local.proofs.Clearances.{raw_stopped, raw_within, raw_accepted, raw_judged}
use Rattle.local.proofs.verdict.verdict_of_two.Goals as goal

pub returns-in_err-check_scene : goal.returns-in_err-check_scene
returns-in_err-check_scene c =
    let e : c.from_residual.result ≡ Err (Refused c.in_err-check_scene.field-0.0) = search rules in
    let w = stopped_early _ _ _ _ _ _ _ c.in_err-check_scene.ensures (number-not_zero _) refl in
    rw e (record { result_value = w.0; out_after = w.1 })

pub returns-in-Err : goal.returns-in-Err
returns-in-Err c =
    let w = stopped_window _ _ _ _ _ _ _ c.in_ok-check_scene.ensures refl c.in-Err.ensures (number-not_zero _) refl in
    record { result_value = w.0; out_after = w.1 }

pub returns-in_err-length : goal.returns-in_err-length
returns-in_err-length c =
    let e : c.from_residual-in_err-length.result ≡ Err c.in_err-length.field-0.0 = search rules in
    let d = c.in_err-length.ensures in
    let w = raw_stopped _ _ _ _ _ _ _ c.in_default.ensures refl (d.result_value, d.out_after) (unwritten-not_zero _) refl in
    rw e (record { result_value = w.0; out_after = w.1 })

pub slice_bounds-numbers_of-end : goal.slice_bounds-numbers_of-end
slice_bounds-numbers_of-end c =
    let d = c.in_ok-length.ensures in
    raw_within _ _ _ _ _ _ _ c.in_default.ensures refl (d.result_value, d.out_after) refl

pub slice_bounds-numbers_of-end-2 : goal.slice_bounds-numbers_of-end-2
slice_bounds-numbers_of-end-2 c =
    let d = c.in_ok-length.ensures in
    let f = raw_within _ _ _ _ _ _ _ c.in_default.ensures refl (d.result_value, d.out_after) refl in
    sym (length-take-le _ _ f)

-- what was written is judged: that is not refused
pub returns-in_err-judged : goal.returns-in_err-judged
returns-in_err-judged c =
    let d = c.in_ok-length.ensures in
    absurd (number-not_zero _ (raw_accepted _ _ _ _ _ _ _ c.in_default.ensures refl (d.result_value, d.out_after) refl c.in_err-judged.ensures))

pub returns : goal.returns
returns c =
    let d = c.in_ok-length.ensures in
    let w = raw_judged _ _ _ _ _ _ _ c.in_default.ensures refl (d.result_value, d.out_after) refl c.in_ok-judged.ensures refl in
    record { result_value = w.0; out_after = w.1 }
