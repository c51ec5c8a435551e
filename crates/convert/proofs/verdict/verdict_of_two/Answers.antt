-- A refusal by a check, by the window or for room, or the verdict of what was written.
use Rattle.std.proofs.Common.{◌≡◌, Err, sym, refl, rules}
use lib.Seq.{length-take-le}
use Rattle.universe.specs.declared.refusal.Unwritten.TheVariants.{Refused}
use Rattle.universe.proofs.Telling.{number-not_zero, unwritten-not_zero}
use Rattle.convert.proofs.Answers.{ready_of}
use Rattle.convert.proofs.Clearances.{stopped_early, stopped_window, stopped_short, front_within, judged_front, front_accepted}
use Rattle.convert.proofs.verdict.verdict_of_two.Goals as goal

pub returns-in_err-check_scene : goal.returns-in_err-check_scene
returns-in_err-check_scene c =
    let e : c.from_residual.result ≡ Err (Refused c.in_err-check_scene.field-0.0) = search rules in
    let w = stopped_early _ _ _ _ _ _ _ c.in_err-check_scene.ensures (number-not_zero _) refl in
    rw e (record { result_value = w.0; out_after = w.1 })

pub returns-in_err-check_window : goal.returns-in_err-check_window
returns-in_err-check_window c =
    let e : c.from_residual-in_err-check_window.result ≡ Err (Refused c.in_err-check_window.field-0.0) = search rules in
    let w = stopped_window _ _ _ _ _ _ _ c.in_ok-check_scene.ensures refl c.in_err-check_window.ensures (number-not_zero _) refl in
    rw e (record { result_value = w.0; out_after = w.1 })

pub written_of_two-requires : goal.written_of_two-requires
written_of_two-requires c = ready_of _ _ _ _ c.in_ok-check_scene.ensures

pub returns-in_err-length : goal.returns-in_err-length
returns-in_err-length c =
    let e : c.from_residual-in_err-length.result ≡ Err c.in_err-length.field-0.0 = search rules in
    let d = c.in_err-length.ensures in
    let w = stopped_short _ _ _ _ _ _ _ c.in_ok-check_scene.ensures refl c.in_ok-check_window.ensures refl (d.result_value, d.out_after) (unwritten-not_zero _) refl in
    rw e (record { result_value = w.0; out_after = w.1 })

pub slice_bounds-numbers_of-end : goal.slice_bounds-numbers_of-end
slice_bounds-numbers_of-end c =
    let d = c.in_ok-length.ensures in
    front_within _ _ _ _ _ _ _ c.in_ok-check_scene.ensures refl c.in_ok-check_window.ensures refl (d.result_value, d.out_after) refl

pub slice_bounds-numbers_of-end-2 : goal.slice_bounds-numbers_of-end-2
slice_bounds-numbers_of-end-2 c =
    let d = c.in_ok-length.ensures in
    let f = front_within _ _ _ _ _ _ _ c.in_ok-check_scene.ensures refl c.in_ok-check_window.ensures refl (d.result_value, d.out_after) refl in
    sym (length-take-le _ _ f)

-- what was written is judged: that is not refused
pub returns-in_err-judged : goal.returns-in_err-judged
returns-in_err-judged c =
    let s = c.in_ok-check_scene.ensures in
    let d = c.in_ok-length.ensures in
    let a = front_accepted _ _ _ _ _ _ _ s refl c.in_ok-check_window.ensures refl (d.result_value, d.out_after) refl (ready_of _ _ _ _ s) c.in_err-judged.ensures in
    absurd (number-not_zero _ a)

pub returns : goal.returns
returns c =
    let s = c.in_ok-check_scene.ensures in
    let d = c.in_ok-length.ensures in
    let w = judged_front _ _ _ _ _ _ _ s refl c.in_ok-check_window.ensures refl (d.result_value, d.out_after) refl (ready_of _ _ _ _ s) c.in_ok-judged.ensures refl in
    record { result_value = w.0; out_after = w.1 }
