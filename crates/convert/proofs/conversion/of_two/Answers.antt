-- A refusal by the checks, or what the conversion after them comes to.
use Rattle.std.proofs.Common.{◌≡◌, Err, refl, rules}
use Rattle.universe.specs.declared.refusal.Unwritten.TheVariants.{Refused}
use Rattle.universe.proofs.Telling.{number-not_zero}
use Rattle.convert.proofs.Answers.{ready_of, ends_refused, ends_accepted}
use Rattle.convert.proofs.conversion.of_two.Goals as goal

pub returns-in_err-check_scene : goal.returns-in_err-check_scene
returns-in_err-check_scene c =
    let e : c.from_residual.result ≡ Err (Refused c.in_err-check_scene.field-0.0) = search rules in
    let w = ends_refused _ _ c.in_err-check_scene.ensures (number-not_zero _) refl in
    rw e (record { result_value = w.0; out_after = w.1 })

pub written_of_two-requires : goal.written_of_two-requires
written_of_two-requires c = ready_of _ _ _ _ c.in_ok-check_scene.ensures

pub returns : goal.returns
returns c =
    let e = c.written_of_two.ensures in
    let w = ends_accepted _ _ c.in_ok-check_scene.ensures refl (e.result_value, e.out_after) in
    record { result_value = w.0; out_after = w.1 }
