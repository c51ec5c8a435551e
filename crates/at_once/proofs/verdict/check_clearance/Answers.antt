-- `check_clearance` gives the refusal of the scene, or what the check of the window gives.
use Rattle.std.proofs.Common.{◌≡◌, Err, rules}
use Rattle.at_once.proofs.Checks.{refused_scene, checked_window}
use Rattle.at_once.proofs.verdict.check_clearance.Goals as goal

pub returns-in_err-check_scene : goal.returns-in_err-check_scene
returns-in_err-check_scene c =
    let e : c.from_residual.result ≡ Err c.in_err-check_scene.field-0.0 = search rules in
    rw e (refused_scene _ _ _ _ _ _ _ c.in_err-check_scene.ensures)

pub returns : goal.returns
returns c = checked_window _ _ _ _ _ _ c.in_ok-check_scene.ensures c.check_window.ensures
