-- The accepted universe is this one.
use mathlib.Core.Path.{◌≡◌, refl, ap, ◌∙◌}
use Prim.Native.Nat.{ℕ}
use Rattle.std.proofs.Common.{rules}
use Rattle.std.specs.Prelude.{Result, Ok, Err}
use Rattle.universe.specs.declared.refusal.Refusal.{Refusal}
use Rattle.universe.specs.Told.{room_told}
use Rattle.universe.proofs.Telling.{number-not_zero}
use Rattle.universe.proofs.Acceptance.{asked_room, refused_room}
use Rattle.universe.proofs.Universe.room.Goals as goal

pub returns-in_err-accepted : goal.returns-in_err-accepted
returns-in_err-accepted c =
    let g : ◌≡◌ {A = Result ℕ Refusal} c.from_residual.result (Err c.in_err-accepted.field-0.0) = search rules in
    ap room_told g ∙ refused_room _ c.in_err-accepted.ensures (number-not_zero _) _ _

pub returns : goal.returns
returns c = ap (λ n. room_told (Ok n)) c.room.ensures ∙ asked_room _ c.in_ok-accepted.ensures refl _ _
