-- The number is that of the place.
use mathlib.Core.Path.{◌≡◌, ap, ◌∙◌}
use Rattle.std.proofs.Common.{rules}
use Rattle.std.specs.Prelude.{Result, Err}
use Rattle.universe.specs.declared.refusal.Refusal.{Refusal}
use Rattle.universe.specs.Told.{number_told}
use Rattle.bintree.proofs.Parts.{placed_number}
use Rattle.bintree.proofs.place.check_part.Goals as goal

pub returns-in_err-part_place : goal.returns-in_err-part_place
returns-in_err-part_place c =
    let g : ◌≡◌ {A = Result (Unit {0}) Refusal} c.from_residual.result (Err c.in_err-part_place.field-0.0) = search rules in
    ap number_told g ∙ placed_number _ _ _ _ c.in_err-part_place.ensures

pub returns : goal.returns
returns c = placed_number _ _ _ _ c.in_ok-part_place.ensures
