-- Each answer is a law of proofs/Voxels.antt.
use mathlib.Core.Path.{◌≡◌, refl, sym, ap, ◌∙◌}
use mathlib.Core.List.{List}
use Prim.Native.Nat.{ℕ}
use native.Mathlib.Omega.{arith}
use lib.ListN.{take}
use lib.Seq.{length-take-le}
use Rattle.std.proofs.Common.{rules}
use Rattle.std.specs.Prelude.{Result, Err}
use Rattle.universe.specs.declared.refusal.Refusal.{Refusal}
use Rattle.universe.specs.declared.refusal.Refusal.TheVariants.{BadExpression}
use Rattle.universe.specs.declared.Universe.{Universe}
use Rattle.universe.specs.Universe.{levels}
use Rattle.universe.specs.Voxel.{path_to}
use Rattle.universe.proofs.Telling.{number-not_zero}
use Rattle.bintree.specs.declared.Colour.{Colour}
use Rattle.bintree.specs.Told.{colour_told}
use Rattle.bintree.proofs.Answers.{accepted_most}
use Rattle.bintree.proofs.Voxels.{colour_refused, colour_lost, colour_rest, colour_place, colour_outside, colour_found}
use Rattle.bintree.proofs.voxel.colour_at.Goals as goal

way : (u : Universe) (voxel path : List ℕ) {count : ℕ} → count ≡ levels u → take (levels u) path ≡ path_to u voxel → take count path ≡ path_to u voxel
way u voxel path c f = ap (λ n. take n path) c ∙ f

pub returns-in_err-accepted : goal.returns-in_err-accepted
returns-in_err-accepted c =
    let g : ◌≡◌ {A = Result Colour Refusal} c.from_residual.result (Err c.in_err-accepted.field-0.0) = search rules in
    ap colour_told g ∙ colour_refused _ _ _ c.in_err-accepted.ensures (number-not_zero _)

pub slice_bounds-path-end : goal.slice_bounds-path-end
slice_bounds-path-end c = omega (arith, accepted_most _ c.in_ok-accepted.accepted.not_refused _ c.levels-levels.ensures)

pub slice_bounds-trace-end : goal.slice_bounds-trace-end
slice_bounds-trace-end c =
    let few = accepted_most _ c.in_ok-accepted.accepted.not_refused _ c.levels-levels.ensures in
    sym (length-take-le c.levels-levels.result c.path_to-path.result (omega arith))

pub trace-requires : goal.trace-requires
trace-requires c = accepted_most _ c.in_ok-accepted.accepted.not_refused _ c.levels-levels.ensures

pub returns-in_err-found : goal.returns-in_err-found
returns-in_err-found c =
    let g : ◌≡◌ {A = Result Colour Refusal} c.from_residual-in_err-found.result (Err BadExpression) = search rules in
    ap colour_told g
    ∙ colour_lost _ c.in_ok-accepted.accepted _ _ c.in_ok-accepted.ensures _ c.levels-levels.ensures _ (sym c.in_err-found.ensures.ok_part ∙ c.trace.ensures)

pub returns-then-found-expression : goal.returns-then-found-expression
returns-then-found-expression c =
    colour_rest _ c.in_ok-accepted.accepted _ _ c.in_ok-accepted.ensures _ c.levels-levels.ensures _ _ (sym c.in_ok-found.ensures.ok_part ∙ c.trace.ensures)
    c.if-found-expression.true

pub returns-in_err-check_voxel : goal.returns-in_err-check_voxel
returns-in_err-check_voxel c =
    let g : ◌≡◌ {A = Result Colour Refusal} c.from_residual-in_err-check_voxel.result (Err c.in_err-check_voxel.field-0.0) = search rules in
    ap colour_told g
    ∙ colour_outside _ c.in_ok-accepted.accepted _ _ c.in_ok-accepted.ensures _ c.levels-levels.ensures _ _
    (sym c.in_ok-found.ensures.ok_part ∙ c.trace.ensures) c.if-found-expression.false (way _ _ _ c.levels-levels.ensures c.path_to-path.ensures) _
    c.in_err-check_voxel.ensures (number-not_zero _)

pub bounds-expression-found : goal.bounds-expression-found
bounds-expression-found c =
    colour_place _ c.in_ok-accepted.accepted _ c.args.voxel c.in_ok-accepted.ensures _ c.levels-levels.ensures
    (take c.levels-levels.result c.path_to-path.result) _ (sym c.in_ok-found.ensures.ok_part ∙ c.trace.ensures)
    c.if-found-expression.false

pub returns : goal.returns
returns c =
    colour_found _ c.in_ok-accepted.accepted _ _ c.in_ok-accepted.ensures _ c.levels-levels.ensures _ _ (sym c.in_ok-found.ensures.ok_part ∙ c.trace.ensures)
    c.if-found-expression.false (way _ _ _ c.levels-levels.ensures c.path_to-path.ensures) _
    c.in_ok-check_voxel.ensures refl _ c.colour_of.ensures
