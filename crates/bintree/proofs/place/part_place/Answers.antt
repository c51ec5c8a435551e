-- Each answer is a law of proofs/Places.antt.
use mathlib.Core.Path.{◌≡◌, refl, sym, ap, ◌∙◌}
use Rattle.std.proofs.Common.{rules}
use Rattle.std.specs.Prelude.{Result, Err}
use Rattle.universe.specs.declared.refusal.Refusal.{Refusal}
use Rattle.universe.specs.declared.refusal.Refusal.TheVariants.{BadExpression}
use Rattle.universe.proofs.Telling.{number-not_zero}
use Rattle.bintree.specs.declared.Placed.{Placed}
use Rattle.bintree.specs.Told.{place_told}
use Rattle.bintree.proofs.Answers.{accepted_most}
use Rattle.bintree.proofs.Places.{place_refused, place_lost, place_rest, place_outside, place_found}
use Rattle.bintree.proofs.place.part_place.Goals as goal

pub returns-in_err-accepted : goal.returns-in_err-accepted
returns-in_err-accepted c =
    let g : ◌≡◌ {A = Result Placed Refusal} c.from_residual.result (Err c.in_err-accepted.field-0.0) = search rules in
    ap place_told g ∙ place_refused _ _ _ c.in_err-accepted.ensures (number-not_zero _)

pub trace-requires : goal.trace-requires
trace-requires c = accepted_most _ c.in_ok-accepted.accepted.not_refused _ c.levels.ensures

pub returns-in_err-found : goal.returns-in_err-found
returns-in_err-found c =
    let g : ◌≡◌ {A = Result Placed Refusal} c.from_residual-in_err-found.result (Err BadExpression) = search rules in
    ap place_told g
    ∙ place_lost _ c.in_ok-accepted.accepted _ _ c.in_ok-accepted.ensures _ c.levels.ensures (sym c.in_err-found.ensures.ok_part ∙ c.trace.ensures)

pub returns-then-found-expression : goal.returns-then-found-expression
returns-then-found-expression c =
    place_rest _ c.in_ok-accepted.accepted _ _ c.in_ok-accepted.ensures _ c.levels.ensures _ (sym c.in_ok-found.ensures.ok_part ∙ c.trace.ensures)
    c.if-found-expression.true

pub returns-in_err-check_path : goal.returns-in_err-check_path
returns-in_err-check_path c =
    let g : ◌≡◌ {A = Result Placed Refusal} c.from_residual-in_err-check_path.result (Err c.in_err-check_path.field-0.0) = search rules in
    ap place_told g ∙ place_outside _ c.in_ok-accepted.accepted _ _ c.in_ok-accepted.ensures _ c.levels.ensures _
    (sym c.in_ok-found.ensures.ok_part ∙ c.trace.ensures) c.if-found-expression.false _ c.in_err-check_path.ensures (number-not_zero _)

pub returns : goal.returns
returns c =
    place_found _ c.in_ok-accepted.accepted _ _ c.in_ok-accepted.ensures _ c.levels.ensures _ (sym c.in_ok-found.ensures.ok_part ∙ c.trace.ensures)
    c.if-found-expression.false _ c.in_ok-check_path.ensures refl
