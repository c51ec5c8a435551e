-- Each answer is a law of proofs/WindowAnswers.antt.
use mathlib.Core.Path.{◌≡◌, refl, sym, ap, ◌∙◌}
use Rattle.std.proofs.Common.{rules}
use Rattle.std.specs.Prelude.{Result, Err}
use Rattle.universe.specs.declared.refusal.Refusal.{Refusal}
use Rattle.universe.specs.declared.refusal.Refusal.TheVariants.{BadExpression}
use Rattle.universe.proofs.Telling.{number-not_zero}
use Rattle.bintree.specs.declared.Numbers.{Numbers}
use Rattle.bintree.specs.Told.{numbers_told}
use Rattle.bintree.proofs.WindowAnswers.{numbers_refused, numbers_nothing, numbers_rest, numbers_outside, numbers_found}
use Rattle.bintree.proofs.window.numbers_of.Goals as goal

pub returns-in_err-accepted : goal.returns-in_err-accepted
returns-in_err-accepted c =
    let g : ◌≡◌ {A = Result Numbers Refusal} c.from_residual.result (Err c.in_err-accepted.field-0.0) = search rules in
    ap numbers_told g ∙ numbers_refused _ _ _ _ c.in_err-accepted.ensures (number-not_zero _)

pub returns-in_err-seen : goal.returns-in_err-seen
returns-in_err-seen c =
    let g : ◌≡◌ {A = Result Numbers Refusal} c.from_residual-in_err-seen.result (Err BadExpression) = search rules in
    ap numbers_told g ∙ numbers_nothing _ c.in_ok-accepted.accepted _ _ _ c.in_ok-accepted.ensures (sym c.in_err-seen.ensures.ok_part ∙ c.watch.ensures)

pub returns-then-seen-expression : goal.returns-then-seen-expression
returns-then-seen-expression c =
    numbers_rest _ c.in_ok-accepted.accepted _ _ _ c.in_ok-accepted.ensures _ (sym c.in_ok-seen.ensures.ok_part ∙ c.watch.ensures) c.if-seen-expression.true

pub returns-in_err-check_window : goal.returns-in_err-check_window
returns-in_err-check_window c =
    let g : ◌≡◌ {A = Result Numbers Refusal} c.from_residual-in_err-check_window.result (Err c.in_err-check_window.field-0.0) = search rules in
    ap numbers_told g
    ∙ numbers_outside _ c.in_ok-accepted.accepted _ _ _ c.in_ok-accepted.ensures _ (sym c.in_ok-seen.ensures.ok_part ∙ c.watch.ensures)
    c.if-seen-expression.false _ c.in_err-check_window.ensures (number-not_zero _)

pub returns : goal.returns
returns c =
    numbers_found _ c.in_ok-accepted.accepted _ _ _ c.in_ok-accepted.ensures _ (sym c.in_ok-seen.ensures.ok_part ∙ c.watch.ensures) c.if-seen-expression.false _
    c.in_ok-check_window.ensures refl _ c.verdict_from.ensures
