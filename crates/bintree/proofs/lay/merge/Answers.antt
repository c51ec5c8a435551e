-- Each answer is a law of proofs/Merges.antt.
use mathlib.Core.Path.{◌≡◌, refl, sym, ap, ◌∙◌}
use native.Mathlib.Omega.{arith}
use Rattle.std.proofs.Common.{rules}
use Rattle.std.specs.Prelude.{Result, Err}
use Rattle.universe.specs.declared.refusal.Refusal.TheVariants.{BadExpression}
use Rattle.universe.specs.declared.refusal.Unwritten.{Unwritten}
use Rattle.universe.specs.declared.refusal.Unwritten.TheVariants.{Refused}
use Rattle.universe.proofs.Telling.{number-not_zero}
use Rattle.bintree.specs.declared.Merged.{Merged}
use Rattle.bintree.specs.Told.{merging_told}
use Rattle.bintree.proofs.Merges.{merge_refused, merge_kept, merge_broken, merge_broken_kept, merge_rest, merge_rest_kept}
use Rattle.bintree.proofs.Merges.{merge_short, merge_short_kept, merge_done, merge_left, twice_fits}
use Rattle.bintree.proofs.lay.merge.Goals as goal

pub returns-in_err-check-clause-value : goal.returns-in_err-check-clause-value
returns-in_err-check-clause-value c =
    let g : ◌≡◌ {A = Result Merged Unwritten} c.from_residual.result (Err (Refused c.in_err-check.field-0.0)) = search rules in
    ap merging_told g ∙ merge_refused _ _ _ _ c.in_err-check.ensures (number-not_zero _)

pub returns-in_err-check-clause-out_after : goal.returns-in_err-check-clause-out_after
returns-in_err-check-clause-out_after c = merge_kept _ _ _ _ c.in_err-check.ensures (number-not_zero _)

pub measure-requires : goal.measure-requires
measure-requires c = let h = twice_fits _ _ c.levels-levels.ensures in (h, h)

pub returns-in_err-whole-clause-value : goal.returns-in_err-whole-clause-value
returns-in_err-whole-clause-value c =
    let g : ◌≡◌ {A = Result Merged Unwritten} c.from_residual-in_err-whole.result (Err (Refused BadExpression)) = search rules in
    ap merging_told g
    ∙ merge_broken _ _ _ _ c.in_ok-check.ensures refl _ c.levels-levels.ensures (sym c.in_err-whole.ensures.ok_part ∙ c.measure.ensures)

pub returns-in_err-whole-clause-out_after : goal.returns-in_err-whole-clause-out_after
returns-in_err-whole-clause-out_after c =
    merge_broken_kept _ _ _ _ c.in_ok-check.ensures refl _ c.levels-levels.ensures (sym c.in_err-whole.ensures.ok_part ∙ c.measure.ensures)

pub returns-then-whole-expression-clause-value : goal.returns-then-whole-expression-clause-value
returns-then-whole-expression-clause-value c =
    merge_rest _ _ _ _ c.in_ok-check.ensures refl _ c.levels-levels.ensures _ (sym c.in_ok-whole.ensures.ok_part ∙ c.measure.ensures)
    c.if-whole-expression.true

pub returns-then-whole-expression-clause-out_after :
    goal.returns-then-whole-expression-clause-out_after
returns-then-whole-expression-clause-out_after c =
    merge_rest_kept _ _ _ _ c.in_ok-check.ensures refl _ c.levels-levels.ensures _ (sym c.in_ok-whole.ensures.ok_part ∙ c.measure.ensures)
    c.if-whole-expression.true

pub returns-then-out-whole-clause-value : goal.returns-then-out-whole-clause-value
returns-then-out-whole-clause-value c =
    merge_short _ _ _ _ c.in_ok-check.ensures refl _ c.levels-levels.ensures _ (sym c.in_ok-whole.ensures.ok_part ∙ c.measure.ensures)
    c.if-whole-expression.false c.if-out-whole.true

pub returns-then-out-whole-clause-out_after : goal.returns-then-out-whole-clause-out_after
returns-then-out-whole-clause-out_after c =
    merge_short_kept _ _ _ _ c.in_ok-check.ensures refl _ c.levels-levels.ensures _ (sym c.in_ok-whole.ensures.ok_part ∙ c.measure.ensures)
    c.if-whole-expression.false c.if-out-whole.true

pub returns-clause-value : goal.returns-clause-value
returns-clause-value c =
    merge_done _ _ _ _ c.in_ok-check.ensures refl _ c.levels-levels.ensures _ (sym c.in_ok-whole.ensures.ok_part ∙ c.measure.ensures)
    c.if-whole-expression.false (omega arith)

pub returns-clause-out_after : goal.returns-clause-out_after
returns-clause-out_after c =
    merge_left _ _ _ _ c.in_ok-check.ensures refl _ c.levels-levels.ensures _ (sym c.in_ok-whole.ensures.ok_part ∙ c.measure.ensures)
    c.if-whole-expression.false (omega arith) _ _ _ c.lay.ensures c.note.ensures
