-- `check_list` refuses where no tree begins, or where bytes are left behind the last that may come.
use Rattle.std.proofs.Common.{rules, ◌≡◌, ◌+◌, ◌-◌, ℕ, Option, Some, None, Err, ap, ◌∙◌, arith}
use Rattle.std.specs.Option.{ok_or}
use Rattle.std.specs.Result.{result_ok}
use Rattle.universe.specs.declared.refusal.Refusal.TheVariants.{BadExpression}
use Rattle.report.specs.Lists.{most_expressions}
use Rattle.report.proofs.Lists.{judging_first, judging_end, judging_over, judging_none, judging_next}
use Rattle.report.proofs.list.check_list.Goals as goal

pub loop-init : goal.loop-init
loop-init c = judging_first _ _ c.requires

pub returns-then-at-expressions : goal.returns-then-at-expressions
returns-then-at-expressions c = judging_end _ _ _ _ c.loop.invariant c.if-at-expressions.true

pub returns-in_err-at : goal.returns-in_err-at
returns-in_err-at c =
    let none : ◌≡◌ {A = Option ℕ} c.tree_end.result None = c.ok_or.ensures.ok_part ∙ ap result_ok c.in_err-at.was in
    let made = c.ok_or.ensures.value ∙ ap (λ (end : Option ℕ). ok_or end BadExpression) none in
    let e : c.from_residual.result ≡ Err BadExpression = search (rules, made) in
    rw e (judging_none _ _ _ _ c.loop.invariant c.if-at-expressions.false (omega arith) _ c.tree_end.ensures none)

pub loop-preserved : goal.loop-preserved
loop-preserved c =
    let some : ◌≡◌ {A = Option ℕ} c.tree_end.result (Some c.in_ok-at.at) = c.ok_or.ensures.ok_part ∙ ap result_ok c.in_ok-at.was in
    let one_less : most_expressions - (c.loop.counter + 1) ≡ most_expressions - c.loop.counter - 1 = omega arith in
    rw one_less (judging_next _ _ _ _ c.loop.invariant c.if-at-expressions.false (omega arith) _ c.tree_end.ensures c.in_ok-at.at some)

pub returns-then-at-expressions-2 : goal.returns-then-at-expressions-2
returns-then-at-expressions-2 c = judging_end _ _ _ _ c.loop.invariant c.if-at-expressions-2.true

pub returns : goal.returns
returns c = judging_over _ _ _ _ c.loop.invariant c.if-at-expressions-2.false (omega arith)
