-- Each answer is a law of proofs/Places.antt.
use mathlib.Core.Path.{◌∙◌}
use Rattle.std.proofs.Common.{rules, tests}
use Rattle.bintree.proofs.Places.{trace_end, trace_leaf, trace_deep, trace_low_lost, trace_low_nowhere, trace_high_nowhere, trace_lower, trace_upper}
use Rattle.bintree.proofs.place.+trace.Goals as goal

pub returns-in_err-symbol : goal.returns-in_err-symbol
returns-in_err-symbol t c = c.from_residual.ensures ∙ trace_end _ _ _ _ (search (rules, tests))

pub returns-then-symbol-ne40 : goal.returns-then-symbol-ne40
returns-then-symbol-ne40 t c = c.all-then-symbol-ne40.ensures ∙ trace_leaf _ _ _ _ (λ e. search rules)

pub returns-then-left-eq0 : goal.returns-then-left-eq0
returns-then-left-eq0 t c = trace_deep _ _ _ _ (search rules) c.if-left-eq0.true

pub returns-in_err-low : goal.returns-in_err-low
returns-in_err-low t c =
    c.from_residual-in_err-low.ensures
    ∙ trace_low_lost _ _ _ _ (search rules) c.if-left-eq0.false _ c.in_err-low.ensures

pub returns-in_err-end : goal.returns-in_err-end
returns-in_err-end t c =
    c.from_residual-in_err-end.ensures
    ∙ trace_high_nowhere _ _ _ _ (search rules) c.if-left-eq0.false _ _ c.in-Some.ensures.cases.0 (search rules) _
    c.in_ok-low.ensures c.in_err-end.ensures

pub returns-in_err-middle : goal.returns-in_err-middle
returns-in_err-middle t c =
    c.from_residual-in_err-middle.ensures
    ∙ trace_low_nowhere _ _ _ _ (search rules) c.if-left-eq0.false c.in_err-middle.ensures

pub returns-in_ok-end : goal.returns-in_ok-end
returns-in_ok-end t c =
    trace_lower _ _ _ _ (search rules) c.if-left-eq0.false _ _ c.in-Some.ensures.cases.0 (search rules) _
    c.in_ok-low.ensures _ c.in_ok-end.ensures

pub returns-in_ok-middle : goal.returns-in_ok-middle
returns-in_ok-middle t c =
    c.trace-else-half-eq0.ensures
    ∙ trace_upper _ _ _ _ (search rules) c.if-left-eq0.false _ _ c.in-Some.ensures.cases.0 (λ e. search rules) _
    c.in_ok-middle.ensures
