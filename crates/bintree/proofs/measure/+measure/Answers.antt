-- Each answer is a law of proofs/Measures.antt.
use mathlib.Core.Path.{◌∙◌}
use native.Mathlib.Omega.{arith}
use Rattle.std.proofs.Common.{rules, tests}
use Rattle.bintree.proofs.Measures.{measure_end, measure_deep, measure_other, measure_leaf, measure_low, measure_high}
use Rattle.bintree.proofs.Measures.{measure_fits, measure_alike, measure_apart, run_fits}
use Rattle.bintree.proofs.measure.+measure.Goals as goal

pub returns-in_err-symbol : goal.returns-in_err-symbol
returns-in_err-symbol t c = c.from_residual.ensures ∙ measure_end _ _ _ _ _ _ (search (rules, tests))

pub returns-then-left-eq0 : goal.returns-then-left-eq0
returns-then-left-eq0 t c = measure_deep _ _ _ _ _ _ (search rules) c.if-left-eq0.true

pub returns-in_err-low-in-40 : goal.returns-in_err-low-in-40
returns-in_err-low-in-40 t c =
    c.from_residual-in_err-low-in-40.ensures
    ∙ measure_low _ _ _ _ _ _ (search rules) c.if-left-eq0.false _ c.in_err-low-in-40.ensures

pub measure-requires-in-40 : goal.measure-requires-in-40
measure-requires-in-40 t c = (
  omega arith,
  (
    run_fits _ _ _ _ _ c.run_on-b.ensures c.requires.0 c.if-left-eq0.false,
    run_fits _ _ _ _ _ c.run_on-w.ensures c.requires.1 c.if-left-eq0.false,
  ),
)

pub returns-in_err-high-in-40 : goal.returns-in_err-high-in-40
returns-in_err-high-in-40 t c =
    c.from_residual-in_err-high-in-40.ensures
    ∙ measure_high _ _ _ _ _ _ (search rules) c.if-left-eq0.false _ _ c.in_ok-low-in-40.ensures _ _ c.run_on-b.ensures c.run_on-w.ensures _
    c.in_err-high-in-40.ensures

pub halved_length-length-requires : goal.halved_length-length-requires
halved_length-length-requires t c =
    measure_fits _ _ _ _ _ c.args.most (search rules) c.if-left-eq0.false _ _ c.in_ok-low-in-40.ensures _ _ c.run_on-b.ensures c.run_on-w.ensures _ _
    c.in_ok-high-in-40.ensures (search rules)

pub returns-then-is_alike : goal.returns-then-is_alike
returns-then-is_alike t c =
    measure_alike _ _ _ _ _ _ (search rules) c.if-left-eq0.false _ _ c.in_ok-low-in-40.ensures _ _ c.run_on-b.ensures c.run_on-w.ensures _ _
    c.in_ok-high-in-40.ensures c.counted-open.ensures c.counted-between.ensures (search rules)

pub returns-else-is_alike : goal.returns-else-is_alike
returns-else-is_alike t c =
    measure_apart _ _ _ _ _ _ (search rules) c.if-left-eq0.false _ _ c.in_ok-low-in-40.ensures _ _ c.run_on-b.ensures c.run_on-w.ensures _ _
    c.in_ok-high-in-40.ensures c.counted-open.ensures c.counted-between.ensures _ (search rules) c.halved_length-length.ensures

pub returns-in-66 : goal.returns-in-66
returns-in-66 t c = measure_leaf _ _ _ _ _ _ _ (search rules) c.in-66.is

pub returns-in_default : goal.returns-in_default
returns-in_default t c = measure_other _ _ _ _ _ _ (λ e. search rules) (λ e. search rules) (λ e. search rules)
