-- `report_of` answers with the first refusal, with the frames that are needed, or with the row's sum, and sets the row where nothing is refused.
use Rattle.std.proofs.Common.{rules, ◌≡◌, Err, take, refl}
use Rattle.std.specs.List.{sum}
use Rattle.universe.specs.declared.refusal.Unwritten.TheVariants.{Refused}
use Rattle.universe.proofs.Telling.{number-not_zero}
use Rattle.report.proofs.Reports.{report_refused, report_short, report_listed, report_fits, report_done}
use Rattle.report.proofs.answer.report_of.Goals as goal

pub returns-in_err-check : goal.returns-in_err-check
returns-in_err-check c =
    let e : c.from_residual.result ≡ Err (Refused c.in_err-check.field-0.0) = search rules in
    let a = report_refused _ _ _ _ c.args.counts.now _ c.in_err-check.ensures _ (number-not_zero _) refl in
    record { result_value = rw e a.0; counts_after = a.1 }

pub returns-then-counts-frames : goal.returns-then-counts-frames
returns-then-counts-frames c =
    let a = report_short _ _ _ _ _ _ c.in_ok-check.ensures refl _ c.frames-frames.ensures _ c.if-counts-frames.true refl in
    record { result_value = a.0; counts_after = a.1 }

pub fill_list-requires : goal.fill_list-requires
fill_list-requires c = report_listed _ _ _ _ _ _ c.in_ok-check.ensures refl _ c.frames-frames.ensures c.if-counts-frames.false

pub sum-requires-clause-fits : goal.sum-requires-clause-fits
sum-requires-clause-fits c =
    let small = report_fits _ _ _ _ _ _ c.in_ok-check.ensures refl _ c.frames-frames.ensures c.if-counts-frames.false _ c.fill_list.ensures in
    search rules

pub returns : goal.returns
returns c =
    let total : c.sum.result ≡ sum (take c.frames-frames.result c.fill_list.new.counts) = search rules in
    let a = report_done _ _ _ _ _ _ c.in_ok-check.ensures refl _ c.frames-frames.ensures c.if-counts-frames.false _ c.fill_list.ensures _ _ total refl in
    record { result_value = a.0; counts_after = a.1 }
