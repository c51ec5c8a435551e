-- Rules 5.6 to 5.8: what a report tells, as the rules say it: 0, how many places of the row were set and the total of
-- all counts; 6, how many are needed and 0; or another refusal and zeros. The call gives a `Result`; this reads it.
use Rattle.std.specs.Prelude.{ℕ, Result, Ok, Err}
use Rattle.universe.specs.declared.refusal.Unwritten.{Unwritten}
use Rattle.universe.specs.Told.{number_unwritten, needed_by}
use Rattle.report.specs.declared.Report.{Report}

pub record ReportAnswer : Type 0 where
  pub refusal : ℕ
  pub frames : ℕ
  pub total : ℕ

abbrev pub report_told : Result Report Unwritten → ReportAnswer
report_told (Ok r) = record { refusal = 0; frames = r.frames; total = r.total }
report_told (Err u) = record { refusal = number_unwritten u; frames = needed_by u; total = 0 }
