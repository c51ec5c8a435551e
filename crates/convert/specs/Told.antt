-- Rules 8.1 and 8.3: what the answer of a verdict of two trees tells, as the rules say it: a number first, and the values
-- behind it. A refused verdict is Clear; the length is the raw expression's, needed on 6.
use Rattle.std.specs.Prelude.{ℕ, Result, Ok, Err}
use Rattle.universe.specs.declared.refusal.Unwritten.{Unwritten}
use Rattle.universe.specs.Told.{number_unwritten, needed_by}
use Rattle.bintree.specs.declared.Verdict.{Verdict}
use Rattle.bintree.specs.declared.Verdict.TheVariants.{Clear}
use Rattle.convert.specs.declared.verdict.Clearance.{Clearance}

pub record ClearanceAnswer : Type 0 where
  pub refusal : ℕ
  pub verdict : Verdict
  pub length : ℕ

abbrev pub clearance_told : Result Clearance Unwritten → ClearanceAnswer
clearance_told (Ok judged) = record { refusal = 0; verdict = judged.verdict; length = judged.length }
clearance_told (Err w) = record { refusal = number_unwritten w; verdict = Clear; length = needed_by w }
