-- Rules 12.1 and 12.3: what a sweep tells, as the rules say it: 0, the universe of what is written and its length; 6,
-- three zeros and the length needed; or another refusal and zeros. The call gives a `Result`; this reads it.
use Rattle.std.specs.Prelude.{ℕ, Result, Ok, Err}
use Rattle.universe.specs.declared.Universe.{Universe}
use Rattle.universe.specs.declared.refusal.Unwritten.{Unwritten}
use Rattle.universe.specs.Questions.{no_universe}
use Rattle.universe.specs.Told.{number_unwritten, needed_by}
use Rattle.sweep.specs.declared.Swept.{Swept}

pub record SweptAnswer : Type 0 where
  pub refusal : ℕ
  pub universe : Universe
  pub length : ℕ

abbrev pub swept_told : Result Swept Unwritten → SweptAnswer
swept_told (Ok s) = record { refusal = 0; universe = s.universe; length = s.length }
swept_told (Err u) = record { refusal = number_unwritten u; universe = no_universe; length = needed_by u }
