-- The lines of what a scene is judged to be, or refused with.
use Rattle.std.specs.Prelude.{ℕ, List, ◌++◌, Result, Ok, Err}
use Rattle.universe.specs.declared.refusal.Unwritten.{Unwritten}
use Rattle.universe.specs.declared.refusal.Unwritten.TheVariants.{Refused, NoRoom}
use Rattle.universe.specs.Told.{number_of}
use Rattle.lines.specs.declared.line.Judged.{Judged}
use Rattle.lines.specs.Lines.{refused_line, short_line, universe_line, counts_line, verdict_line}

abbrev pub three_lines : Judged → List ℕ
three_lines j =
    universe_line j.version j.universe ++ counts_line j.leaves j.raw j.room ++ verdict_line j.verdict

abbrev pub lines_told : Result Judged Unwritten → List ℕ
lines_told (Ok j) = three_lines j
lines_told (Err (NoRoom needed)) = short_line needed
lines_told (Err (Refused r)) = refused_line (number_of r)
