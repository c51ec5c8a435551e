-- Rule 8.3: what the answers of calls over expressions tell, as the rules say it: a number first, and the values behind
-- it, which a refusal leaves at 0, at White and at Clear. The calls give a `Result`; these read it.
use Rattle.std.specs.Prelude.{ℕ, Result, Ok, Err}
use Rattle.universe.specs.declared.refusal.Refusal.{Refusal}
use Rattle.universe.specs.declared.refusal.Unwritten.{Unwritten}
use Rattle.universe.specs.Told.{number_of, number_unwritten, needed_by}
use Rattle.bintree.specs.declared.Colour.{Colour}
use Rattle.bintree.specs.declared.Colour.TheVariants.{White}
use Rattle.bintree.specs.declared.Verdict.{Verdict}
use Rattle.bintree.specs.declared.Verdict.TheVariants.{Clear}
use Rattle.bintree.specs.declared.Merged.{Merged}
use Rattle.bintree.specs.declared.Placed.{Placed}
use Rattle.bintree.specs.declared.Numbers.{Numbers}

-- a call that writes into lent room: 0 and the length written, 6 and the length needed, or another refusal and 0
pub record WrittenAnswer : Type 0 where
  pub refusal : ℕ
  pub length : ℕ

abbrev pub writing_told : Result ℕ Unwritten → WrittenAnswer
writing_told (Ok written) = record { refusal = 0; length = written }
writing_told (Err u) = record { refusal = number_unwritten u; length = needed_by u }

-- merging: 0, the length written and the largest count of symbols that are held back; 6, the length needed and 0; or
-- another refusal, 0 and 0
pub record MergedAnswer : Type 0 where
  pub refusal : ℕ
  pub length : ℕ
  pub held : ℕ

abbrev pub merging_told : Result Merged Unwritten → MergedAnswer
merging_told (Ok m) = record { refusal = 0; length = m.length; held = m.held }
merging_told (Err u) = record { refusal = number_unwritten u; length = needed_by u; held = 0 }

-- the colour at a voxel: 0 and the colour, or a refusal and White
pub record ColouredAnswer : Type 0 where
  pub refusal : ℕ
  pub colour : Colour

abbrev pub colour_told : Result Colour Refusal → ColouredAnswer
colour_told (Ok c) = record { refusal = 0; colour = c }
colour_told (Err r) = record { refusal = number_of r; colour = White }

-- the part at a path: 0, where it starts and how many symbols it has, or a refusal, 0 and 0
pub record PlacedAnswer : Type 0 where
  pub refusal : ℕ
  pub start : ℕ
  pub length : ℕ

abbrev pub place_told : Result Placed Refusal → PlacedAnswer
place_told (Ok p) = record { refusal = 0; start = p.start; length = p.length }
place_told (Err r) = record { refusal = number_of r; start = 0; length = 0 }

-- the numbers of an expression: 0, the black voxels of the whole universe and the verdict over a window, or a refusal,
-- 0 and Clear
pub record NumbersAnswer : Type 0 where
  pub refusal : ℕ
  pub volume : ℕ
  pub verdict : Verdict

abbrev pub numbers_told : Result Numbers Refusal → NumbersAnswer
numbers_told (Ok n) = record { refusal = 0; volume = n.volume; verdict = n.verdict }
numbers_told (Err r) = record { refusal = number_of r; volume = 0; verdict = Clear }
