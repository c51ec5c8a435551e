-- Rules 8.1 and 8.3: what an answer tells, as the rules say it: a number first, and the values behind it, which a refusal
-- leaves at 0. The calls give a `Result`; these read it.
use Rattle.std.specs.Prelude.{ℕ, Result, Ok, Err}
use Rattle.universe.specs.declared.refusal.Refusal.{Refusal}
use Rattle.universe.specs.declared.refusal.Refusal.TheVariants.{BadFile, BadUniverse, BadRows, BadTree, OverfullTree}
use Rattle.universe.specs.declared.refusal.Refusal.TheVariants.{BadExpression, NotMerged, Outside, BadProxy, BadKeys, BadStep}
use Rattle.universe.specs.declared.refusal.Unwritten.{Unwritten}
use Rattle.universe.specs.declared.refusal.Unwritten.TheVariants.{Refused, NoRoom}
use Rattle.universe.specs.Refusals.{bad_file, bad_universe, bad_rows, bad_tree, overfull_tree, no_room}
use Rattle.universe.specs.Refusals.{bad_expression, not_merged, outside, bad_proxy, bad_keys, bad_step}

-- the number of a refusal
abbrev pub number_of : Refusal → ℕ
number_of BadFile = bad_file
number_of BadUniverse = bad_universe
number_of BadRows = bad_rows
number_of BadTree = bad_tree
number_of OverfullTree = overfull_tree
number_of BadExpression = bad_expression
number_of NotMerged = not_merged
number_of Outside = outside
number_of BadProxy = bad_proxy
number_of BadKeys = bad_keys
number_of BadStep = bad_step

-- that of a call which writes nothing, and how much room it needs: 0 where it refuses what it is given
abbrev pub number_unwritten : Unwritten → ℕ
number_unwritten (Refused r) = number_of r
number_unwritten (NoRoom needed) = no_room

abbrev pub needed_by : Unwritten → ℕ
needed_by (Refused r) = 0
needed_by (NoRoom needed) = needed

-- what a check's answer tells: 0 where it accepts, else the number of its refusal
abbrev pub number_told : Result (Unit {0}) Refusal → ℕ
number_told (Ok accepted) = 0
number_told (Err r) = number_of r

-- what the room question answers: 0 and room in symbols, or a number and 0
pub record RoomAnswer : Type 0 where
  pub refusal : ℕ
  pub symbols : ℕ

abbrev pub room_told : Result ℕ Refusal → RoomAnswer
room_told (Ok room) = record { refusal = 0; symbols = room }
room_told (Err r) = record { refusal = number_of r; symbols = 0 }
