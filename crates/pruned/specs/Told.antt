-- Rules 16.3 and 16.4: what a pruned conversion's answer tells, as the rules say it: a number first, whether work room is
-- lacking, and the values behind it, of which a refusal leaves the nodes looked at 0. The calls give a `Result`; these
-- read it.
use Rattle.std.specs.Prelude.{ℕ, Bool, true, false, Result, Ok, Err}
use Rattle.universe.specs.Refusals.{no_room}
use Rattle.universe.specs.Told.{number_of}
use Rattle.pruned.specs.declared.answer.Conversion.{Conversion}
use Rattle.pruned.specs.declared.answer.Unconverted.{Unconverted}
use Rattle.pruned.specs.declared.answer.Unconverted.TheVariants.{Refused, ShortOfWork, ShortOfSymbols}

-- the number, whether work room is lacking, the length written, or needed on 6, and the nodes looked at
pub record ConversionAnswer : Type 0 where
  pub refusal : ℕ
  pub short_of_work : Bool
  pub length : ℕ
  pub looked : ℕ

-- the number of a conversion that writes nothing, how much room it needs, nodes or symbols, and whether it is nodes
abbrev pub number_unconverted : Unconverted → ℕ
number_unconverted (Refused r) = number_of r
number_unconverted (ShortOfWork nodes) = no_room
number_unconverted (ShortOfSymbols symbols) = no_room

abbrev pub needed_to_convert : Unconverted → ℕ
needed_to_convert (Refused r) = 0
needed_to_convert (ShortOfWork nodes) = nodes
needed_to_convert (ShortOfSymbols symbols) = symbols

abbrev pub lacks_work : Unconverted → Bool
lacks_work (Refused r) = false
lacks_work (ShortOfWork nodes) = true
lacks_work (ShortOfSymbols symbols) = false

abbrev pub conversion_told : Result Conversion Unconverted → ConversionAnswer
conversion_told (Ok done) = record { refusal = 0; short_of_work = false; length = done.length; looked = done.looked }
conversion_told (Err e) =
    record {
      refusal = number_unconverted e;
      short_of_work = lacks_work e;
      length = needed_to_convert e;
      looked = 0;
    }
