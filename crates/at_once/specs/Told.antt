-- Rule 8.3: what the answers at once tell, a number first and the values behind it: a refused verdict is Clear, refused
-- ends are none, and refused counts are 0.
use Rattle.std.specs.Prelude.{ℕ, Option, None, Result, Ok, Err}
use Rattle.universe.specs.declared.refusal.Refusal.{Refusal}
use Rattle.universe.specs.Told.{number_of}
use Rattle.bintree.specs.declared.Verdict.{Verdict}
use Rattle.bintree.specs.declared.Verdict.TheVariants.{Clear}
use Rattle.at_once.specs.declared.answer.Ends.{Ends}
use Rattle.at_once.specs.declared.answer.Contacts.{Contacts}

-- a verdict
pub record JudgedAnswer : Type 0 where
  pub refusal : ℕ
  pub verdict : Verdict

abbrev pub judged_told : Result Verdict Refusal → JudgedAnswer
judged_told (Ok v) = record { refusal = 0; verdict = v }
judged_told (Err r) = record { refusal = number_of r; verdict = Clear }

-- its ends alone, where it is Hit
pub record SpannedAnswer : Type 0 where
  pub refusal : ℕ
  pub span : Option Ends

abbrev pub spanned_told : Result (Option Ends) Refusal → SpannedAnswer
spanned_told (Ok ends) = record { refusal = 0; span = ends }
spanned_told (Err r) = record { refusal = number_of r; span = None }

-- sure and possible contact
pub record ContactsAnswer : Type 0 where
  pub refusal : ℕ
  pub sure : ℕ
  pub centre : ℕ
  pub possible : ℕ

abbrev pub contacts_told : Result Contacts Refusal → ContactsAnswer
contacts_told (Ok c) = record { refusal = 0; sure = c.sure; centre = c.centre; possible = c.possible }
contacts_told (Err r) = record { refusal = number_of r; sure = 0; centre = 0; possible = 0 }
