-- Rule 8.4: a refusal leaves lent memory as it was, a success writes its front and nothing behind that.
use Rattle.std.specs.Prelude.{ℕ, cond, List, ◌++◌, leb, eqb, length, drop}
use Rattle.universe.specs.Refusals.{unless, no_room}

-- what lent memory holds after a call that answers this number: these values at its front, or what it held before
unfoldable pub overwritten : {A : Type 0} → ℕ → List A → List A → List A
overwritten refusal values before = cond (eqb refusal 0) (values ++ drop (length values) before) before

-- rule 8.1, number 6: more is needed than is lent
abbrev pub room_refusal : ℕ → ℕ → ℕ
room_refusal lent needed = unless (leb needed lent) no_room
