-- Lent memory: after a refusal it is as it was before, else the values stand at its front; and number 6 is given exactly where what is needed exceeds
-- what is lent.
use Prim.Native.Nat.{ℕ, ◌≤◌, ◌<◌}
use mathlib.Core.Path.{◌≡◌}
use mathlib.Core.List.{List, ◌++◌}
use lib.ListN.{length, drop}
use borrow.Author.Tests.{eq-eqb, ne_eqb, le-leb, lt-leb}
use Rattle.universe.specs.Refusals.{no_room}
use Rattle.universe.specs.Lent.{overwritten, room_refusal}

module _ {A : Type 0} {refusal : ℕ} (values before : List A) where
  pub untouched : (refusal ≡ 0 → ⊥) → before ≡ overwritten refusal values before
  unfolding overwritten
  untouched f = rw (ne_eqb refusal 0 f)

  pub written : {n : ℕ} → refusal ≡ 0 → n ≡ length values → values ++ drop n before ≡ overwritten refusal values before
  unfolding overwritten
  written z e = rw (eq-eqb refusal 0 z, e)

pub room_enough : (lent needed : ℕ) → needed ≤ lent → room_refusal lent needed ≡ 0
room_enough lent needed h = rw (le-leb needed lent h)

pub room_short : (lent needed : ℕ) → lent < needed → room_refusal lent needed ≡ no_room
room_short lent needed h = rw (lt-leb needed lent h)
