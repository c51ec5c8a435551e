-- `turned` gives the other round where the test holds.
use borrow.Author.Rules.{rules}
use Rattle.at_once.proofs.moves.turned.Statement.{statement}
use Rattle.at_once.proofs.moves.turned.Tie as tie

returns : tie.Need-returns-then-test
returns c = rw c.if-test.true

pub turned_spec : {M : Type 1} → statement M
turned_spec = tie.close (tie.spec (λ c. search rules) returns (λ c. rw c.if-test.false))
