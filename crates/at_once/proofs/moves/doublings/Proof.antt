-- `doublings` counts the zeros behind a length's digits: they are at most 64, so they fit, and the rest by 64 is below it.
use native.Mathlib.Omega.{arith}
use borrow.Author.Rules.{rules}
use lib.Count.{trailing_le}
use Rattle.at_once.proofs.moves.doublings.Statement.{statement}
use Rattle.at_once.proofs.moves.doublings.Tie as tie

pub doublings_spec : {M : Type 1} → statement M
doublings_spec = tie.close (tie.spec (λ c. omega (arith, trailing_le 64 c.args.length)) (λ c. search rules))
