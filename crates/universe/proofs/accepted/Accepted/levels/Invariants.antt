-- The bits of the axes passed are added up.
use Rattle.std.proofs.Common.{◌≡◌}
use Rattle.lemmas.specs.Sums.{sum}
use Rattle.universe.specs.Universe.{bits_along}
use Rattle.universe.proofs.accepted.Accepted.levels.Given as goal

abbrev pub invariant-loop-axis : goal.invariant-loop-axis
invariant-loop-axis l = l.levels ≡ sum l.axis (bits_along l.self.universe)
