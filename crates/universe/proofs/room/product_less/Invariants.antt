-- What is found is the product over the axes passed.
use Rattle.std.proofs.Common.{◌≡◌, ◌-◌, get_or}
use Rattle.lemmas.specs.Sums.{product}
use Rattle.universe.proofs.room.product_less.Given as goal

abbrev pub invariant-loop-along : goal.invariant-loop-along
invariant-loop-along l = l.found ≡ product l.along-index (λ i. get_or l.fn.blocks i 0 - l.less)
