-- Value after value is moved, the least up and the greatest down, each by its amount.
use Rattle.std.proofs.Common.{◌+◌, get_or, pos, ◌+ℤ◌, ◌-ℤ◌}
use Rattle.convert.specs.Slots.{halved_by}
use Rattle.convert.proofs.Slots.{Storing}
use Rattle.convert.proofs.carried.move_to.Given as goal

abbrev pub invariant-loop-i : goal.invariant-loop-i
invariant-loop-i l =
    Storing (λ k. get_or l.initial.least k (pos 0) +ℤ pos (get_or (halved_by l.times l.amounts) (l.one + k) 0)) 0 l.count l.initial.least l.least l.i
    × Storing (λ k. get_or l.initial.greatest k (pos 0) -ℤ pos (get_or (halved_by l.times l.amounts) (l.other + k) 0)) 0 l.count l.initial.greatest l.greatest l.i
