-- `settle` gives what the places come to: one place more at each turn.
use Rattle.std.proofs.Common.{sym, ◌∙◌}
use Rattle.sweep.proofs.Slots.{settled_end, settled_black, settled_open, settled_other}
use Rattle.sweep.proofs.places.settle.Goals.{then-symbol-eq40, else-symbol-eq40}
use Rattle.sweep.proofs.places.settle.Goals as goal

pub returns-then-symbol-eq66 : goal.returns-then-symbol-eq66
returns-then-symbol-eq66 c =
    sym (settled_black _ _ _ _ c.loop-place-test.true c.if-symbol-eq66.true) ∙ c.loop-place.invariant

pub loop-place-preserved : goal.loop-place-preserved
loop-place-preserved c =
    elim c.if-symbol-eq40.branch [
      | then-symbol-eq40 w ↦ rw w.found-is (
          sym (settled_open _ _ _ _ c.loop-place-test.true c.if-symbol-eq66.false w.if-symbol-eq40.true) ∙ c.loop-place.invariant)
      | else-symbol-eq40 w ↦ rw w.found-is (
          sym (settled_other _ _ _ _ c.loop-place-test.true c.if-symbol-eq66.false w.if-symbol-eq40.false) ∙ c.loop-place.invariant)
    ]

pub returns : goal.returns
returns c = sym (settled_end _ _ _ _ c.loop-place-test.false) ∙ c.loop-place.invariant
