-- A word that names a halfspace has a place for its row.
use Rattle.std.proofs.Common.{arith}
use Rattle.convert.proofs.Slots.{naming_start, naming_room, naming_one, naming_none, naming_end}
use Rattle.convert.proofs.carried.name_rows.Goals as goal
use Rattle.convert.proofs.carried.name_rows.Goals.{then-names_halfspace, else-names_halfspace}

pub loop-word-init : goal.loop-word-init
loop-word-init c = naming_start _ _ _

pub offset_bounds-slots-slot : goal.offset_bounds-slots-slot
offset_bounds-slots-slot c =
    omega (arith, naming_room c.loop-word.invariant c.requires c.loop-word-test.true c.names_halfspace.ensures c.if-names_halfspace.true)

pub bounds-slots-slot : goal.bounds-slots-slot
bounds-slots-slot c = naming_room c.loop-word.invariant c.requires c.loop-word-test.true c.names_halfspace.ensures c.if-names_halfspace.true

pub overflow_add-slot : goal.overflow_add-slot
overflow_add-slot c =
    omega (arith, naming_room c.loop-word.invariant c.requires c.loop-word-test.true c.names_halfspace.ensures c.if-names_halfspace.true)

pub loop-word-preserved : goal.loop-word-preserved
loop-word-preserved c =
    let n = c.loop-word.invariant in
    let e = c.names_halfspace.ensures in
    elim c.if-names_halfspace.branch [
      | then-names_halfspace w ↦ rw (w.slots-is, w.slot-is) (naming_one n c.loop-word-test.true e w.if-names_halfspace.true)
      | else-names_halfspace w ↦ rw (w.slots-is, w.slot-is) (naming_none n c.loop-word-test.true e w.if-names_halfspace.false)
    ]

pub returns : goal.returns
returns c =
    let e = naming_end c.loop-word.invariant c.loop-word-test.false in
    record { value = e.0; slots_after = e.1 }
