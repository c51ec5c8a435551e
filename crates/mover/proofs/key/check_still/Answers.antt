-- `check_still`: a Box has rows where it is taken, and then its displacement is.
use Rattle.mover.proofs.Keys.{still_none, still_asks, still_is, still_not}
use Rattle.mover.proofs.key.check_still.Goals as goal
use Rattle.mover.proofs.key.check_still.Goals.{then-box_row_count-eq0-via-then-box_row_count-eq0, then-box_row_count-eq0-via-else-box_row_count-eq0+then-not-is_still}

pub is_still-requires : goal.is_still-requires
is_still-requires c = still_asks c.args.size c.box_row_count.ensures c.if-box_row_count-eq0.false

pub returns-then-box_row_count-eq0 : goal.returns-then-box_row_count-eq0
returns-then-box_row_count-eq0 c =
    elim c.then-box_row_count-eq0.branch [
      | then-box_row_count-eq0-via-then-box_row_count-eq0 w ↦ still_none c.args.size c.box_row_count.ensures w.if-box_row_count-eq0.true
      | then-box_row_count-eq0-via-else-box_row_count-eq0+then-not-is_still w ↦
          still_not c.args.size c.box_row_count.ensures w.if-box_row_count-eq0.false w.is_still.ensures w.if-not-is_still.true
    ]

pub returns : goal.returns
returns c = still_is c.args.size c.box_row_count.ensures c.if-box_row_count-eq0.false c.is_still.ensures c.if-not-is_still.false
