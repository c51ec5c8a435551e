-- The static rows stand in front, and behind them the rows so far.
use Rattle.std.proofs.Common.{◌≡◌, ◌+◌, ◌*◌, ◌++◌, length, take, drop}
use Rattle.csg.specs.Halfspace.{row_length}
use Rattle.standin.specs.Points.{flat}
use Rattle.mover.proofs.scene.lay_rows.Given as goal

abbrev pub invariant-loop-row : goal.invariant-loop-row
invariant-loop-row l =
    (l.end ≡ length l.rows + l.row-index * row_length) × (l.all ≡ (l.rows ++ flat (take l.row-index l.row-items)) ++ drop l.end l.fn.all)
