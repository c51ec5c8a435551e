-- Two pieces are joined by the test of what was held back of them.
use Rattle.convert.proofs.Pieces.{joined_one, joined_apart}
use Rattle.convert.proofs.lay.join.Goals as goal

pub returns-then-is_one : goal.returns-then-is_one
returns-then-is_one c =
    let w = joined_one _ _ _ _ _ c.is_one.ensures c.if-is_one.true in
    record { value = w.0; out_after = w.1 }

pub returns : goal.returns
returns c =
    let w = joined_apart _ _ _ _ _ c.is_one.ensures c.if-is_one.false c.join_halves.ensures in
    record { value = w.0; out_after = w.1 }
