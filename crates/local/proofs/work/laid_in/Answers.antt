-- With work room that suffices either pruned conversion answers and writes as the first one does.
use Rattle.local.proofs.Conversions.{first_alone, both_together}
use Rattle.local.proofs.work.laid_in.Goals as goal

pub returns-then-both : goal.returns-then-both
returns-then-both c =
    let e = c.raw_of_two-found.ensures in
    let w = both_together _ _ _ _ _ _ c.requires c.if-both.true e.answer e.symbols c.parts_of.ensures in
    record { result_value = w.0; out_after = w.1 }

pub returns : goal.returns
returns c =
    let e = c.raw_of_one-found.ensures in
    let w = first_alone _ _ _ _ _ _ c.requires c.if-both.false e.answer e.symbols c.parts_of-2.ensures in
    record { result_value = w.0; out_after = w.1 }
