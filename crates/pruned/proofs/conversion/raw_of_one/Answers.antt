-- `raw_of_one` is the conversion of one tree with its flag.
use Rattle.pruned.proofs.Conversions.{raw_one_lem}
use Rattle.pruned.proofs.conversion.raw_of_one.Goals as goal

pub returns : goal.returns
returns c =
    let e = raw_one_lem _ _ _ _ _ c.of_one.ensures in
    record { answer = e.0; symbols = e.1.0; work = e.1.1 }
