-- `merged_of_one` is the conversion of one tree with its flag.
use Rattle.pruned.proofs.Conversions.{merged_one_lem}
use Rattle.pruned.proofs.conversion.merged_of_one.Goals as goal

pub returns : goal.returns
returns c =
    let e = merged_one_lem _ _ _ _ _ c.of_one.ensures in
    record { answer = e.0; symbols = e.1.0; work = e.1.1 }
