-- `merged_of_two` is the conversion of two trees with its flag.
use Rattle.pruned.proofs.Conversions.{merged_two}
use Rattle.pruned.proofs.conversion.merged_of_two.Goals as goal

pub returns : goal.returns
returns c =
    let e = merged_two _ _ _ _ _ _ c.of_two.ensures in
    record { answer = e.0; symbols = e.1.0; work = e.1.1 }
