-- `raw_of_two` is the conversion of two trees with its flag.
use Rattle.pruned.proofs.Conversions.{raw_two_lem}
use Rattle.pruned.proofs.conversion.raw_of_two.Goals as goal

pub returns : goal.returns
returns c =
    let e = raw_two_lem _ _ _ _ _ _ c.of_two.ensures in
    record { answer = e.0; symbols = e.1.0; work = e.1.1 }
