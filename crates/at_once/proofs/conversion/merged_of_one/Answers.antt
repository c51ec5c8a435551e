-- `merged_of_one` is `of_two`, the tree intersected with BLACK, merging.
use Rattle.convert.proofs.OneTree.{merged_ends}
use Rattle.at_once.proofs.conversion.merged_of_one.Goals as goal

pub returns : goal.returns
returns c =
    let k = c.of_two.ensures in
    let e = merged_ends _ _ _ _ (k.result_value, k.out_after) in
    record { result_value = e.0; out_after = e.1 }
