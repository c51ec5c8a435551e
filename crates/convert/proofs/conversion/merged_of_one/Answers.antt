-- The tree is converted intersected with BLACK.
use Rattle.convert.proofs.OneTree.{merged_ends}
use Rattle.convert.proofs.conversion.merged_of_one.Goals as goal

pub returns : goal.returns
returns c =
    let w = merged_ends _ _ _ _ (c.of_two.ensures.result_value, c.of_two.ensures.out_after) in
    record { result_value = w.0; out_after = w.1 }
