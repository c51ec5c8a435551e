-- `pair_of_row` tests the two sums.
use Rattle.std.proofs.Common.{◌∙◌}
use Rattle.pruned.proofs.Pairs.{row_pair}
use Rattle.pruned.proofs.pair.pair_of_row.Goals as goal

pub returns : goal.returns
returns c = c.pair_of.ensures ∙ row_pair c.requires.small_coefficient c.requires.small_extreme c.requires.small_extreme_2
