-- `pairs_word`: the first pair and the steps of both values, and the digits by them.
use Rattle.at_once.proofs.Pairs.{few_steps, few_held, pair_held, whole_pair, pairs_are}
use Rattle.at_once.proofs.Threes.{held_mask}
use Rattle.at_once.proofs.pair.pairs_word.Goals as goal

pub both_steps-both-requires : goal.both_steps-both-requires
both_steps-both-requires c = few_steps c.requires

pub first_pair-requires : goal.first_pair-requires
first_pair-requires c =
    few_held c.requires

pub pair_of_thirty_two-requires : goal.pair_of_thirty_two-requires
pair_of_thirty_two-requires c =
    let few = few_held c.requires in whole_pair few c.both_steps-both.ensures (pair_held few c.first_pair.ensures)

pub returns : goal.returns
returns c =
    let few = few_held c.requires in
    held_mask c.ranges.v c.args.steps.now 6
    (pairs_are few c.both_steps-both.ensures (pair_held few c.first_pair.ensures) c.pair_of_thirty_two.ensures)
