-- `pairs_words`: three first pairs, and the digits of each by its two halves.
use Rattle.at_once.proofs.Pairs.{few_steps, few_held, end_fits, low_half, high_half, halves_are}
use Rattle.at_once.proofs.Threes.{held_mask}
use Rattle.at_once.proofs.three.pairs_words.Goals as goal

pub both_steps-both-requires : goal.both_steps-both-requires
both_steps-both-requires c = few_steps c.requires.few_values

pub first_pair-sure-requires : goal.first_pair-sure-requires
first_pair-sure-requires c =
    few_held c.requires.few_values

pub first_pair-centre-requires : goal.first_pair-centre-requires
first_pair-centre-requires c =
    few_held c.requires.few_values_2

pub first_pair-possible-requires : goal.first_pair-possible-requires
first_pair-possible-requires c =
    few_held c.requires.few_values_3

pub pair_of_sixteen-requires : goal.pair_of_sixteen-requires
pair_of_sixteen-requires c =
    low_half (few_held c.requires.few_values) c.both_steps-both.ensures c.first_pair-sure.ensures

pub overflow_add-sure : goal.overflow_add-sure
overflow_add-sure c =
    end_fits (few_held c.requires.few_values) c.both_steps-both.ensures c.first_pair-sure.ensures

pub pair_of_sixteen-requires-2 : goal.pair_of_sixteen-requires-2
pair_of_sixteen-requires-2 c =
    high_half (few_held c.requires.few_values) c.both_steps-both.ensures c.first_pair-sure.ensures

pub pair_of_sixteen-requires-3 : goal.pair_of_sixteen-requires-3
pair_of_sixteen-requires-3 c =
    low_half (few_held c.requires.few_values_2) c.both_steps-both.ensures c.first_pair-centre.ensures

pub overflow_add-centre : goal.overflow_add-centre
overflow_add-centre c =
    end_fits (few_held c.requires.few_values_2) c.both_steps-both.ensures c.first_pair-centre.ensures

pub pair_of_sixteen-requires-4 : goal.pair_of_sixteen-requires-4
pair_of_sixteen-requires-4 c =
    high_half (few_held c.requires.few_values_2) c.both_steps-both.ensures c.first_pair-centre.ensures

pub pair_of_sixteen-requires-5 : goal.pair_of_sixteen-requires-5
pair_of_sixteen-requires-5 c =
    low_half (few_held c.requires.few_values_3) c.both_steps-both.ensures c.first_pair-possible.ensures

pub overflow_add-possible : goal.overflow_add-possible
overflow_add-possible c =
    end_fits (few_held c.requires.few_values_3) c.both_steps-both.ensures c.first_pair-possible.ensures

pub pair_of_sixteen-requires-6 : goal.pair_of_sixteen-requires-6
pair_of_sixteen-requires-6 c =
    high_half (few_held c.requires.few_values_3) c.both_steps-both.ensures c.first_pair-possible.ensures

pub returns : goal.returns
returns c =
    let steps = c.args.steps.now in record {
      sure = held_mask c.ranges.below steps 6
          (halves_are (few_held c.requires.few_values) c.both_steps-both.ensures c.first_pair-sure.ensures c.pair_of_sixteen.ensures
          c.pair_of_sixteen-2.ensures);
      centre = held_mask c.ranges.v steps 6
          (halves_are (few_held c.requires.few_values_2) c.both_steps-both.ensures c.first_pair-centre.ensures c.pair_of_sixteen-3.ensures
          c.pair_of_sixteen-4.ensures);
      possible = held_mask c.ranges.above steps 6
          (halves_are (few_held c.requires.few_values_3) c.both_steps-both.ensures c.first_pair-possible.ensures c.pair_of_sixteen-5.ensures
          c.pair_of_sixteen-6.ensures);
    }
