-- `whole_tally` begins with the whole universe's block and the codes of both trees.
use native.Mathlib.Omega.{arith}
use Rattle.at_once.proofs.Wholes.{codes_long, shelf_long, both_job, few_words, whole_job, whole_values}
use Rattle.at_once.proofs.WholeTallies.{whole_tally}
use Rattle.at_once.proofs.shared.whole_tally.Goals as goal

pub lengths_of-lengths-requires : goal.lengths_of-lengths-requires
lengths_of-lengths-requires c =
    record { universe_value = c.requires.scene.accepted_universe; table_value = c.axes_left-table.ensures }

pub load_both-requires : goal.load_both-requires
load_both-requires c = both_job c.requires codes_long shelf_long

pub overflow_add-first : goal.overflow_add-first
overflow_add-first c =
    omega (arith, few_words c.requires)

pub tally_block-requires : goal.tally_block-requires
tally_block-requires c =
    let b = c.load_both.ensures (both_job c.requires codes_long shelf_long) in
    record {
      fact = whole_job c.requires c.levels.ensures codes_long shelf_long c.lengths_of-lengths.ensures c.whole_sides-side.ensures b;
      tally_shelves = record {
        pruning = record { starts_long = b.starts_long; codes_long = shelf_long };
        words = record { sures_long = shelf_long; centres_long = shelf_long; possibles_long = shelf_long };
      };
      values_at = whole_values c.requires c.levels.ensures codes_long shelf_long c.lengths_of-lengths.ensures c.whole_sides-side.ensures b;
    }

pub returns : goal.returns
returns c =
    let b = c.load_both.ensures (both_job c.requires codes_long shelf_long) in
    whole_tally c.requires c.levels.ensures codes_long shelf_long c.lengths_of-lengths.ensures c.whole_sides-side.ensures b
    (c.tally_block.ensures.fact_2 (whole_job c.requires c.levels.ensures codes_long shelf_long c.lengths_of-lengths.ensures c.whole_sides-side.ensures b))
