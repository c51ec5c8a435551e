-- `whole_verdict` begins with the whole universe's block and the codes of both trees, and joins it to a contact with no voxel.
use native.Mathlib.Omega.{arith}
use Rattle.at_once.proofs.Wholes.{codes_long, shelf_long, shelves_long, both_job, few_words, whole_values, whole_count, whole_verdict}
use Rattle.at_once.proofs.whole.whole_verdict.Goals as goal

pub lengths_of-lengths-requires : goal.lengths_of-lengths-requires
lengths_of-lengths-requires c =
    record { universe_value = c.requires.scene.accepted_universe; table_value = c.axes_left-table.ensures }

pub load_both-requires : goal.load_both-requires
load_both-requires c = both_job c.requires codes_long shelf_long

pub overflow_add-first : goal.overflow_add-first
overflow_add-first c =
    omega (arith, few_words c.requires)

pub count_block-contact-requires : goal.count_block-contact-requires
count_block-contact-requires c =
    let b = c.load_both.ensures (both_job c.requires codes_long shelf_long) in
    record {
      fact = whole_count c.requires c.levels.ensures codes_long shelf_long c.lengths_of-lengths.ensures c.whole_sides-side.ensures b;
      shelves = record { starts_long = b.starts_long; codes_long = shelf_long };
      both_shelves = shelves_long;
      values_at = whole_values c.requires c.levels.ensures codes_long shelf_long c.lengths_of-lengths.ensures c.whole_sides-side.ensures b;
    }

pub returns : goal.returns
returns c =
    let b = c.load_both.ensures (both_job c.requires codes_long shelf_long) in
    whole_verdict c.requires c.levels.ensures codes_long shelf_long c.lengths_of-lengths.ensures c.whole_sides-side.ensures b
    (c.count_block-contact.ensures.fact_2 (whole_count c.requires c.levels.ensures codes_long shelf_long c.lengths_of-lengths.ensures
    c.whole_sides-side.ensures b)) c.verdict_from.ensures
