-- `write_whole` writes the whole universe's block, with the codes of both trees loaded.
use Rattle.at_once.proofs.Wholes.{shelf_long}
use Rattle.at_once.proofs.Conversions.{both_job, whole_place, whole_values, whole_job, whole_written}
use Rattle.at_once.proofs.conversion.write_whole.Goals as goal

pub load_both-requires : goal.load_both-requires
load_both-requires g c = both_job c.requires shelf_long

pub write_block-requires : goal.write_block-requires
write_block-requires g c =
    let loaded = c.load_both.ensures (both_job c.requires shelf_long) in
    record {
      fact = whole_job c.requires c.levels.ensures shelf_long c.lengths_of-lengths.ensures c.whole_sides-side.ensures loaded;
      shelves = record { starts_long = loaded.starts_long; codes_long = shelf_long };
      at_place = whole_place c.requires c.levels.ensures;
      values_at = whole_values c.requires c.levels.ensures shelf_long c.lengths_of-lengths.ensures c.whole_sides-side.ensures loaded;
    }

pub returns : goal.returns
returns g c =
    let loaded = c.load_both.ensures (both_job c.requires shelf_long) in
    let job = whole_job c.requires c.levels.ensures shelf_long c.lengths_of-lengths.ensures c.whole_sides-side.ensures loaded in
    let w = whole_written c.requires c.levels.ensures shelf_long c.lengths_of-lengths.ensures c.whole_sides-side.ensures loaded _ (c.write_block.ensures job) in
    record { result_value = w.0; out_after = w.1 }
