-- `write_block` ends in what it laid merged, with the leaf that was held back written, or in what it wrote raw.
use mathlib.Core.Path.{refl}
use borrow.Author.Tests.{ne_eqb}
use Rattle.at_once.proofs.Conversions.{merged_written, raw_written}
use Rattle.at_once.proofs.conversion.write_block.Goals as goal

pub lay_block-packed-requires : goal.lay_block-packed-requires
lay_block-packed-requires g c =
    record {
      fact = c.requires.fact;
      shelves = c.requires.shelves;
      at_place = c.requires.at_place;
      both_shelves = record { belows_long = refl; aboves_long = refl };
      values_at = c.requires.values_at;
    }

pub returns-then-this-ne0 : goal.returns-then-this-ne0
returns-then-this-ne0 g c job =
    merged_written job (rw (ne_eqb g.row.MERGING 0 c.if-this-ne0.true))
    (c.lay_block-packed.ensures.fact_2 job) c.note.ensures

pub returns : goal.returns
returns g c job =
    raw_written job (rw c.if-this-ne0.false) (c.raw_block.ensures.fact_2 job)
