-- `whole_span` seeks the first frame from past the window on, and, where there is one, from it on the last.
use mathlib.Core.Path.{refl}
use native.Mathlib.Omega.{arith}
use Rattle.at_once.proofs.Moving.{same_values}
use Rattle.at_once.proofs.Wholes.{codes_long, shelf_long, shelves_long, both_job, few_words, past_fits, whole_values, whole_job, span_clear, span_hit}
use Rattle.at_once.proofs.Wholes.{again_job, later_is}
use Rattle.at_once.proofs.whole.whole_span.Goals as goal

pub overflow_add-count : goal.overflow_add-count
overflow_add-count c = omega (arith, few_words c.requires)

pub overflow_add-past : goal.overflow_add-past
overflow_add-past c = omega (arith, past_fits c.requires)

pub lengths_of-lengths-requires : goal.lengths_of-lengths-requires
lengths_of-lengths-requires c = record { universe_value = c.requires.scene.accepted_universe; table_value = c.axes_left-table.ensures }

pub load_both-requires : goal.load_both-requires
load_both-requires c = both_job c.requires codes_long shelf_long

pub end_block-sooner-requires : goal.end_block-sooner-requires
end_block-sooner-requires c =
    let r = c.requires in
    let b = c.load_both.ensures (both_job r codes_long shelf_long) in
    let tabled = c.lengths_of-lengths.ensures in
    let sides = c.whole_sides-side.ensures in
    let l = c.levels-levels.ensures in
    record {
      fact = whole_job r l codes_long shelf_long tabled sides b;
      shelves = record { starts_long = b.starts_long; codes_long = shelf_long };
      both_shelves = shelves_long;
      values_at = whole_values r l codes_long shelf_long tabled sides b;
    }

pub returns-then-sooner-past : goal.returns-then-sooner-past
returns-then-sooner-past c =
    let r = c.requires in
    let b = c.load_both.ensures (both_job r codes_long shelf_long) in
    let tabled = c.lengths_of-lengths.ensures in
    let sides = c.whole_sides-side.ensures in
    let l = c.levels-levels.ensures in
    span_clear r l codes_long shelf_long tabled sides b refl
    (c.end_block-sooner.ensures.fact_2 (whole_job r l codes_long shelf_long tabled sides b)) c.if-sooner-past.true

pub end_block-later-requires : goal.end_block-later-requires
end_block-later-requires c =
    let r = c.requires in
    let b = c.load_both.ensures (both_job r codes_long shelf_long) in
    let tabled = c.lengths_of-lengths.ensures in
    let sides = c.whole_sides-side.ensures in
    let l = c.levels-levels.ensures in
    let f = c.end_block-sooner.ensures in
    let p = f.put_back in
    record {
      fact = again_job r l codes_long shelf_long tabled sides b refl (f.fact_2 (whole_job r l codes_long shelf_long tabled sides b)) p;
      shelves = f.shelves_2;
      both_shelves = f.both_shelves_2;
      values_at = rw p.lows (same_values p.below f.unmoved (whole_values r l codes_long shelf_long tabled sides b));
    }

pub returns : goal.returns
returns c =
    let r = c.requires in
    let b = c.load_both.ensures (both_job r codes_long shelf_long) in
    let tabled = c.lengths_of-lengths.ensures in
    let sides = c.whole_sides-side.ensures in
    let l = c.levels-levels.ensures in
    let f = c.end_block-sooner.ensures in
    let p = f.fact_2 (whole_job r l codes_long shelf_long tabled sides b) in
    span_hit r l codes_long shelf_long tabled sides b refl p c.if-sooner-past.false
    (later_is r l codes_long shelf_long tabled sides b refl p f.put_back _ c.end_block-later.ensures.fact_2)
