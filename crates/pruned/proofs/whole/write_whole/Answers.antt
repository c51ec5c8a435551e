-- `write_whole`: the full trees are pruned over the universe in place; decided there it is one symbol, undecided its halves are written.
use Rattle.std.proofs.Common.{refl}
use Rattle.pruned.proofs.Laying.{block_pruning}
use Rattle.pruned.proofs.Writing.{root, whole_closed, open_job, whole_open}
use Rattle.pruned.proofs.whole.write_whole.Goals as goal

pub prune-kept-requires : goal.prune-kept-requires
prune-kept-requires c =
    let j = c.requires in
    record {
      fact = block_pruning (root j refl c.levels-levels.ensures c.axes_left-table.ensures);
      shelves = record { starts_long = j.starts_long; codes_long = refl };
    }

pub returns-then-mark-ne0 : goal.returns-then-mark-ne0
returns-then-mark-ne0 c = λ j.
    let b = root j refl c.levels-levels.ensures c.axes_left-table.ensures in
    let p = c.prune-kept.ensures.fact_2 (block_pruning b) in
    whole_closed j refl c.levels-levels.ensures c.axes_left-table.ensures p _ _ c.if-mark-ne0.true c.symbol_of.ensures c.write_symbol.ensures

pub write_open-requires : goal.write_open-requires
write_open-requires c =
    let j = c.requires in
    let b = root j refl c.levels-levels.ensures c.axes_left-table.ensures in
    let p = c.prune-kept.ensures.fact_2 (block_pruning b) in
    record {
      fact = open_job j refl c.levels-levels.ensures c.axes_left-table.ensures p c.if-mark-ne0.false;
      shelves = c.prune-kept.ensures.shelves_2;
    }

pub returns : goal.returns
returns c = λ j.
    let b = root j refl c.levels-levels.ensures c.axes_left-table.ensures in
    let p = c.prune-kept.ensures.fact_2 (block_pruning b) in
    let z = c.if-mark-ne0.false in
    whole_open j refl c.levels-levels.ensures c.axes_left-table.ensures p z _ _
    (c.write_open.ensures (open_job j refl c.levels-levels.ensures c.axes_left-table.ensures p z))
