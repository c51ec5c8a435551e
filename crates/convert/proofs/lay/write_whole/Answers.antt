-- The whole universe is judged: it is one symbol, or its halves are laid, and the one leaf that they may have been merged to is written.
use Rattle.std.proofs.Common.{sym, ◌∙◌, replicate}
use Rattle.universe.specs.Universe.{most_axes}
use Rattle.universe.proofs.Universes.{accepted}
use Rattle.convert.proofs.Blocks.{side_small}
use Rattle.convert.proofs.Naming.{first_asks, second_asks}
use Rattle.convert.proofs.Pieces.{unpacked_is, piece_closed}
use Rattle.convert.proofs.Laying.{whole_told}
use Rattle.convert.proofs.Beginning.{begin_slots, whole_judging, whole_half}
use Rattle.convert.proofs.Answers.{standing, laying, piece_length, noted_whole}
use Rattle.convert.proofs.lay.write_whole.Goals as goal

pub name_rows-from-requires : goal.name_rows-from-requires
name_rows-from-requires c = first_asks c.requires

pub name_rows-count-requires : goal.name_rows-count-requires
name_rows-count-requires c = second_asks c.requires c.name_rows-from.ensures.value

pub begin-requires-clause-axes_le_most_axes : goal.begin-requires-clause-axes_le_most_axes
begin-requires-clause-axes_le_most_axes c = (accepted _ c.requires.accepted_universe).few_axes

pub begin-requires-clause-slotted : goal.begin-requires-clause-slotted
begin-requires-clause-slotted c =
    let m = c.name_rows-from.ensures in
    let n = c.name_rows-count.ensures in
    begin_slots c.requires m.slots_after n.slots_after m.value n.value

pub begin-requires-clause-small_places : goal.begin-requires-clause-small_places
begin-requires-clause-small_places c = side_small (standing c.requires c.levels-levels.ensures c.whole_sides-side.ensures)

pub judge-codes-requires-clause-fact : goal.judge-codes-requires-clause-fact
judge-codes-requires-clause-fact c =
    let m = c.name_rows-from.ensures in
    let n = c.name_rows-count.ensures in
    let s = c.whole_sides-side.ensures in
    whole_judging c.requires m.slots_after n.slots_after m.value n.value (standing c.requires c.levels-levels.ensures s) s c.begin.ensures

pub returns-then-mark-ne0 : goal.returns-then-mark-ne0
returns-then-mark-ne0 c =
    let r = c.requires in
    let l = c.levels-levels.ensures in
    let told = whole_told r c.levels-levels.result (replicate most_axes 0) c.judge-codes.ensures in
    let w = piece_closed r _ _ _ told c.if-mark-ne0.true c.symbol_of.ensures c.args.out.now 0 in
    record { result_value = piece_length r _ l w.0; out_after = noted_whole r _ l w.0 _ w.1 c.note.ensures }

pub lay_halves-requires-clause-fact : goal.lay_halves-requires-clause-fact
lay_halves-requires-clause-fact c =
    let r = c.requires in
    let m = c.name_rows-from.ensures in
    let n = c.name_rows-count.ensures in
    let l = c.levels-levels.ensures in
    let s = c.whole_sides-side.ensures in
    let told = whole_told r c.levels-levels.result (replicate most_axes 0) c.judge-codes.ensures in
    let whole = laying r l s c.axes_left-axes.ensures in
    whole_half r m.slots_after n.slots_after m.value n.value (standing r l s) s c.begin.ensures whole (sym c.if-mark-ne0.false ∙ told) c.turns_left-turns.ensures

pub returns : goal.returns
returns c =
    let r = c.requires in
    let l = c.levels-levels.ensures in
    let e = c.lay_halves.ensures in
    let p = unpacked_is _ _ e.result_value c.unpacked-piece.ensures in
    record { result_value = piece_length r _ l p; out_after = noted_whole r _ l p _ e.out_after c.note-2.ensures }
