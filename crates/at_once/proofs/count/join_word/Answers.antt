-- `join_word` joins what is read off the word of a block within the window: nothing where it is 0, else its ones, and its ends where they better any.
use mathlib.Core.Path.{refl, ◌∙◌}
use mathlib.Core.Bool.{true, false}
use native.Mathlib.Omega.{arith}
use Rattle.at_once.proofs.Jobs.{some_axis, last_axis, wide_some, halvings, framed, frames_are, end_are}
use Rattle.at_once.proofs.Counting.{trees_none, word_none, word_end_fits, word_joined, word_within, ones_fit}
use Rattle.at_once.proofs.count.join_word.Goals as goal

pub returns-then-trees-eq0 : goal.returns-then-trees-eq0
returns-then-trees-eq0 c =
    λ job. let e = job.over.word_is in
    word_none job.over.block c.args.first c.args.last e refl (trees_none job.over.block c.args.first c.args.last e refl c.if-trees-eq0.true)
    c.args.contact

pub overflow_sub-frame_axis : goal.overflow_sub-frame_axis
overflow_sub-frame_axis c = some_axis c.requires.over.block

pub offset_bounds-low-frame_axis : goal.offset_bounds-low-frame_axis
offset_bounds-low-frame_axis c = omega (arith, last_axis c.requires.over.block)

pub bounds-low-frame_axis : goal.bounds-low-frame_axis
bounds-low-frame_axis c = last_axis c.requires.over.block

pub offset_bounds-side-frame_axis : goal.offset_bounds-side-frame_axis
offset_bounds-side-frame_axis c = omega (arith, last_axis c.requires.over.block)

pub bounds-side-frame_axis : goal.bounds-side-frame_axis
bounds-side-frame_axis c = last_axis c.requires.over.block

pub overflow_sub-stop : goal.overflow_sub-stop
overflow_sub-stop c = wide_some c.requires.over.block

pub frames_word-window-requires : goal.frames_word-window-requires
frames_word-window-requires c = let o = c.requires.over in framed o.block o.few

pub returns-then-word-eq0 : goal.returns-then-word-eq0
returns-then-word-eq0 c =
    λ job. word_none job.over.block c.args.first c.args.last job.over.word_is
    (frames_are job.over.block job.over.few c.args.first c.args.last c.frames_word-window.ensures) c.if-word-eq0.true c.args.contact

pub joined-requires : goal.joined-requires
joined-requires c =
    let o = c.requires.over in
    ones_fit o.block c.args.first c.args.last o.word_is (frames_are o.block o.few c.args.first c.args.last c.frames_word-window.ensures)
    c.if-word-eq0.false c.args.contact c.ones_of-voxels.ensures c.requires.counts

pub returns-then-stop-contact : goal.returns-then-stop-contact
returns-then-stop-contact c =
    λ job. c.joined.ensures
    ∙ word_within job.over.block c.args.first c.args.last job.over.word_is
    (frames_are job.over.block job.over.few c.args.first c.args.last c.frames_word-window.ensures) c.if-word-eq0.false c.args.contact
    c.if-contact-frame.true c.if-stop-contact.true c.ones_of-voxels.ensures

pub word_end-begin-requires : goal.word_end-begin-requires
word_end-begin-requires c = let o = c.requires.over in halvings o.block o.few

pub word_end-end-requires : goal.word_end-end-requires
word_end-end-requires c = let o = c.requires.over in halvings o.block o.few

pub overflow_add-frame : goal.overflow_add-frame
overflow_add-frame c =
    let o = c.requires.over in
    record {
      fits = word_end_fits o.block c.args.first c.args.last o.word_is (frames_are o.block o.few c.args.first c.args.last c.frames_word-window.ensures)
          c.if-word-eq0.false false (end_are o.block o.few false _ c.word_end-begin.ensures);
    }

pub overflow_add-frame-2 : goal.overflow_add-frame-2
overflow_add-frame-2 c =
    let o = c.requires.over in
    record {
      fits = word_end_fits o.block c.args.first c.args.last o.word_is (frames_are o.block o.few c.args.first c.args.last c.frames_word-window.ensures)
          c.if-word-eq0.false true (end_are o.block o.few true _ c.word_end-end.ensures);
    }

pub joined-requires-2 : goal.joined-requires-2
joined-requires-2 c =
    let o = c.requires.over in
    ones_fit o.block c.args.first c.args.last o.word_is (frames_are o.block o.few c.args.first c.args.last c.frames_word-window.ensures)
    c.if-word-eq0.false c.args.contact c.ones_of-voxels.ensures c.requires.counts

pub returns : goal.returns
returns c =
    λ job. c.joined-2.ensures
    ∙ word_joined job.over.block c.args.first c.args.last job.over.word_is
    (frames_are job.over.block job.over.few c.args.first c.args.last c.frames_word-window.ensures) c.if-word-eq0.false c.args.contact
    (end_are job.over.block job.over.few false _ c.word_end-begin.ensures)
    (end_are job.over.block job.over.few true _ c.word_end-end.ensures) c.ones_of-voxels.ensures
