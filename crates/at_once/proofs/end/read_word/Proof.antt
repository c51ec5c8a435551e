-- `read_word` betters a frame by the end that is read off the word of a block within the window, and by nothing where it is 0.
use mathlib.Core.Path.{refl}
use native.Mathlib.Omega.{arith}
use Rattle.at_once.proofs.Jobs.{some_axis, last_axis, halvings, framed, frames_are, end_are}
use Rattle.at_once.proofs.Counting.{trees_none, word_end_fits}
use Rattle.at_once.proofs.Betters.{end_word_none, end_word}
use Rattle.at_once.proofs.end.read_word.Statement.{statement}
use Rattle.at_once.proofs.end.read_word.Tie as tie

returns : tie.Need-returns-then-trees-eq0
returns c =
    let k = c in
    λ over. let e = over.word_is in
    end_word_none over.block k.args.first k.args.last k.args.backward k.args.known e refl (trees_none over.block k.args.first k.args.last e refl c.if-trees-eq0.true)

frames-word-requires : tie.Need-frames_word-window-requires
frames-word-requires c κs = let o = c.requires in framed o.block o.few

returns-2 : tie.Need-returns-then-word-eq0
returns-2 c =
    let w = c in let k = w in
    λ over. end_word_none over.block k.args.first k.args.last k.args.backward k.args.known over.word_is
    (frames_are over.block over.few k.args.first k.args.last w.frames_word-window.ensures) c.if-word-eq0.true

word-end-requires : tie.Need-word_end-end-requires
word-end-requires c κs = let o = c.requires in halvings o.block o.few

add-better : tie.Need-overflow_add-frame
add-better c =
    let i = c in let w = i in let k = w in
    let o = k.requires in
    record {
      fits = word_end_fits o.block k.args.first k.args.last o.word_is (frames_are o.block o.few k.args.first k.args.last w.frames_word-window.ensures)
          i.if-word-eq0.false k.args.backward (end_are o.block o.few k.args.backward _ c.word_end-end.ensures);
    }

returns-3 : tie.Need-returns
returns-3 c =
    let e = c in let i = e in let w = i in let k = w in
    λ over. end_word over.block k.args.first k.args.last k.args.backward k.args.known over.word_is
    (frames_are over.block over.few k.args.first k.args.last w.frames_word-window.ensures) i.if-word-eq0.false
    (end_are over.block over.few k.args.backward _ e.word_end-end.ensures) c.better.ensures

pub read_word_spec : {M : Type 1} → statement M
read_word_spec =
    tie.close
    (tie.spec
    returns
    (λ c. some_axis c.requires.block)
    (λ c. omega (arith, last_axis c.requires.block))
    (λ c. last_axis c.requires.block)
    (λ c. omega (arith, last_axis c.requires.block))
    (λ c. last_axis c.requires.block)
    frames-word-requires
    returns-2
    word-end-requires
    add-better
    (λ c κs. tt)
    returns-3)
