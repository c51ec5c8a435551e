-- `write_word` by its three cases, with one level less in each half.
use native.Mathlib.Omega.{arith}
use Rattle.at_once.proofs.Texts.{one_fits, white_text, black_text, left_some, place_few, low_text, high_text, both_texts}
use Rattle.at_once.proofs.text.+write_word.Goals as goal

pub overflow_add-result : goal.overflow_add-result
overflow_add-result t c = record { fits = omega (arith, one_fits c.requires) }

pub returns-then-word-eq0 : goal.returns-then-word-eq0
returns-then-word-eq0 t c =
    white_text c.requires c.if-word-eq0.true _
    c.note.ensures

pub all_ones-requires : goal.all_ones-requires
all_ones-requires t c = c.requires.few

pub overflow_add-result-then-word-all_ones : goal.overflow_add-result-then-word-all_ones
overflow_add-result-then-word-all_ones t c = record { fits = omega (arith, one_fits c.requires) }

pub returns-then-word-all_ones : goal.returns-then-word-all_ones
returns-then-word-all_ones t c =
    black_text c.requires c.if-word-eq0.false
    c.all_ones.ensures c.if-word-all_ones.true _ c.note-then-word-all_ones.ensures

pub overflow_sub-n : goal.overflow_sub-n
overflow_sub-n t c = left_some c.requires c.if-word-eq0.false c.all_ones.ensures c.if-word-all_ones.false

pub lower-low-requires : goal.lower-low-requires
lower-low-requires t c =
    place_few c.requires c.if-word-eq0.false c.all_ones.ensures c.if-word-all_ones.false

pub upper-high-requires : goal.upper-high-requires
upper-high-requires t c =
    place_few c.requires c.if-word-eq0.false c.all_ones.ensures
    c.if-word-all_ones.false

pub overflow_add-at : goal.overflow_add-at
overflow_add-at t c =
    record { fits = omega (arith, one_fits c.requires) }

pub write_word-middle-requires : goal.write_word-middle-requires
write_word-middle-requires t c =
    let j = c.requires in
    let some = c.if-word-eq0.false in
    let fewer = c.if-word-all_ones.false in (
      omega (arith, c.decreases, left_some j some c.all_ones.ensures fewer),
      low_text j
          some c.all_ones.ensures fewer c.lower-low.ensures,
    )

pub write_word-requires : goal.write_word-requires
write_word-requires t c =
    let j = c.requires in
    let some = c.if-word-eq0.false in
    let fewer = c.if-word-all_ones.false in (
      omega (
        arith,
        c.decreases,
        left_some j some c.all_ones.ensures fewer,
      ),
      high_text j some c.all_ones.ensures fewer c.lower-low.ensures
          c.upper-high.ensures c.write_word-middle.ensures,
    )

pub returns : goal.returns
returns t c =
    let j = c.requires in
    both_texts j c.if-word-eq0.false c.all_ones.ensures c.if-word-all_ones.false
    c.lower-low.ensures
    c.upper-high.ensures
    c.write_word-middle.ensures _ c.note-2.ensures
    c.write_word.ensures
