-- `word_end` by the cases of the definition, with one level less in each.
use native.Mathlib.Omega.{arith}
use Rattle.at_once.proofs.Halvings.{word_place, fewer}
use Rattle.at_once.proofs.WordEnds.{end_none, end_fits, gives_along, gives_later, gives_earlier}
use Rattle.at_once.proofs.ends.+word_end.Goals as goal

pub returns-then-left-eq0 : goal.returns-then-left-eq0
returns-then-left-eq0 t c = λ h. end_none c.args.last h.universe c.args.word c.if-left-eq0.true

pub overflow_sub-n : goal.overflow_sub-n
overflow_sub-n t c = omega arith

pub lower-low-requires : goal.lower-low-requires
lower-low-requires t c = word_place c.requires c.if-left-eq0.false

pub upper-high-requires : goal.upper-high-requires
upper-high-requires t c = word_place c.requires c.if-left-eq0.false

pub offset_bounds-table-j : goal.offset_bounds-table-j
offset_bounds-table-j t c = omega (arith, word_place c.requires c.if-left-eq0.false)

pub bounds-table-j : goal.bounds-table-j
bounds-table-j t c = omega (arith, word_place c.requires c.if-left-eq0.false)

pub word_end-requires : goal.word_end-requires
word_end-requires t c =
    (omega (arith, c.decreases, c.if-left-eq0.false), fewer c.requires c.if-left-eq0.false)

pub returns-then-table-j : goal.returns-then-table-j
returns-then-table-j t c =
    λ h. gives_along h c.if-left-eq0.false c.args.last c.args.word c.lower-low.ensures c.upper-high.ensures c.if-table-j.true
    (c.word_end.ensures (fewer h c.if-left-eq0.false))

pub word_end-end-requires : goal.word_end-end-requires
word_end-end-requires t c =
    (omega (arith, c.decreases, c.if-left-eq0.false), fewer c.requires c.if-left-eq0.false)

pub offset_bounds-lengths-j : goal.offset_bounds-lengths-j
offset_bounds-lengths-j t c =
    omega (arith, word_place c.requires c.if-left-eq0.false)

pub bounds-lengths-j : goal.bounds-lengths-j
bounds-lengths-j t c =
    word_place c.requires c.if-left-eq0.false

pub overflow_add-result : goal.overflow_add-result
overflow_add-result t c =
    record {
      fits = end_fits c.requires c.if-left-eq0.false c.args.last c.args.word c.lower-low.ensures c.upper-high.ensures
          (c.word_end-end.ensures (fewer c.requires c.if-left-eq0.false));
    }

pub returns-then-is_later : goal.returns-then-is_later
returns-then-is_later t c =
    λ h. gives_later h c.if-left-eq0.false c.args.last c.args.word c.lower-low.ensures c.upper-high.ensures c.if-table-j.false
    c.is_later.ensures c.if-is_later.true (c.word_end-end.ensures (fewer h c.if-left-eq0.false))

pub word_end-requires-2 : goal.word_end-requires-2
word_end-requires-2 t c =
    (omega (arith, c.decreases, c.if-left-eq0.false), fewer c.requires c.if-left-eq0.false)

pub returns : goal.returns
returns t c =
    λ h. gives_earlier h c.if-left-eq0.false c.args.last c.args.word c.lower-low.ensures c.upper-high.ensures c.if-table-j.false
    c.is_later.ensures c.if-is_later.false (c.word_end-2.ensures (fewer h c.if-left-eq0.false))
