-- `lay_word` by its three cases: a leaf is held back, and else the text is written.
use native.Mathlib.Omega.{arith}
use Rattle.at_once.proofs.Texts.{one_fits, end_fits, white_laid, black_laid, text_laid}
use Rattle.at_once.proofs.text.lay_word.Goals as goal

pub overflow_mul-result : goal.overflow_mul-result
overflow_mul-result c = record { fits = omega (arith, one_fits c.requires) }

pub overflow_add-result-then-word-eq0 : goal.overflow_add-result-then-word-eq0
overflow_add-result-then-word-eq0 c = record { fits = omega (arith, one_fits c.requires) }

pub returns-then-word-eq0 : goal.returns-then-word-eq0
returns-then-word-eq0 c = white_laid c.requires c.if-word-eq0.true _

pub overflow_mul-result-then-word-all_ones : goal.overflow_mul-result-then-word-all_ones
overflow_mul-result-then-word-all_ones c = record { fits = omega (arith, one_fits c.requires) }

pub overflow_add-result-then-word-all_ones-2 : goal.overflow_add-result-then-word-all_ones-2
overflow_add-result-then-word-all_ones-2 c = record { fits = omega (arith, one_fits c.requires) }

pub returns-then-word-all_ones : goal.returns-then-word-all_ones
returns-then-word-all_ones c = black_laid c.requires c.if-word-eq0.false c.all_ones.ensures c.if-word-all_ones.true _

pub overflow_mul-result-2 : goal.overflow_mul-result-2
overflow_mul-result-2 c =
    record { fits = omega (arith, end_fits c.requires c.write_text.ensures) }

pub returns : goal.returns
returns c =
    text_laid c.requires c.if-word-eq0.false
    c.all_ones.ensures c.if-word-all_ones.false c.write_text.ensures
