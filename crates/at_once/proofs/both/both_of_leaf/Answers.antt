-- `both_of_leaf` by the kind of the leaf that the code has.
use mathlib.Core.Path.{refl}
use Rattle.at_once.proofs.LeafWords.{gives_white, gives_black, side_value, side_job, exchange_fits, gives_own, gives_reversed}
use Rattle.at_once.proofs.both.both_of_leaf.Goals as goal

pub returns-then-code-eq0 : goal.returns-then-code-eq0
returns-then-code-eq0 c = let z = c.if-code-eq0.true in
    record { fact_3 = λ job. gives_white job z; fact_4 = λ job. gives_white job z }

pub returns-then-code-lt-FIRST_SIDE : goal.returns-then-code-lt-FIRST_SIDE
returns-then-code-lt-FIRST_SIDE c =
    let z = c.if-code-eq0.false in let l = c.if-code-lt-FIRST_SIDE.true in
    record { fact_3 = λ job. gives_black job z l refl; fact_4 = λ job. gives_black job z l refl }

pub both_of_surface-words-requires : goal.both_of_surface-words-requires
both_of_surface-words-requires c =
    let l = c.if-code-lt-FIRST_SIDE.false in
    record {
      fact = side_job c.requires.fact l;
      fact_2 = side_job c.requires.fact_2 l;
      axis_lt_most_axes = c.requires.axis_lt_most_axes;
      power_place = c.requires.power_place;
      value_of = side_value c.requires.value_of;
    }

pub overflow_sub-result : goal.overflow_sub-result
overflow_sub-result c =
    let l = c.if-code-lt-FIRST_SIDE.false in
    exchange_fits c.requires.fact l (c.both_of_surface-words.ensures.fact_3 (side_job c.requires.fact l)) refl

pub overflow_sub-result-then-code-eq1 : goal.overflow_sub-result-then-code-eq1
overflow_sub-result-then-code-eq1 c =
    let l = c.if-code-lt-FIRST_SIDE.false in
    exchange_fits c.requires.fact_2 l (c.both_of_surface-words.ensures.fact_4 (side_job c.requires.fact_2 l)) refl

pub returns-then-code-eq1 : goal.returns-then-code-eq1
returns-then-code-eq1 c =
    let l = c.if-code-lt-FIRST_SIDE.false in let k = c.if-code-eq1.true in
    record {
      fact_3 = λ job. gives_reversed job l (c.both_of_surface-words.ensures.fact_3 (side_job job l)) k refl;
      fact_4 = λ job. gives_reversed job l (c.both_of_surface-words.ensures.fact_4 (side_job job l)) k refl;
    }

pub returns : goal.returns
returns c =
    let l = c.if-code-lt-FIRST_SIDE.false in let k = c.if-code-eq1.false in
    record {
      fact_3 = λ job. gives_own job l (c.both_of_surface-words.ensures.fact_3 (side_job job l)) k;
      fact_4 = λ job. gives_own job l (c.both_of_surface-words.ensures.fact_4 (side_job job l)) k;
    }
