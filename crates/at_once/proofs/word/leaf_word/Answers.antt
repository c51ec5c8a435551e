-- `leaf_word` by the kind of the leaf that the code has.
use Rattle.at_once.proofs.LeafWords.{gives_white, gives_black, side_job, side_value, exchange_fits, gives_own, gives_reversed}
use Rattle.at_once.proofs.word.leaf_word.Goals as goal

pub all_ones-ones-requires : goal.all_ones-ones-requires
all_ones-ones-requires c = c.requires.fact.block.few

pub returns-then-code-eq0 : goal.returns-then-code-eq0
returns-then-code-eq0 c = λ job. gives_white job c.if-code-eq0.true

pub returns-then-code-lt-FIRST_SIDE : goal.returns-then-code-lt-FIRST_SIDE
returns-then-code-lt-FIRST_SIDE c = λ job. gives_black job c.if-code-eq0.false c.if-code-lt-FIRST_SIDE.true c.all_ones-ones.ensures

pub surface_word-word-requires : goal.surface_word-word-requires
surface_word-word-requires c =
    record { fact = side_job c.requires.fact c.if-code-lt-FIRST_SIDE.false; value_of = side_value c.requires.value_of }

pub overflow_sub-result : goal.overflow_sub-result
overflow_sub-result c = let l = c.if-code-lt-FIRST_SIDE.false in
    let job = c.requires.fact in
    exchange_fits job l (c.surface_word-word.ensures (side_job job l)) c.all_ones-ones.ensures

pub returns-then-code-eq1 : goal.returns-then-code-eq1
returns-then-code-eq1 c = let l = c.if-code-lt-FIRST_SIDE.false in
    λ job. gives_reversed job l (c.surface_word-word.ensures (side_job job l)) c.if-code-eq1.true c.all_ones-ones.ensures

pub returns : goal.returns
returns c = let l = c.if-code-lt-FIRST_SIDE.false in
    λ job. gives_own job l (c.surface_word-word.ensures (side_job job l)) c.if-code-eq1.false
