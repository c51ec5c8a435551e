-- `leaf_words` by the kind of the leaf that the code has.
use Rattle.at_once.proofs.LeafWords.{side_value, side_job}
use Rattle.at_once.proofs.OwnLeaves.{three_white, three_black, three_own, three_within, three_reversed}
use Rattle.at_once.proofs.three.leaf_words.Goals as goal

pub returns-then-code-eq0 : goal.returns-then-code-eq0
returns-then-code-eq0 c =
    λ job. three_white job c.if-code-eq0.true c.alike.ensures

pub all_ones-ones-requires : goal.all_ones-ones-requires
all_ones-ones-requires c =
    c.requires.fact.block.few

pub returns-then-code-lt-FIRST_SIDE : goal.returns-then-code-lt-FIRST_SIDE
returns-then-code-lt-FIRST_SIDE c =
    λ job. three_black job c.if-code-eq0.false c.if-code-lt-FIRST_SIDE.true c.all_ones-ones.ensures c.alike-then-code-lt-FIRST_SIDE.ensures

pub surface_words-words-requires : goal.surface_words-words-requires
surface_words-words-requires c =
    record { fact = side_job c.requires.fact c.if-code-lt-FIRST_SIDE.false; value_of = side_value c.requires.value_of }

pub reversed-requires : goal.reversed-requires
reversed-requires c =
    let l = c.if-code-lt-FIRST_SIDE.false in three_within c.requires.fact l (c.surface_words-words.ensures (side_job c.requires.fact l)) c.all_ones-ones.ensures

pub returns-then-code-eq1 : goal.returns-then-code-eq1
returns-then-code-eq1 c =
    let l = c.if-code-lt-FIRST_SIDE.false in
    λ job. three_reversed job l (c.surface_words-words.ensures (side_job job l)) c.all_ones-ones.ensures c.if-code-eq1.true c.reversed.ensures

pub returns : goal.returns
returns c =
    let l = c.if-code-lt-FIRST_SIDE.false in λ job. three_own job l (c.surface_words-words.ensures (side_job job l)) c.if-code-eq1.false
