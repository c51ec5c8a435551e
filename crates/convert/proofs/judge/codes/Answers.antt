-- The codes of the two trees are joined; a first tree that is WHITE over both blocks decides alone.
use Rattle.convert.proofs.Naming.{first_slots, second_slots}
use Rattle.convert.proofs.Judging.{codes_white, codes_joined}
use Rattle.convert.proofs.judge.codes.Goals as goal

pub codes_of_tree-a-requires-clause-slots : goal.codes_of_tree-a-requires-clause-slots
codes_of_tree-a-requires-clause-slots c = first_slots _ _

pub returns-then-a-eq-WHITE_BITS : goal.returns-then-a-eq-WHITE_BITS
returns-then-a-eq-WHITE_BITS c = codes_white _ _ _ _ _ _ c.codes_of_tree-a.ensures c.if-a-eq-WHITE_BITS.true

pub codes_of_tree-b-requires-clause-slots : goal.codes_of_tree-b-requires-clause-slots
codes_of_tree-b-requires-clause-slots c = second_slots _ _ c.requires.from_value

pub returns : goal.returns
returns c = codes_joined _ _ _ _ _ _ c.codes_of_tree-a.ensures c.codes_of_tree-b.ensures c.join_code.ensures
