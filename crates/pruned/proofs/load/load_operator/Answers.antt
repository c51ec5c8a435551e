-- `load_operator`: MINUS turns over what stands behind the start, and then every operator's node is stored behind that.
use Rattle.pruned.proofs.Loadings.{turning_asks, joined_turned, joined_plain}
use Rattle.pruned.proofs.load.load_operator.Goals as goal

pub returns-then-word-eq-MINUS : goal.returns-then-word-eq-MINUS
returns-then-word-eq-MINUS c = λ j.
    joined_turned j c.if-word-eq-MINUS.true (c.turn.ensures (turning_asks j)) c.store_node.ensures

pub returns : goal.returns
returns c = λ j. joined_plain j c.if-word-eq-MINUS.false c.store_node-2.ensures
