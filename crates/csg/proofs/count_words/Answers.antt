-- `count_words` reads word after word. Each answer is a law of proofs/Checking.antt.
use Rattle.std.proofs.Common.{true, false, rules}
use Rattle.csg.proofs.Checking.{names_more, names_same, names_end}
use Rattle.csg.proofs.count_words.Goals.{then-is_among, else-is_among}
use Rattle.csg.proofs.count_words.Goals as goal

pub loop-word-preserved : goal.loop-word-preserved
loop-word-preserved c =
    elim c.if-is_among.branch [
      | then-is_among w ↦ rw (w.count-is) (names_more c.loop-word.invariant c.loop-word-test.true (search rules))
      | else-is_among w ↦ rw (w.count-is) (names_same c.loop-word.invariant c.loop-word-test.true (search rules))
    ]

pub returns : goal.returns
returns c = names_end c.loop-word.invariant c.loop-word-test.false
