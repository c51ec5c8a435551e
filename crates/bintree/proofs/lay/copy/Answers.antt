-- `copy` puts in what there is room for, one by one. Each answer is a law of lemmas' Stores.
use Rattle.std.proofs.Common.{rules}
use Rattle.lemmas.proofs.Stores.{copying_none, copying_next, copying_end}
use Rattle.bintree.proofs.lay.copy.Goals as goal

pub loop-i-preserved : goal.loop-i-preserved
loop-i-preserved c =
    copying_next c.args.symbols.now c.args.out.now c.args.at c.min-count.result c.loop-i.i c.loop-i.out c.loop-i.invariant c.loop-i-test.true

pub returns-after-loop-i : goal.returns-after-loop-i
returns-after-loop-i c =
    copying_end c.args.symbols.now c.args.out.now c.args.at c.min-count.result c.loop-i.i c.loop-i.out c.loop-i.invariant c.loop-i-test.false

pub returns-else-at-out : goal.returns-else-at-out
returns-else-at-out c = copying_none c.args.symbols.now c.args.out.now c.args.at (search rules)
