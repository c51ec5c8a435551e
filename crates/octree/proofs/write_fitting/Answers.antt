-- `write_fitting` writes at once where so much room is lent as always suffices, else it measures first.
use Rattle.std.proofs.Common.{arith}
use Rattle.bintree.proofs.Ends.{ends_short, ends_written}
use Rattle.octree.proofs.write_fitting.Goals as goal

pub returns-then-most-out : goal.returns-then-most-out
returns-then-most-out g c symbols w =
    let a = w.written _ _ _ c.write.ensures in
    ends_written _ symbols a.0 (omega (arith, a.0, w.few)) a.1

pub returns-then-out-needed : goal.returns-then-out-needed
returns-then-out-needed g c symbols w = ends_short _ symbols (w.written _ _ _ c.write-needed.ensures).0 c.if-out-needed.true

pub returns : goal.returns
returns g c symbols w =
    ends_written _ symbols (w.written _ _ _ c.write-needed.ensures).0 c.if-out-needed.false (w.written _ _ _ c.write-2.ensures).1
