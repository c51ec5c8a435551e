-- At each turn the tree at hand and the high halves still to come tell what the whole walk tells.
use Rattle.universe.specs.Universe.{levels}
use Rattle.bintree.specs.Reading.{read_at}
use Rattle.bintree.specs.Windows.{watched}
use Rattle.bintree.proofs.Watching.{Watching}
use Rattle.bintree.proofs.window.watch.Given as goal

abbrev pub invariant-loop-place : goal.invariant-loop-place
invariant-loop-place l =
    Watching l.window l.expression (watched l.window (read_at l.expression (levels l.window.accepted.universe) 0)) l.bits l.later l.first_frames l.place
    l.levels l.from l.owed l.volume l.found
