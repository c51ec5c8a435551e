-- Each answer is a law of proofs/Walks.antt.
use native.Mathlib.Omega.{arith}
use Rattle.std.proofs.Common.{rules}
use Rattle.bintree.proofs.Walks.{walking_first, walk_end, walk_deep, walk_other, walk_below, walk_owes, walk_open, walk_leaf, walk_past}
use Rattle.bintree.proofs.Walks.{next_few, next_owed, walk_next}
use Rattle.bintree.proofs.walk.walk.Goals.{in-40+else-levels-eq0, in-66+else-owed-eq0}
use Rattle.bintree.proofs.walk.walk.Goals as goal

pub loop-place-init : goal.loop-place-init
loop-place-init c = walking_first _ _ _ c.requires

pub returns-then-levels-eq0 : goal.returns-then-levels-eq0
returns-then-levels-eq0 c = walk_deep c.loop-place.invariant c.in-40.is c.if-levels-eq0.true

pub voxels_of-owed-requires : goal.voxels_of-owed-requires
voxels_of-owed-requires c = walk_below c.loop-place.invariant

pub overflow_add-owed : goal.overflow_add-owed
overflow_add-owed c = omega (arith, walk_owes c.loop-place.invariant c.if-levels-eq0.false _ c.voxels_of-owed.ensures)

pub returns-then-owed-eq0 : goal.returns-then-owed-eq0
returns-then-owed-eq0 c = walk_past (walk_leaf c.loop-place.invariant c.in-66.is) c.if-owed-eq0.true

pub voxels_of-owed-requires-in-66 : goal.voxels_of-owed-requires-in-66
voxels_of-owed-requires-in-66 c =
    next_few (walk_leaf c.loop-place.invariant c.in-66.is) c.if-owed-eq0.false _ c.levels_of-levels.ensures

pub overflow_sub-owed : goal.overflow_sub-owed
overflow_sub-owed c =
    next_owed (walk_leaf c.loop-place.invariant c.in-66.is) c.if-owed-eq0.false _ c.levels_of-levels.ensures _
    c.voxels_of-owed-in-66.ensures

pub returns-in_default : goal.returns-in_default
returns-in_default c = walk_other c.loop-place.invariant (λ e. search rules) (λ e. search rules) (λ e. search rules)

pub loop-place-preserved : goal.loop-place-preserved
loop-place-preserved c =
    let g = c.loop-place.invariant in
    elim c.match-expression-place.branch [
      | in-40+else-levels-eq0 w ↦
          rw (w.levels-is, w.owed-is) (walk_open g w.if-levels-eq0.false _ w.voxels_of-owed.ensures w.in-40.is)
      | in-66+else-owed-eq0 w ↦
          rw (w.levels-is, w.owed-is)
          (walk_next (walk_leaf g w.in-66.is) w.if-owed-eq0.false _ w.levels_of-levels.ensures _ w.voxels_of-owed-in-66.ensures)
    ]

pub returns : goal.returns
returns c = walk_end c.loop-place.invariant (omega arith)
