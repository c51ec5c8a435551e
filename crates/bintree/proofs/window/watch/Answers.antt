-- Each answer is a law of proofs/Watching.antt; a leaf's are by its colour.
use mathlib.Core.Path.{refl, ◌∙◌}
use native.Mathlib.Omega.{arith}
use Rattle.std.proofs.Common.{rules}
use Rattle.bintree.proofs.Watching.{watching_start, watching_end, watching_deep, watching_other, watching_frames, watching_open}
use Rattle.bintree.proofs.Watching.{level_fits, level_few, level_room, later_fits, owed_fits, left_few, left_fits, left_room}
use Rattle.bintree.proofs.Watching.{volume_fits, watching_voxels, watching_bits, leafed_black, leafed_white, watching_last}
use Rattle.bintree.proofs.Watching.{due_fits, due_few, due_owed, watching_next}
use Rattle.bintree.proofs.window.watch.Goals.{in-40+else-levels-eq0, in-66+else-owed-eq0, then-symbol-eq66, else-symbol-eq66}
use Rattle.bintree.proofs.window.watch.Goals as goal

pub loop-place-init : goal.loop-place-init
loop-place-init c =
    watching_start _ _ _ _ _ _ _ c.frame_bits-bits.ensures c.later_frames-later.ensures refl c.levels-levels.ensures
    c.no_contact-found.ensures

pub returns-then-levels-eq0 : goal.returns-then-levels-eq0
returns-then-levels-eq0 c = watching_deep c.loop-place.invariant c.in-40.is c.if-levels-eq0.true

pub offset_bounds-later-levels : goal.offset_bounds-later-levels
offset_bounds-later-levels c = omega (arith, level_room c.loop-place.invariant c.if-levels-eq0.false)

pub bounds-later-levels : goal.bounds-later-levels
bounds-later-levels c = level_fits c.loop-place.invariant c.if-levels-eq0.false

pub overflow_add-first_frames : goal.overflow_add-first_frames
overflow_add-first_frames c = omega (arith, later_fits c.loop-place.invariant c.if-levels-eq0.false)

pub offset_bounds-first_frames-levels : goal.offset_bounds-first_frames-levels
offset_bounds-first_frames-levels c = omega (arith, level_room c.loop-place.invariant c.if-levels-eq0.false)

pub bounds-first_frames-levels : goal.bounds-first_frames-levels
bounds-first_frames-levels c = level_fits c.loop-place.invariant c.if-levels-eq0.false

pub voxels_of-owed-requires : goal.voxels_of-owed-requires
voxels_of-owed-requires c = level_few c.loop-place.invariant c.if-levels-eq0.false

pub overflow_add-owed : goal.overflow_add-owed
overflow_add-owed c = omega (arith, owed_fits c.loop-place.invariant c.if-levels-eq0.false _ c.voxels_of-owed.ensures)

pub offset_bounds-bits-levels : goal.offset_bounds-bits-levels
offset_bounds-bits-levels c = omega (arith, left_room c.loop-place.invariant)

pub bounds-bits-levels : goal.bounds-bits-levels
bounds-bits-levels c = left_fits c.loop-place.invariant

pub voxels_of-volume-requires : goal.voxels_of-volume-requires
voxels_of-volume-requires c = left_few c.loop-place.invariant

pub overflow_add-volume : goal.overflow_add-volume
overflow_add-volume c = omega (arith, volume_fits c.loop-place.invariant _ c.voxels_of-volume.ensures)

pub overflow_sub-levels-then-symbol-eq66 : goal.overflow_sub-levels-then-symbol-eq66
overflow_sub-levels-then-symbol-eq66 c = watching_bits c.loop-place.invariant

pub touch-found-requires-clause-bits_bound : goal.touch-found-requires-clause-bits_bound
touch-found-requires-clause-bits_bound c = watching_frames c.loop-place.invariant

pub touch-found-requires-clause-rest_bound : goal.touch-found-requires-clause-rest_bound
touch-found-requires-clause-rest_bound c = watching_voxels c.loop-place.invariant

pub returns-then-owed-eq0 : goal.returns-then-owed-eq0
returns-then-owed-eq0 c =
    let g = c.loop-place.invariant in
    elim c.if-symbol-eq66.branch [
      | then-symbol-eq66 a ↦
          watching_last g _ _
          (leafed_black g _ _ _ a.voxels_of-volume.ensures a.if-symbol-eq66.true a.volume-is (a.found-is ∙ a.touch-found.ensures))
          c.if-owed-eq0.true
      | else-symbol-eq66 a ↦
          watching_last g _ _ (leafed_white g _ _ c.in-66.is a.if-symbol-eq66.false a.volume-is a.found-is) c.if-owed-eq0.true
    ]

pub voxels_of-owed-requires-in-66 : goal.voxels_of-owed-requires-in-66
voxels_of-owed-requires-in-66 c = due_few c.loop-place.invariant c.if-owed-eq0.false _ c.levels_of-levels.ensures

pub overflow_sub-owed : goal.overflow_sub-owed
overflow_sub-owed c =
    due_owed c.loop-place.invariant c.if-owed-eq0.false _ c.levels_of-levels.ensures _ c.voxels_of-owed-in-66.ensures

pub bounds-first_frames-levels-in-66 : goal.bounds-first_frames-levels-in-66
bounds-first_frames-levels-in-66 c = due_fits c.loop-place.invariant c.if-owed-eq0.false _ c.levels_of-levels.ensures

pub returns-in_default : goal.returns-in_default
returns-in_default c = watching_other c.loop-place.invariant (λ e. search rules) (λ e. search rules) (λ e. search rules)

pub loop-place-preserved : goal.loop-place-preserved
loop-place-preserved c =
    let g = c.loop-place.invariant in
    elim c.match-symbol.branch [
      | in-40+else-levels-eq0 w ↦
          rw (w.first_frames-is, w.levels-is, w.from-is, w.owed-is, w.volume-is, w.found-is)
          (watching_open g w.if-levels-eq0.false _ w.voxels_of-owed.ensures w.in-40.is)
      | in-66+else-owed-eq0 w ↦
          rw (w.first_frames-is, w.levels-is, w.from-is, w.owed-is, w.volume-is, w.found-is)
          (elim w.if-symbol-eq66.branch [
            | then-symbol-eq66 a ↦
                watching_next g w.if-owed-eq0.false _ w.levels_of-levels.ensures _ w.voxels_of-owed-in-66.ensures _ _
                (leafed_black g _ _ _ a.voxels_of-volume.ensures a.if-symbol-eq66.true a.volume-is (a.found-is ∙ a.touch-found.ensures))
            | else-symbol-eq66 a ↦
                watching_next g w.if-owed-eq0.false _ w.levels_of-levels.ensures _ w.voxels_of-owed-in-66.ensures _ _
                (leafed_white g _ _ w.in-66.is a.if-symbol-eq66.false a.volume-is a.found-is)
          ])
    ]

pub returns : goal.returns
returns c = watching_end c.loop-place.invariant (omega arith)
