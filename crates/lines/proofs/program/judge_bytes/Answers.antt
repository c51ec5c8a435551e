-- The counts of a scene that is read are within the arrays that it was read into.
use Rattle.std.proofs.Common.{refl, arith, ◌∙◌}
use Rattle.files.proofs.Accepted.{answer_ready, rows_held, balls_held, first_held, second_held}
use Rattle.lines.proofs.Scenes.{read_lines}
use Rattle.lines.proofs.program.judge_bytes.Goals as goal

pub overflow_mul-rows : goal.overflow_mul-rows
overflow_mul-rows c = record { fits = omega (arith, (answer_ready c.args.bytes.now c.in_ok-scene.ensures.value refl).few_rows) }

pub overflow_mul-balls : goal.overflow_mul-balls
overflow_mul-balls c = record { fits = omega (arith, (answer_ready c.args.bytes.now c.in_ok-scene.ensures.value refl).few_balls) }

pub slice_bounds-rows-end : goal.slice_bounds-rows-end
slice_bounds-rows-end c = (rows_held c.args.bytes.now c.in_ok-scene.ensures.value refl _ c.in_ok-scene.ensures.rows_after).0

pub slice_bounds-judge-end : goal.slice_bounds-judge-end
slice_bounds-judge-end c = (rows_held c.args.bytes.now c.in_ok-scene.ensures.value refl _ c.in_ok-scene.ensures.rows_after).1

pub slice_bounds-balls-end : goal.slice_bounds-balls-end
slice_bounds-balls-end c = (balls_held c.args.bytes.now c.in_ok-scene.ensures.value refl _ c.in_ok-scene.ensures.balls_after).0

pub slice_bounds-judge-end-2 : goal.slice_bounds-judge-end-2
slice_bounds-judge-end-2 c = (balls_held c.args.bytes.now c.in_ok-scene.ensures.value refl _ c.in_ok-scene.ensures.balls_after).1

pub slice_bounds-first-end : goal.slice_bounds-first-end
slice_bounds-first-end c = (first_held c.args.bytes.now c.in_ok-scene.ensures.value refl _ c.in_ok-scene.ensures.first_after).0

pub slice_bounds-judge-end-3 : goal.slice_bounds-judge-end-3
slice_bounds-judge-end-3 c = (first_held c.args.bytes.now c.in_ok-scene.ensures.value refl _ c.in_ok-scene.ensures.first_after).1

pub slice_bounds-second-end : goal.slice_bounds-second-end
slice_bounds-second-end c = (second_held c.args.bytes.now c.in_ok-scene.ensures.value refl _ c.in_ok-scene.ensures.second_after).0

pub slice_bounds-judge-end-4 : goal.slice_bounds-judge-end-4
slice_bounds-judge-end-4 c = (second_held c.args.bytes.now c.in_ok-scene.ensures.value refl _ c.in_ok-scene.ensures.second_after).1

pub returns : goal.returns
returns c =
    let read = c.in_ok-scene.ensures in
    c.judge.ensures
    ∙ read_lines c.args.bytes.now _ read.value read.rows_after read.balls_after read.first_after read.second_after
