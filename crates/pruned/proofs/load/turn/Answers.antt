-- `turn`: each node in its turn is turned over, and the others stay as they are.
use Rattle.std.proofs.Common.{◌<◌, ◌*◌, ◌∙◌, ap, arith}
use Rattle.pruned.specs.Nodes.{code_limit}
use Rattle.pruned.specs.Loading.{turned_number}
use Rattle.pruned.proofs.Turning.{turns_start, code_there, code_few, turns_on, turns_end, turned_few, stored_number}
use Rattle.pruned.proofs.load.turn.Goals as goal

pub loop-place-init : goal.loop-place-init
loop-place-init c = λ job. turns_start job

pub code_at-code-requires : goal.code_at-code-requires
code_at-code-requires c = code_there c.requires (c.loop-place.invariant c.requires) c.loop-place-test.true

pub turned_number-requires : goal.turned_number-requires
turned_number-requires c =
    omega (arith, c.code_at-code.ensures, code_few c.requires (c.loop-place.invariant c.requires) c.loop-place-test.true)

pub overflow_cast-work : goal.overflow_cast-work
overflow_cast-work c =
    let few = code_few c.requires (c.loop-place.invariant c.requires) c.loop-place-test.true in
    omega (arith, c.turned_number.ensures, turned_few c.code_at-code.result (omega (arith, c.code_at-code.ensures, few)))

pub loop-place-preserved : goal.loop-place-preserved
loop-place-preserved c = λ j.
    let g = c.loop-place.invariant j in
    let h = c.loop-place-test.true in
    let r = c.code_at-code.ensures in
    let f = turned_few c.code_at-code.result (omega (arith, r, code_few j g h)) in
    let m : c.turned_number.result < code_limit = omega (arith, c.turned_number.ensures, f) in
    rw (stored_number c.loop-place.work (3 * c.loop-place.place) m) (turns_on j g h (c.turned_number.ensures ∙ ap turned_number r))

pub returns : goal.returns
returns c = λ job. turns_end job (c.loop-place.invariant job) c.loop-place-test.false
