-- The table of axes, laid round after round (proofs/Laying.antt).
use native.Mathlib.Omega.{arith}
use Rattle.universe.proofs.Laying.{laying_first, laying_round, laying_here, laying_passed, laying_all, some_left}
use Rattle.universe.proofs.accepted.Accepted.axes_left.Goals as goal
use Rattle.universe.proofs.accepted.Accepted.axes_left.Goals.{then-round-axis_bits, else-round-axis_bits}

pub loop-round-init : goal.loop-round-init
loop-round-init c = laying_first _ c.args.self.not_refused c.levels-left.ensures

pub overflow_sub-left : goal.overflow_sub-left
overflow_sub-left c = some_left c.loop-axis.invariant c.loop-axis-test.true c.axis_bits.ensures c.if-round-axis_bits.true

pub loop-axis-preserved : goal.loop-axis-preserved
loop-axis-preserved c =
    let s = c.loop-axis.invariant in
    elim c.if-round-axis_bits.branch [
      | then-round-axis_bits w ↦ rw (w.axes-is, w.left-is) (laying_here s c.loop-axis-test.true c.axis_bits.ensures w.if-round-axis_bits.true)
      | else-round-axis_bits w ↦ rw (w.axes-is, w.left-is) (laying_passed s c.loop-axis-test.true c.axis_bits.ensures w.if-round-axis_bits.false)
    ]

pub loop-round-preserved : goal.loop-round-preserved
loop-round-preserved c = laying_round c.loop-axis.invariant (omega (arith, c.loop-axis.invariant.axis_in))

pub returns : goal.returns
returns c = laying_all c.loop-round.invariant (omega arith)
