-- `whole_extremes`: what has been added stays small, and one axis more is one more step of the definition.
use Rattle.std.proofs.Common.{◌≡◌, ◌+◌, ◌*◌, ◌<◌, suc, add-one, arith}
use Rattle.universe.specs.Universe.{most_axes}
use Rattle.pruned.proofs.Wholes.{starts, asks, goes_on}
use Rattle.pruned.proofs.leaf.whole_extremes.Goals.{In-loop-axis}
use Rattle.pruned.proofs.leaf.whole_extremes.Goals as goal

within : (c : In-loop-axis) → c.loop-axis.axis < most_axes
within c = omega (arith, c.requires.few, c.loop-axis-test.true)

-- the place of the coefficient, as the definition has it
place : (c : In-loop-axis) → 5 * c.args.i + 1 + c.loop-axis.axis ≡ 5 * c.args.i + suc c.loop-axis.axis
place c = omega arith

pub loop-axis-init : goal.loop-axis-init
loop-axis-init c = starts c.requires

pub widened-values-requires-clause-small_coefficient : goal.widened-values-requires-clause-small_coefficient
widened-values-requires-clause-small_coefficient c =
    let k = (goal.at.widened-values-requires-clause-small_coefficient c).In-loop-axis in
    rw (place k) (asks c.requires c.loop-axis.axis (within k) c.loop-axis.invariant).0

pub widened-values-requires-clause-small_extreme : goal.widened-values-requires-clause-small_extreme
widened-values-requires-clause-small_extreme c =
    let k = (goal.at.widened-values-requires-clause-small_extreme c).In-loop-axis in
    (asks c.requires c.loop-axis.axis (within k) c.loop-axis.invariant).1.1.0

pub widened-values-requires-clause-small_extreme_2 : goal.widened-values-requires-clause-small_extreme_2
widened-values-requires-clause-small_extreme_2 c =
    let k = (goal.at.widened-values-requires-clause-small_extreme_2 c).In-loop-axis in
    (asks c.requires c.loop-axis.axis (within k) c.loop-axis.invariant).1.1.1

pub loop-axis-preserved : goal.loop-axis-preserved
loop-axis-preserved c =
    let k = (goal.at.loop-axis-preserved c).In-loop-axis in
    rw add-one (goes_on c.requires c.loop-axis.axis (within k) c.loop-axis.invariant (rw (place k) at c.widened-values.ensures))
