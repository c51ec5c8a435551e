-- Both values and amounts are small, so that nothing overflows.
use Rattle.convert.proofs.Slots.{storing_start, storing_end, amount_fits, sum_fits, rest_fits, raising, lowering}
use Rattle.convert.proofs.carried.move_to.Goals as goal

pub loop-i-init : goal.loop-i-init
loop-i-init c = (storing_start, storing_start)

pub overflow_cast-least : goal.overflow_cast-least
overflow_cast-least c = amount_fits c.requires.movable c.loop-i.invariant.0 c.loop-i-test.true

pub overflow_add-least-in-loop-i : goal.overflow_add-least-in-loop-i
overflow_add-least-in-loop-i c = sum_fits c.requires.movable c.loop-i.invariant.0 c.loop-i-test.true

pub overflow_cast-greatest : goal.overflow_cast-greatest
overflow_cast-greatest c = amount_fits c.requires.movable_2 c.loop-i.invariant.1 c.loop-i-test.true

pub overflow_sub-greatest : goal.overflow_sub-greatest
overflow_sub-greatest c = rest_fits c.requires.movable_2 c.loop-i.invariant.1 c.loop-i-test.true

pub loop-i-preserved : goal.loop-i-preserved
loop-i-preserved c = (
  raising c.requires.movable c.loop-i.invariant.0 c.loop-i-test.true,
  lowering c.requires.movable_2 c.loop-i.invariant.1 c.loop-i-test.true,
)

pub returns : goal.returns
returns c = record {
  least_after = storing_end c.loop-i.invariant.0 c.loop-i-test.false;
  greatest_after = storing_end c.loop-i.invariant.1 c.loop-i-test.false;
}
