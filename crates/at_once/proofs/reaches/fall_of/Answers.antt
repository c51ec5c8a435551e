-- `fall_of`: six small numbers, added up.
use mathlib.Core.Path.{◌∙◌}
use Rattle.pruned.proofs.Moving.{held}
use Rattle.at_once.specs.Words.{step_at}
use Rattle.at_once.proofs.Falling.{min_falls, fall_part, two_fits, three_fits, four_fits, five_fits, six_fits, six_are}
use Rattle.at_once.proofs.reaches.fall_of.Goals as goal

pub overflow_add-result : goal.overflow_add-result
overflow_add-result c =
    two_fits c.requires fall_part
    (c.min-one.ensures.value ∙ min_falls (held (step_at c.args.steps.now 0)))
    (c.min-two.ensures.value ∙ min_falls (held (step_at c.args.steps.now 1)))
    (c.min-three.ensures.value ∙ min_falls (held (step_at c.args.steps.now 2)))
    (c.min-four.ensures.value ∙ min_falls (held (step_at c.args.steps.now 3)))
    (c.min-five.ensures.value ∙ min_falls (held (step_at c.args.steps.now 4)))
    (c.min-six.ensures.value ∙ min_falls (held (step_at c.args.steps.now 5)))

pub overflow_add-result-2 : goal.overflow_add-result-2
overflow_add-result-2 c =
    three_fits c.requires fall_part
    (c.min-one.ensures.value ∙ min_falls (held (step_at c.args.steps.now 0)))
    (c.min-two.ensures.value ∙ min_falls (held (step_at c.args.steps.now 1)))
    (c.min-three.ensures.value ∙ min_falls (held (step_at c.args.steps.now 2)))
    (c.min-four.ensures.value ∙ min_falls (held (step_at c.args.steps.now 3)))
    (c.min-five.ensures.value ∙ min_falls (held (step_at c.args.steps.now 4)))
    (c.min-six.ensures.value ∙ min_falls (held (step_at c.args.steps.now 5)))

pub overflow_add-result-3 : goal.overflow_add-result-3
overflow_add-result-3 c =
    four_fits c.requires fall_part
    (c.min-one.ensures.value ∙ min_falls (held (step_at c.args.steps.now 0)))
    (c.min-two.ensures.value ∙ min_falls (held (step_at c.args.steps.now 1)))
    (c.min-three.ensures.value ∙ min_falls (held (step_at c.args.steps.now 2)))
    (c.min-four.ensures.value ∙ min_falls (held (step_at c.args.steps.now 3)))
    (c.min-five.ensures.value ∙ min_falls (held (step_at c.args.steps.now 4)))
    (c.min-six.ensures.value ∙ min_falls (held (step_at c.args.steps.now 5)))

pub overflow_add-result-4 : goal.overflow_add-result-4
overflow_add-result-4 c =
    five_fits c.requires fall_part
    (c.min-one.ensures.value ∙ min_falls (held (step_at c.args.steps.now 0)))
    (c.min-two.ensures.value ∙ min_falls (held (step_at c.args.steps.now 1)))
    (c.min-three.ensures.value ∙ min_falls (held (step_at c.args.steps.now 2)))
    (c.min-four.ensures.value ∙ min_falls (held (step_at c.args.steps.now 3)))
    (c.min-five.ensures.value ∙ min_falls (held (step_at c.args.steps.now 4)))
    (c.min-six.ensures.value ∙ min_falls (held (step_at c.args.steps.now 5)))

pub overflow_add-result-5 : goal.overflow_add-result-5
overflow_add-result-5 c =
    six_fits c.requires fall_part
    (c.min-one.ensures.value ∙ min_falls (held (step_at c.args.steps.now 0)))
    (c.min-two.ensures.value ∙ min_falls (held (step_at c.args.steps.now 1)))
    (c.min-three.ensures.value ∙ min_falls (held (step_at c.args.steps.now 2)))
    (c.min-four.ensures.value ∙ min_falls (held (step_at c.args.steps.now 3)))
    (c.min-five.ensures.value ∙ min_falls (held (step_at c.args.steps.now 4)))
    (c.min-six.ensures.value ∙ min_falls (held (step_at c.args.steps.now 5)))

pub returns : goal.returns
returns c =
    six_are c.requires fall_part
    (c.min-one.ensures.value ∙ min_falls (held (step_at c.args.steps.now 0)))
    (c.min-two.ensures.value ∙ min_falls (held (step_at c.args.steps.now 1)))
    (c.min-three.ensures.value ∙ min_falls (held (step_at c.args.steps.now 2)))
    (c.min-four.ensures.value ∙ min_falls (held (step_at c.args.steps.now 3)))
    (c.min-five.ensures.value ∙ min_falls (held (step_at c.args.steps.now 4)))
    (c.min-six.ensures.value ∙ min_falls (held (step_at c.args.steps.now 5)))
