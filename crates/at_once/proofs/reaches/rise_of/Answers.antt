-- `rise_of`: the six steps added up, less what falls.
use Rattle.at_once.proofs.Falling.{step_part, step_same, two_fits, three_fits, four_fits, five_fits, six_fits, six_are, rest_fits, rest_is}
use Rattle.at_once.proofs.reaches.rise_of.Goals as goal

pub overflow_add-all : goal.overflow_add-all
overflow_add-all c =
    two_fits c.requires step_part (step_same c.requires 0) (step_same c.requires 1) (step_same c.requires 2) (step_same c.requires 3)
    (step_same c.requires 4) (step_same c.requires 5)

pub overflow_add-all-2 : goal.overflow_add-all-2
overflow_add-all-2 c =
    three_fits c.requires step_part (step_same c.requires 0) (step_same c.requires 1) (step_same c.requires 2) (step_same c.requires 3)
    (step_same c.requires 4) (step_same c.requires 5)

pub overflow_add-all-3 : goal.overflow_add-all-3
overflow_add-all-3 c =
    four_fits c.requires step_part (step_same c.requires 0) (step_same c.requires 1) (step_same c.requires 2) (step_same c.requires 3)
    (step_same c.requires 4) (step_same c.requires 5)

pub overflow_add-all-4 : goal.overflow_add-all-4
overflow_add-all-4 c =
    five_fits c.requires step_part (step_same c.requires 0) (step_same c.requires 1) (step_same c.requires 2) (step_same c.requires 3)
    (step_same c.requires 4) (step_same c.requires 5)

pub overflow_add-all-5 : goal.overflow_add-all-5
overflow_add-all-5 c =
    six_fits c.requires step_part (step_same c.requires 0) (step_same c.requires 1) (step_same c.requires 2) (step_same c.requires 3)
    (step_same c.requires 4) (step_same c.requires 5)

pub overflow_sub-result : goal.overflow_sub-result
overflow_sub-result c =
    rest_fits c.requires (six_are c.requires step_part (step_same c.requires 0) (step_same c.requires 1) (step_same c.requires 2) (step_same c.requires 3)
    (step_same c.requires 4) (step_same c.requires 5)) c.fall_of.ensures

pub returns : goal.returns
returns c =
    rest_is c.requires (six_are c.requires step_part (step_same c.requires 0) (step_same c.requires 1) (step_same c.requires 2) (step_same c.requires 3)
    (step_same c.requires 4) (step_same c.requires 5)) c.fall_of.ensures
