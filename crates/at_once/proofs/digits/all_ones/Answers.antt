-- `all_ones` shifts the digits that the block does not have out of a word of ones.
use Rattle.at_once.proofs.Shifts.{voxels_fit, voxels_some, ones_shifted}
use Rattle.at_once.proofs.digits.all_ones.Goals as goal

pub overflow_sub-result : goal.overflow_sub-result
overflow_sub-result c = voxels_fit c.args.left c.requires

pub overflow_shr-result : goal.overflow_shr-result
overflow_shr-result c = voxels_some c.args.left c.requires

pub returns : goal.returns
returns c = ones_shifted c.args.left c.requires
