-- Each goal is a law of proofs/Levels.antt.
use Rattle.universe.proofs.Levels.{counting}
use Rattle.universe.proofs.accepted.Accepted.room.Goals as goal

pub loop-left-init : goal.loop-left-init
loop-left-init c = search counting

pub product_less-all-requires-clause-few_blocks : goal.product_less-all-requires-clause-few_blocks
product_less-all-requires-clause-few_blocks c = search counting

pub product_less-inner-requires-clause-few_blocks : goal.product_less-inner-requires-clause-few_blocks
product_less-inner-requires-clause-few_blocks c = search counting

pub level_count-sum-requires : goal.level_count-sum-requires
level_count-sum-requires c = search counting

pub overflow_add-sum : goal.overflow_add-sum
overflow_add-sum c = search counting

pub offset_bounds-axes-left : goal.offset_bounds-axes-left
offset_bounds-axes-left c = search counting

pub bounds-axes-left : goal.bounds-axes-left
bounds-axes-left c = search counting

pub offset_bounds-blocks-axes : goal.offset_bounds-blocks-axes
offset_bounds-blocks-axes c = search counting

pub bounds-blocks-axes : goal.bounds-blocks-axes
bounds-blocks-axes c = search counting

pub overflow_mul-blocks : goal.overflow_mul-blocks
overflow_mul-blocks c = search counting

pub bounds-blocks-axes-in-loop-left : goal.bounds-blocks-axes-in-loop-left
bounds-blocks-axes-in-loop-left c = search counting

pub loop-left-preserved : goal.loop-left-preserved
loop-left-preserved c = search counting

pub overflow_mul-result : goal.overflow_mul-result
overflow_mul-result c = search counting

pub overflow_add-result : goal.overflow_add-result
overflow_add-result c = search counting

pub returns : goal.returns
returns c = search counting
