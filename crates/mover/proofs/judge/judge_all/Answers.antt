-- `judge_all` judges stretch after stretch, joins their verdicts, and each writes over what the one before it left. Each answer is a law of
-- proofs/Judging.antt.
use Rattle.std.proofs.Common.{arith}
use Rattle.mover.proofs.Judging.{judged_start, next_room, next_joins, next_sofar, judged_all, left_all_of}
use Rattle.mover.proofs.judge.judge_all.Goals as goal

pub loop-i-init : goal.loop-i-init
loop-i-init c = judged_start c.requires

pub judge_stretch-requires-clause-i_in_bounds : goal.judge_stretch-requires-clause-i_in_bounds
judge_stretch-requires-clause-i_in_bounds c = next_room c.loop-i.invariant (omega arith)

pub joined-verdict-requires : goal.joined-verdict-requires
joined-verdict-requires c = next_joins c.loop-i.invariant (omega arith) c.in_ok-next.ensures.result_value

pub loop-i-preserved : goal.loop-i-preserved
loop-i-preserved c =
    next_sofar c.loop-i.invariant (omega arith) c.in_ok-next.ensures.result_value c.in_ok-next.ensures.out_after c.joined-verdict.ensures

pub returns-clause-result_value : goal.returns-clause-result_value
returns-clause-result_value c = judged_all c.loop-i.invariant (omega arith)

pub returns-clause-out_after : goal.returns-clause-out_after
returns-clause-out_after c = left_all_of c.loop-i.invariant (omega arith)
