-- Of the codes the bits are taken by which blocks are judged.
use Rattle.convert.proofs.Judging.{judge_told}
use Rattle.convert.proofs.judge.judge.Goals as goal

pub returns : goal.returns
returns c = judge_told _ _ c.args.left _ _ c.codes-codes.ensures c.judged_bits.ensures
