-- `lay_rows` copies row after row; after six of them all rows of the stretch stand there.
use Rattle.std.proofs.Common.{arith}
use Rattle.mover.specs.Keys.{mover_lent}
use Rattle.mover.proofs.Scenes.{numbers_count, laid_all}
use Rattle.mover.proofs.scene.lay_rows.Goals as goal

pub returns-clause-result_value : goal.returns-clause-result_value
returns-clause-result_value c =
    let m = mover_lent c.args.mover in
    omega (arith, numbers_count m c.args.i c.args.rows.now)

pub returns-clause-all_after : goal.returns-clause-all_after
returns-clause-all_after c =
    let m = mover_lent c.args.mover in
    laid_all m c.args.i c.args.rows.now c.args.all.now c.loop-row.invariant.0 (omega arith) c.rows_of-row-items.ensures c.loop-row.invariant.1
